-- the ranges before this one
use Rattle.std.proofs.Common.{◌≡◌, ℕ, map}
use Rattle.std.specs.List.{range_with_len}
use Rattle.gang_model.specs.Types.Tree.{Variable}
use Rattle.gang_model.specs.Debugger.Debugger.{Debugger, Setting}
use Rattle.debug_traits.specs.Frames.{ShowsNamedAt}
use Rattle.adapter_replies.specs.Variables.{told_range, variable_view}
use Rattle.adapter_replies.proofs.parts.ranges.Given as goal

abbrev pub invariant-loop-range : goal.invariant-loop-range
invariant-loop-range l =
    (s : Setting) (d : Debugger) (depth : ℕ) (v : Variable) → ShowsNamedAt s d depth v l.named
    → map variable_view l.told.items ≡ map (told_range v l.named.shown.count l.place) (range_with_len 0 l.range)
