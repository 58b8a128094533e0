-- the parts before this one
use Rattle.std.proofs.Common.{◌≡◌, map}
use Rattle.std.specs.List.{range_with_len}
use Rattle.gang_model.specs.Types.Tree.{Variable}
use Rattle.gang_model.specs.Debugger.Debugger.{Debugger, Setting}
use Rattle.debug_traits.specs.Frames.{ShowsNamedAt}
use Rattle.adapter_replies.specs.Variables.{told_part, variable_view, words_at}
use Rattle.adapter_replies.specs.Waiting.{position_lanes}
use Rattle.adapter_replies.proofs.parts.parts_from.Given as goal

abbrev pub invariant-loop-offset : goal.invariant-loop-offset
invariant-loop-offset g l =
    (s : Setting) (d : Debugger) (v : Variable) → g.M.RecordedMachine.stands l.machine s d → ShowsNamedAt s d l.depth v l.named
    → map variable_view l.told.items ≡ map (told_part l.form (position_lanes l.position) v (words_at s d l.depth v)) (range_with_len l.first l.offset)
