use Rattle.std.proofs.Common.{◌≡◌, ℕ, List, drop, map}
use Rattle.std.specs.Option.{option_or}
use Rattle.typed_tree.specs.Views.{global_view}
use Rattle.debug_inputs.specs.Remaining.{file_receivers, first_named, remaining_at}
use Rattle.debug_inputs.proofs.receivers.Receivers.add_globals.Given as goal

abbrev pub invariant-loop-global : goal.invariant-loop-global
invariant-loop-global l = (name : List ℕ)
    → option_or (remaining_at l.self name) (first_named (file_receivers (map global_view (drop l.global-index l.globals))) name)
    ≡ option_or (remaining_at l.initial.self name) (first_named (file_receivers (map global_view l.globals)) name)
