-- what is asked for so far
use Rattle.std.proofs.Common.{◌≡◌, flat_map, map, take}
use Rattle.typed_tree.specs.Views.{program_view}
use Rattle.adapter_session.specs.Changes.{asked_view, of_function}
use Rattle.adapter_session.proofs.changes.asked_functions.Given as goal

abbrev pub invariant-loop-function : goal.invariant-loop-function
invariant-loop-function l = map asked_view l.all.items ≡ flat_map (of_function (program_view l.program)) (take l.function-index l.functions)
