-- the functions before this one have other names
use Rattle.std.proofs.Common.{◌≡◌, drop}
use Rattle.std.specs.Prelude.{map}
use Rattle.typed_tree.specs.Views.{function_view}
use Rattle.placed_expressions.specs.Refusals.{is_function}
use Rattle.placed_expressions.proofs.called.is_function.Given as goal

abbrev pub invariant-loop-function : goal.invariant-loop-function
invariant-loop-function l = is_function (map function_view (drop l.function-index l.functions)) l.name ≡ is_function (map function_view l.functions) l.name
