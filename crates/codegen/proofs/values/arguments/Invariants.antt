use Rattle.std.proofs.Common.{map, take}
use Rattle.typed_tree.specs.Views.{arg_view}
use Rattle.codegen.specs.Codes.{Fit, IsArg}
use Rattle.codegen.proofs.values.arguments.Given as goal

-- the arguments so far have their code
abbrev pub invariant-loop-arg : goal.invariant-loop-arg
invariant-loop-arg l = Fit IsArg l.made.items (map arg_view (take l.arg-index l.args))
