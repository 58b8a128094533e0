use Rattle.std.proofs.Common.{drop, map}
use Rattle.source_tree.specs.Tree.{param_view}
use Rattle.type_check_functions.proofs.Parameters.{AreDeclared}
use Rattle.type_check_functions.proofs.functions.declare_params.Given as goal

abbrev pub invariant-loop-param : goal.invariant-loop-param
invariant-loop-param l =
    AreDeclared (map param_view l.fn.params) l.fn.scope.entries (map param_view (drop l.param-index l.params)) l.scope.entries l.scope.locals l.param-index
