-- what is left is still to be added
use Rattle.std.proofs.Common.{◌≡◌, ◌++◌, drop, map}
use Rattle.typed_tree.specs.Views.{arg_view}
use Rattle.element_accesses.specs.Found.{args_in}
use Rattle.element_accesses.specs.Views.{founds_view}
use Rattle.element_accesses.proofs.finding.add_args.Given as goal

abbrev pub invariant-loop-arg : goal.invariant-loop-arg
invariant-loop-arg l = founds_view l.found.items ++ args_in l.spot (map arg_view (drop l.arg-index l.args)) ≡ founds_view l.initial.found.items ++ args_in l.spot (map arg_view l.fn.args)
