use Rattle.std.proofs.Common.{◌∙◌, ap, map, sym, arith}
use Rattle.std.proofs.lemmas.List.{drop_all}
use Rattle.typed_tree.specs.Views.{function_view, program_view}
use Rattle.lane_pure.specs.Callers.{lists, with_functions}
use Rattle.lane_pure.proofs.Calling.{are_callers}
use Rattle.lane_pure.proofs.callers.callers_of.Goals as goal

pub returns : goal.returns
returns c =
    let n = c.loop-number.number in
    let callers = lists c.loop-number.callers.items in
    let none = drop_all n c.deref-function-items.result.now (omega (arith, c.loop-number-test.false)) in
    are_callers (program_view c.args.program.now) callers (sym (ap (λ fs. with_functions n (map function_view fs) callers) none) ∙ c.loop-number.invariant)
