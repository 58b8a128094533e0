use Rattle.std.proofs.Common.{ap, ◌∙◌}
use Rattle.std.specs.Prelude.{Err}
use Rattle.std.proofs.lemmas.Result.{err_from_is_err_and}
use Rattle.gang_types.specs.Masks.{lanes_of}
use Rattle.gang_types.specs.MaskLaws.{length-lanes_of_word}
use Rattle.cross_lane.specs.Calls.{answer_of, fault_of}
use Rattle.frame_steps.proofs.ChangedValues.{changed_fault, changed_values}
use Rattle.frame_steps.proofs.assignments.changed.Goals as goal

pub returns-in_err-result : goal.returns-in_err-result
returns-in_err-result g c =
    let p = err_from_is_err_and c.from_residual.result c.from_residual.ensures.1 in
    ap answer_of p.1
    ∙ ap (λ found. Err (fault_of found)) p.2
    ∙ changed_fault g.row.W (lanes_of g.row.W c.args.lanes) c.args.change c.args.old c.args.operands (length-lanes_of_word g.row.W c.args.lanes.word)
    c.convert-left.result c.in_err-result.field-0.0 c.convert-left.ensures c.in_err-result.ensures

pub returns : goal.returns
returns g c =
    changed_values g.row.W (lanes_of g.row.W c.args.lanes) c.args.change c.args.old c.args.operands (length-lanes_of_word g.row.W c.args.lanes.word)
    c.convert-left.result c.in_ok-result.result c.convert.result c.convert-left.ensures c.in_ok-result.ensures c.convert.ensures
