use Rattle.std.proofs.Common.{◌∙◌, ap, subst, Err}
use Rattle.gang_types.specs.Masks.{lanes_of}
use Rattle.gang_model.specs.Running.Value.{value}
use Rattle.expression_runs.specs.Evaluated.{IsValue}
use Rattle.frame_steps.proofs.ExpressionValues.{value_by_code}
use Rattle.gang_machine.proofs.stores.next_value.Goals as goal

pub unreachable-requires : goal.unreachable-requires
unreachable-requires g c =
    let meant = value c.requires.value.0 (lanes_of g.row.W c.args.active.lanes) c.requires.sound.masked.state in
    subst (λ r. IsValue r meant) (c.in-Err-NoRoom.is ∙ ap Err c.in-Err-NoRoom.field-0-is)
    (value_by_code g.T.Timeline.history g.row.W c.args.compiled.now c.args.words.now c.args.active c.requires.sound.masked c.requires.sound.shown
    c.requires.value.0 c.args.code.now c.requires.value.1 (IsValue c.value_of.result) c.value_of.ensures)

pub returns-in-Ok : goal.returns-in-Ok
returns-in-Ok g c = λ masked e shown at.
    subst (λ r. IsValue r (value e (lanes_of g.row.W c.args.active.lanes) masked.state)) c.in-Ok.is
    (value_by_code g.T.Timeline.history g.row.W c.args.compiled.now c.args.words.now c.args.active masked shown
    e c.args.code.now at (IsValue c.value_of.result) c.value_of.ensures)

pub returns-in-Err-Fault : goal.returns-in-Err-Fault
returns-in-Err-Fault g c = λ masked e shown at.
    subst (λ r. IsValue r (value e (lanes_of g.row.W c.args.active.lanes) masked.state)) (c.in-Err-Fault.is ∙ ap Err c.in-Err-Fault.field-0-is)
    (value_by_code g.T.Timeline.history g.row.W c.args.compiled.now c.args.words.now c.args.active masked shown
    e c.args.code.now at (IsValue c.value_of.result) c.value_of.ensures)
