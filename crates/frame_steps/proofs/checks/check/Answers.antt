use Rattle.std.proofs.Common.{◌∙◌, ap, rules}
use Rattle.std.specs.Prelude.{Err}
use Rattle.std.proofs.lemmas.Result.{err_from_is_err_and}
use Rattle.debug_traits.specs.Machines.{fault_view}
use Rattle.frame_steps.proofs.SentSteps.{ends_with_fault}
use Rattle.frame_steps.proofs.CheckSteps.{check_ends, check_faults, check_may_send, check_value_faults, checked, checked_at}
use Rattle.frame_steps.proofs.checks.check.Goals as goal

pub value_of-requires : goal.value_of-requires
value_of-requires g c = (
  search rules,
  (
    search rules,
    (
      c.requires.sound,
      (
        checked g.T.Timeline.history g.T.Timeline.left g.row.W c.args.compiled.now c.args.words.now c.requires.sound c.args.active c.args.test.now c.args.next c.requires.does,
        checked_at g.T.Timeline.history g.T.Timeline.left g.row.W c.args.compiled.now c.args.words.now c.requires.sound c.args.active c.args.test.now c.args.next c.requires.does c.deref.result.now c.deref.ensures.value,
      ),
    ),
  ),
)

pub send_on-requires : goal.send_on-requires
send_on-requires g c =
    check_may_send g.T.Timeline.history g.T.Timeline.left g.row.W c.args.compiled.now c.args.words.now c.requires.sound c.args.active c.args.test.now c.args.next c.requires.does
    c.begin.new.words c.begin.ensures

pub returns-in_err-values : goal.returns-in_err-values
returns-in_err-values g c = λ masked shown.
    let history = g.T.Timeline.history in
    let compiled = c.args.compiled.now in
    let old = c.args.words.now in
    let p = err_from_is_err_and c.from_residual.result c.from_residual.ensures.1 in
    let fault = c.in_err-values.field-0.0 in
    let e = checked history g.T.Timeline.left g.row.W compiled old c.requires.sound c.args.active c.args.test.now c.args.next c.requires.does in
    let at = checked_at history g.T.Timeline.left g.row.W compiled old c.requires.sound c.args.active c.args.test.now c.args.next c.requires.does c.deref.result.now c.deref.ensures.value in
    ends_with_fault history g.row.W compiled masked old c.from_residual.result fault (p.1 ∙ ap Err p.2)
    (check_value_faults history g.T.Timeline.left g.row.W compiled old c.requires.sound c.args.active c.args.test.now c.args.next c.requires.does masked shown (fault_view fault)
    (c.in_err-values.ensures masked e shown at))

pub returns-in_err-hold_in_each : goal.returns-in_err-hold_in_each
returns-in_err-hold_in_each g c = λ masked shown.
    let history = g.T.Timeline.history in
    let compiled = c.args.compiled.now in
    let old = c.args.words.now in
    let p = err_from_is_err_and c.from_residual-in_err-hold_in_each.result c.from_residual-in_err-hold_in_each.ensures.1 in
    let fault = c.in_err-hold_in_each.field-0.0 in
    let e = checked history g.T.Timeline.left g.row.W compiled old c.requires.sound c.args.active c.args.test.now c.args.next c.requires.does in
    let at = checked_at history g.T.Timeline.left g.row.W compiled old c.requires.sound c.args.active c.args.test.now c.args.next c.requires.does c.deref.result.now c.deref.ensures.value in
    ends_with_fault history g.row.W compiled masked old c.from_residual-in_err-hold_in_each.result fault (p.1 ∙ ap Err p.2)
    (check_faults history g.T.Timeline.left g.row.W compiled old c.requires.sound c.args.active c.args.test.now c.args.next c.requires.does c.in_ok-values.values masked shown
    (c.in_ok-values.ensures masked e shown at) fault c.in_err-hold_in_each.ensures)

pub returns : goal.returns
returns g c = λ masked shown.
    let history = g.T.Timeline.history in
    let compiled = c.args.compiled.now in
    let old = c.args.words.now in
    let e = checked history g.T.Timeline.left g.row.W compiled old c.requires.sound c.args.active c.args.test.now c.args.next c.requires.does in
    let at = checked_at history g.T.Timeline.left g.row.W compiled old c.requires.sound c.args.active c.args.test.now c.args.next c.requires.does c.deref.result.now c.deref.ensures.value in
    check_ends history g.T.Timeline.left g.row.W compiled old c.requires.sound c.args.active c.args.test.now c.args.next c.requires.does c.in_ok-values.values masked shown
    (c.in_ok-values.ensures masked e shown at) c.in_ok-hold_in_each.ensures c.begin.new.words c.send_on.new.words c.begin.ensures
    c.send_on.ensures
