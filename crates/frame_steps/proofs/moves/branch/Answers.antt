use Rattle.std.proofs.Common.{◌∙◌, ap, rules, arith}
use Rattle.std.specs.Prelude.{Err}
use Rattle.std.proofs.lemmas.Result.{err_from_is_err_and}
use Rattle.gang_types.specs.MaskLaws.{gang_width-le}
use Rattle.debug_traits.specs.Machines.{fault_view}
use Rattle.frame_steps.proofs.SentSteps.{ends_with_fault}
use Rattle.frame_steps.proofs.MoveSteps.{branch_may_send, branched, test_at, test_faults, tested}
use Rattle.frame_steps.proofs.moves.branch.Goals as goal

pub value_of-requires : goal.value_of-requires
value_of-requires g c = (
  search rules,
  (
    search rules,
    (
      c.requires.sound,
      (
        tested g.T.Timeline.history g.T.Timeline.left g.row.W c.args.compiled.now c.args.words.now c.requires.sound c.args.active c.args.test.now c.args.ways.0 c.args.ways.1 c.requires.does,
        test_at g.T.Timeline.history g.T.Timeline.left g.row.W c.args.compiled.now c.args.words.now c.requires.sound c.args.active c.args.test.now c.args.ways.0 c.args.ways.1 c.requires.does c.deref.result.now c.deref.ensures.value,
      ),
    ),
  ),
)

pub returns-in_err-values : goal.returns-in_err-values
returns-in_err-values g c = λ masked shown.
    let history = g.T.Timeline.history in
    let compiled = c.args.compiled.now in
    let old = c.args.words.now in
    let p = err_from_is_err_and c.from_residual.result c.from_residual.ensures.1 in
    let fault = c.in_err-values.field-0.0 in
    let e = tested history g.T.Timeline.left g.row.W compiled old c.requires.sound c.args.active c.args.test.now c.args.ways.0 c.args.ways.1 c.requires.does in
    let at = test_at history g.T.Timeline.left g.row.W compiled old c.requires.sound c.args.active c.args.test.now c.args.ways.0 c.args.ways.1 c.requires.does c.deref.result.now c.deref.ensures.value in
    ends_with_fault history g.row.W compiled masked old c.from_residual.result fault (p.1 ∙ ap Err p.2)
    (test_faults history g.T.Timeline.left g.row.W compiled old c.requires.sound c.args.active c.args.test.now c.args.ways.0 c.args.ways.1 c.requires.does masked shown (fault_view fault)
    (c.in_err-values.ensures masked e shown at))

pub send_each-requires : goal.send_each-requires
send_each-requires g c = (
  omega (arith, gang_width-le g.row.W c.requires.sound.lie.gang),
  branch_may_send g.T.Timeline.history g.T.Timeline.left g.row.W c.args.compiled.now c.args.words.now c.requires.sound c.args.active c.args.test.now c.args.ways.0 c.args.ways.1 c.requires.does
      c.begin.new.words c.begin.ensures,
)

pub returns : goal.returns
returns g c = λ masked shown.
    let history = g.T.Timeline.history in
    let compiled = c.args.compiled.now in
    let old = c.args.words.now in
    let e = tested history g.T.Timeline.left g.row.W compiled old c.requires.sound c.args.active c.args.test.now c.args.ways.0 c.args.ways.1 c.requires.does in
    let at = test_at history g.T.Timeline.left g.row.W compiled old c.requires.sound c.args.active c.args.test.now c.args.ways.0 c.args.ways.1 c.requires.does c.deref.result.now c.deref.ensures.value in
    branched history g.T.Timeline.left g.row.W compiled old c.requires.sound c.args.active c.args.test.now c.args.ways.0 c.args.ways.1 c.requires.does
    c.begin.new.words c.send_each.new.words c.begin.ensures
    c.in_ok-values.values c.targets-targets.result c.targets-targets.ensures c.send_each.ensures
    masked shown (c.in_ok-values.ensures masked e shown at)
