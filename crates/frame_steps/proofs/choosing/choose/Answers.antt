use Rattle.std.proofs.Common.{◌∙◌, sym, ap, subst, rules, arith}
use Rattle.std.specs.Prelude.{Err}
use Rattle.std.proofs.lemmas.Result.{err_from_is_err_and}
use Rattle.gang_types.specs.MaskLaws.{gang_width-le}
use Rattle.codegen.specs.Codes.{AreSegments}
use Rattle.debug_traits.specs.Machines.{fault_view}
use Rattle.frame_steps.proofs.SentSteps.{ends_with_fault}
use Rattle.frame_steps.proofs.ChosenSteps.{choice_may_send, chose, selected, selector_at, selector_faults}
use Rattle.frame_steps.proofs.choosing.choose.Goals as goal

pub value_of-requires : goal.value_of-requires
value_of-requires g c = (
  search rules,
  (
    search rules,
    (
      c.requires.sound,
      (
        selected g.T.Timeline.history g.T.Timeline.left g.row.W c.args.compiled.now c.args.words.now c.requires.sound c.args.active c.args.selector.now c.args.segments.now c.args.next c.requires.does,
        selector_at g.T.Timeline.history g.T.Timeline.left g.row.W c.args.compiled.now c.args.words.now c.requires.sound c.args.active c.args.selector.now c.args.segments.now c.args.next c.requires.does c.deref.result.now c.deref.ensures.value,
      ),
    ),
  ),
)

pub returns-in_err-values : goal.returns-in_err-values
returns-in_err-values g c = λ masked shown.
    let history = g.T.Timeline.history in
    let compiled = c.args.compiled.now in
    let old = c.args.words.now in
    let p = err_from_is_err_and c.from_residual.result c.from_residual.ensures.1 in
    let fault = c.in_err-values.field-0.0 in
    let e = selected history g.T.Timeline.left g.row.W compiled old c.requires.sound c.args.active c.args.selector.now c.args.segments.now c.args.next c.requires.does in
    let at = selector_at history g.T.Timeline.left g.row.W compiled old c.requires.sound c.args.active c.args.selector.now c.args.segments.now c.args.next c.requires.does c.deref.result.now c.deref.ensures.value in
    ends_with_fault history g.row.W compiled masked old c.from_residual.result fault (p.1 ∙ ap Err p.2)
    (selector_faults history g.T.Timeline.left g.row.W compiled old c.requires.sound c.args.active c.args.selector.now c.args.segments.now c.args.next c.requires.does masked shown (fault_view fault)
    (c.in_err-values.ensures masked e shown at))

pub send_each-requires : goal.send_each-requires
send_each-requires g c = (
  omega (arith, gang_width-le g.row.W c.requires.sound.lie.gang),
  choice_may_send g.T.Timeline.history g.T.Timeline.left g.row.W c.args.compiled.now c.args.words.now c.requires.sound c.args.active c.args.selector.now c.args.segments.now c.args.next c.requires.does
      c.begin.new.words c.begin.ensures,
)

pub returns : goal.returns
returns g c = λ masked shown.
    let history = g.T.Timeline.history in
    let compiled = c.args.compiled.now in
    let old = c.args.words.now in
    let e = selected history g.T.Timeline.left g.row.W compiled old c.requires.sound c.args.active c.args.selector.now c.args.segments.now c.args.next c.requires.does in
    let at = selector_at history g.T.Timeline.left g.row.W compiled old c.requires.sound c.args.active c.args.selector.now c.args.segments.now c.args.next c.requires.does c.deref.result.now c.deref.ensures.value in
    chose history g.T.Timeline.left g.row.W compiled old c.requires.sound c.args.active c.args.selector.now c.args.segments.now c.args.next c.requires.does
    c.begin.new.words c.send_each.new.words c.begin.ensures
    c.in_ok-values.values c.entries-targets.result
    (λ labelled entries are. c.entries-targets.ensures labelled entries (subst (λ ss. AreSegments ss labelled entries) (sym c.deref-2.ensures.value) are))
    c.send_each.ensures
    masked shown (c.in_ok-values.ensures masked e shown at)
