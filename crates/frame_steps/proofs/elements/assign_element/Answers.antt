use Rattle.std.proofs.Common.{ap, ◌∙◌, rules}
use Rattle.std.specs.Prelude.{Err}
use Rattle.std.proofs.lemmas.Result.{err_from_is_err_and}
use Rattle.gang_types.specs.Masks.{lanes_of}
use Rattle.debug_traits.specs.Machines.{fault_view}
use Rattle.machine_states.specs.Effects.{sent_on, stored_in}
use Rattle.machine_words.specs.Views.{view_view}
use Rattle.machine_words.specs.Words.{regions_in}
use Rattle.frame_steps.specs.Compiled.{program_of, variables_of}
use Rattle.frame_steps.proofs.ElementMoves.{assign_fails, assign_goes, index_at, index_expr, store_here, value_expr, value_here}
use Rattle.frame_steps.proofs.SentSteps.{ends_with_fault}
use Rattle.frame_steps.proofs.Standings.{goes_alike}
use Rattle.frame_steps.proofs.elements.assign_element.Goals as goal

pub reach-requires : goal.reach-requires
reach-requires g c =
    let history = g.T.Timeline.history in
    let w = g.row.W in
    let compiled = c.args.compiled.now in
    let old = c.args.words.now in
    let i = index_expr history w compiled old c.requires.sound c.args.active c.args.array c.args.index.now c.args.value.now c.args.next c.requires.does in
    let i_at = index_at history w compiled old c.requires.sound c.args.active c.args.array c.args.index.now c.args.value.now c.args.next c.requires.does c.deref.result.now c.deref.ensures.value in
    let e = value_expr history w compiled old c.requires.sound c.args.active c.args.array c.args.index.now c.args.value.now c.args.next c.requires.does in
    let e_at = value_here history w compiled old c.requires.sound c.args.active c.args.array c.args.index.now c.args.value.now c.args.next c.requires.does c.deref-2.result.now c.deref-2.ensures.value in
    (search rules, (search rules, (c.requires.sound, ((i, i_at), (e, e_at)))))

pub returns-in_err-reached : goal.returns-in_err-reached
returns-in_err-reached g c = λ masked shown.
    let history = g.T.Timeline.history in
    let w = g.row.W in
    let compiled = c.args.compiled.now in
    let old = c.args.words.now in
    let i = index_expr history w compiled old c.requires.sound c.args.active c.args.array c.args.index.now c.args.value.now c.args.next c.requires.does in
    let i_at = index_at history w compiled old c.requires.sound c.args.active c.args.array c.args.index.now c.args.value.now c.args.next c.requires.does c.deref.result.now c.deref.ensures.value in
    let e = value_expr history w compiled old c.requires.sound c.args.active c.args.array c.args.index.now c.args.value.now c.args.next c.requires.does in
    let e_at = value_here history w compiled old c.requires.sound c.args.active c.args.array c.args.index.now c.args.value.now c.args.next c.requires.does c.deref-2.result.now c.deref-2.ensures.value in
    let p = err_from_is_err_and c.from_residual.result c.from_residual.ensures.1 in
    let fault = c.in_err-reached.field-0.0 in
    ends_with_fault history w compiled masked old c.from_residual.result fault (p.1 ∙ ap Err p.2)
    (assign_fails history w compiled old c.requires.sound c.args.active c.args.array c.args.index.now c.args.value.now c.args.next c.requires.does masked shown (fault_view fault)
    (c.in_err-reached.ensures.answer masked i e shown i_at e_at))

pub store-requires : goal.store-requires
store-requires g c =
    let history = g.T.Timeline.history in
    let w = g.row.W in
    let compiled = c.args.compiled.now in
    let old = c.args.words.now in
    let step = store_here history w compiled old c.requires.sound c.args.active c.args.array c.args.index.now c.args.value.now c.args.next c.requires.does in
    (search rules, (c.requires.sound, (step, ((c.args.array, c.in_ok-reached.ensures.view), c.in_ok-reached.ensures.there))))

pub returns : goal.returns
returns g c = λ masked shown.
    let history = g.T.Timeline.history in
    let w = g.row.W in
    let compiled = c.args.compiled.now in
    let old = c.args.words.now in
    let regions = regions_in history w old in
    let lanes = lanes_of w c.args.active.lanes in
    let i = index_expr history w compiled old c.requires.sound c.args.active c.args.array c.args.index.now c.args.value.now c.args.next c.requires.does in
    let i_at = index_at history w compiled old c.requires.sound c.args.active c.args.array c.args.index.now c.args.value.now c.args.next c.requires.does c.deref.result.now c.deref.ensures.value in
    let e = value_expr history w compiled old c.requires.sound c.args.active c.args.array c.args.index.now c.args.value.now c.args.next c.requires.does in
    let e_at = value_here history w compiled old c.requires.sound c.args.active c.args.array c.args.index.now c.args.value.now c.args.next c.requires.does c.deref-2.result.now c.deref-2.ensures.value in
    let reached = c.in_ok-reached.reached in
    let view = view_view reached.view in
    let goes = assign_goes history w compiled old c.requires.sound c.args.active c.args.array c.args.index.now c.args.value.now c.args.next c.requires.does masked shown
    reached.indices reached.values reached.elements (c.in_ok-reached.ensures.answer masked i e shown i_at e_at)
    view c.in_ok-reached.ensures.view in (
      goes_alike (program_of compiled) (variables_of compiled) w masked (sent_on c.args.active.frame c.args.active.level lanes (λ k. c.args.next) (stored_in view lanes reached.indices reached.values regions))
          (regions_in history w c.store.new.words) c.store.ensures.stored goes,
      c.store.ensures.recorded,
    )
