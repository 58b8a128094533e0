use Rattle.std.proofs.Common.{refl, sym, ap, ◌∙◌, rules}
use Rattle.std.specs.Prelude.{Err}
use Rattle.std.proofs.lemmas.Result.{err_from_is_err_and}
use Rattle.gang_types.specs.Masks.{lanes_of}
use Rattle.cross_lane.specs.Calls.{answer_of}
use Rattle.debug_traits.specs.declared.machine.Fault.{Fault}
use Rattle.debug_traits.specs.Machines.{fault_view}
use Rattle.machine_states.specs.Effects.{sent_on, stored_in}
use Rattle.machine_words.specs.Views.{view_view}
use Rattle.machine_words.specs.Words.{regions_in}
use Rattle.frame_steps.specs.Compiled.{program_of, variables_of}
use Rattle.frame_steps.proofs.ElementChanges.{change_fails, change_goes, index_at, index_expr, operand, operand_at, operation_fails, store_here}
use Rattle.frame_steps.proofs.SentSteps.{ends_with_fault}
use Rattle.frame_steps.proofs.Standings.{goes_alike}
use Rattle.frame_steps.proofs.elements.change_element.Goals as goal

pub reach-requires : goal.reach-requires
reach-requires g c =
    let history = g.T.Timeline.history in
    let w = g.row.W in
    let compiled = c.args.compiled.now in
    let old = c.args.words.now in
    let i = index_expr history w compiled old c.requires.sound c.args.active c.args.array c.args.index.now c.args.change c.args.value.now c.args.next c.requires.does in
    let i_at = index_at history w compiled old c.requires.sound c.args.active c.args.array c.args.index.now c.args.change c.args.value.now c.args.next c.requires.does c.deref.result.now c.deref.ensures.value in
    let e = operand history w compiled old c.requires.sound c.args.active c.args.array c.args.index.now c.args.change c.args.value.now c.args.next c.requires.does in
    let e_at = operand_at history w compiled old c.requires.sound c.args.active c.args.array c.args.index.now c.args.change c.args.value.now c.args.next c.requires.does c.deref-2.result.now c.deref-2.ensures.value in
    (search rules, (search rules, (c.requires.sound, ((i, i_at), (e, e_at)))))

pub returns-in_err-before : goal.returns-in_err-before
returns-in_err-before g c = λ masked shown.
    let history = g.T.Timeline.history in
    let w = g.row.W in
    let compiled = c.args.compiled.now in
    let old = c.args.words.now in
    let i = index_expr history w compiled old c.requires.sound c.args.active c.args.array c.args.index.now c.args.change c.args.value.now c.args.next c.requires.does in
    let i_at = index_at history w compiled old c.requires.sound c.args.active c.args.array c.args.index.now c.args.change c.args.value.now c.args.next c.requires.does c.deref.result.now c.deref.ensures.value in
    let e = operand history w compiled old c.requires.sound c.args.active c.args.array c.args.index.now c.args.change c.args.value.now c.args.next c.requires.does in
    let e_at = operand_at history w compiled old c.requires.sound c.args.active c.args.array c.args.index.now c.args.change c.args.value.now c.args.next c.requires.does c.deref-2.result.now c.deref-2.ensures.value in
    let p = err_from_is_err_and c.from_residual.result c.from_residual.ensures.1 in
    let fault = c.in_err-before.field-0.0 in
    ends_with_fault history w compiled masked old c.from_residual.result fault (p.1 ∙ ap Err p.2)
    (change_fails history w compiled old c.requires.sound c.args.active c.args.array c.args.index.now c.args.change c.args.value.now c.args.next c.requires.does masked shown (fault_view fault)
    (c.in_err-before.ensures.answer masked i e shown i_at e_at))

pub returns-in-Err : goal.returns-in-Err
returns-in-Err g c = λ masked shown.
    let history = g.T.Timeline.history in
    let w = g.row.W in
    let compiled = c.args.compiled.now in
    let old = c.args.words.now in
    let i = index_expr history w compiled old c.requires.sound c.args.active c.args.array c.args.index.now c.args.change c.args.value.now c.args.next c.requires.does in
    let i_at = index_at history w compiled old c.requires.sound c.args.active c.args.array c.args.index.now c.args.change c.args.value.now c.args.next c.requires.does c.deref.result.now c.deref.ensures.value in
    let e = operand history w compiled old c.requires.sound c.args.active c.args.array c.args.index.now c.args.change c.args.value.now c.args.next c.requires.does in
    let e_at = operand_at history w compiled old c.requires.sound c.args.active c.args.array c.args.index.now c.args.change c.args.value.now c.args.next c.requires.does c.deref-2.result.now c.deref-2.ensures.value in
    let before = c.in_ok-before.before in
    let fault : Fault = record { name = c.in-Err.name; lane = c.in-Err.lane } in
    ends_with_fault history w compiled masked old (Err fault) fault refl
    (operation_fails history w compiled old c.requires.sound c.args.active c.args.array c.args.index.now c.args.change c.args.value.now c.args.next c.requires.does masked shown
    before.indices before.values before.elements (c.in_ok-before.ensures.answer masked i e shown i_at e_at) (fault_view fault) (sym c.changed.ensures ∙ ap answer_of c.in-Err.is))

pub store-requires : goal.store-requires
store-requires g c =
    let history = g.T.Timeline.history in
    let w = g.row.W in
    let compiled = c.args.compiled.now in
    let old = c.args.words.now in
    let step = store_here history w compiled old c.requires.sound c.args.active c.args.array c.args.index.now c.args.change c.args.value.now c.args.next c.requires.does in
    (search rules, (c.requires.sound, (step, ((c.args.array, c.in_ok-before.ensures.view), c.in_ok-before.ensures.there))))

pub returns : goal.returns
returns g c = λ masked shown.
    let history = g.T.Timeline.history in
    let w = g.row.W in
    let compiled = c.args.compiled.now in
    let old = c.args.words.now in
    let regions = regions_in history w old in
    let lanes = lanes_of w c.args.active.lanes in
    let i = index_expr history w compiled old c.requires.sound c.args.active c.args.array c.args.index.now c.args.change c.args.value.now c.args.next c.requires.does in
    let i_at = index_at history w compiled old c.requires.sound c.args.active c.args.array c.args.index.now c.args.change c.args.value.now c.args.next c.requires.does c.deref.result.now c.deref.ensures.value in
    let e = operand history w compiled old c.requires.sound c.args.active c.args.array c.args.index.now c.args.change c.args.value.now c.args.next c.requires.does in
    let e_at = operand_at history w compiled old c.requires.sound c.args.active c.args.array c.args.index.now c.args.change c.args.value.now c.args.next c.requires.does c.deref-2.result.now c.deref-2.ensures.value in
    let before = c.in_ok-before.before in
    let view = view_view before.view in
    let goes = change_goes history w compiled old c.requires.sound c.args.active c.args.array c.args.index.now c.args.change c.args.value.now c.args.next c.requires.does masked shown
    before.indices before.values before.elements (c.in_ok-before.ensures.answer masked i e shown i_at e_at) c.in-Ok.values (sym c.changed.ensures ∙ ap answer_of c.in-Ok.is)
    view c.in_ok-before.ensures.view in (
      goes_alike (program_of compiled) (variables_of compiled) w masked (sent_on c.args.active.frame c.args.active.level lanes (λ k. c.args.next) (stored_in view lanes before.indices c.in-Ok.values regions))
          (regions_in history w c.store.new.words) c.store.ensures.stored goes,
      c.store.ensures.recorded,
    )
