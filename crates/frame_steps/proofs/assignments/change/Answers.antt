use Rattle.std.proofs.Common.{ℕ, ◌≡◌, ◌<◌, ◌∙◌, refl, sym, ap, slice_index, rules, arith}
use Rattle.std.specs.Prelude.{Err}
use Rattle.std.proofs.lemmas.Result.{err_from_is_err_and}
use Rattle.gang_types.specs.Masks.{lanes_of}
use Rattle.gang_types.specs.MaskLaws.{gang_width-le}
use Rattle.gang_model.specs.Running.Lanes.{at}
use Rattle.cross_lane.specs.Calls.{answer_of}
use Rattle.debug_traits.specs.declared.machine.Fault.{Fault}
use Rattle.debug_traits.specs.Machines.{fault_view}
use Rattle.expression_instructions.specs.Read.{place_in}
use Rattle.machine_states.specs.Effects.{assigned_in, region_of, sent_on}
use Rattle.machine_words.specs.Words.{regions_in}
use Rattle.frame_steps.specs.Compiled.{program_of, variables_of}
use Rattle.frame_steps.proofs.RegionStates.{read_regions}
use Rattle.frame_steps.proofs.SentSteps.{ends_with_fault}
use Rattle.frame_steps.proofs.Standings.{goes_alike}
use Rattle.frame_steps.proofs.AssignSteps.{change_faults, change_goes, change_here, changed_scalar, operand, operand_at, operand_faults}
use Rattle.frame_steps.proofs.assignments.change.Goals as goal

pub value_of-requires : goal.value_of-requires
value_of-requires g c =
    let history = g.T.Timeline.history in
    let compiled = c.args.compiled.now in
    let old = c.args.words.now in (
      search rules,
      (
        search rules,
        (
          c.requires.sound,
          (
            operand history g.T.Timeline.left g.row.W compiled old c.requires.sound c.args.active c.args.variable c.args.change c.args.value.now c.args.next c.requires.does,
            operand_at history g.T.Timeline.left g.row.W compiled old c.requires.sound c.args.active c.args.variable c.args.change c.args.value.now c.args.next c.requires.does c.deref.result.now c.deref.ensures.value,
          ),
        ),
      ),
    )

pub returns-in_err-operands : goal.returns-in_err-operands
returns-in_err-operands g c = λ masked shown.
    let history = g.T.Timeline.history in
    let compiled = c.args.compiled.now in
    let old = c.args.words.now in
    let p = err_from_is_err_and c.from_residual.result c.from_residual.ensures.1 in
    let fault = c.in_err-operands.field-0.0 in
    let e = operand history g.T.Timeline.left g.row.W compiled old c.requires.sound c.args.active c.args.variable c.args.change c.args.value.now c.args.next c.requires.does in
    let is_value = operand_at history g.T.Timeline.left g.row.W compiled old c.requires.sound c.args.active c.args.variable c.args.change c.args.value.now c.args.next c.requires.does c.deref.result.now c.deref.ensures.value in
    ends_with_fault history g.row.W compiled masked old c.from_residual.result fault (p.1 ∙ ap Err p.2)
    (operand_faults history g.T.Timeline.left g.row.W compiled old c.requires.sound c.args.active c.args.variable c.args.change c.args.value.now c.args.next c.requires.does masked shown (fault_view fault)
    (c.in_err-operands.ensures masked e shown is_value))

pub returns-in-Err : goal.returns-in-Err
returns-in-Err g c = λ masked shown.
    let history = g.T.Timeline.history in
    let compiled = c.args.compiled.now in
    let old = c.args.words.now in
    let e = operand history g.T.Timeline.left g.row.W compiled old c.requires.sound c.args.active c.args.variable c.args.change c.args.value.now c.args.next c.requires.does in
    let is_value = operand_at history g.T.Timeline.left g.row.W compiled old c.requires.sound c.args.active c.args.variable c.args.change c.args.value.now c.args.next c.requires.does c.deref.result.now c.deref.ensures.value in
    let read : (k : ℕ) → k < g.row.W → slice_index c.words-old.result k ≡ at (regions_in history g.row.W old (region_of c.args.active.frame c.args.variable.id)) (place_in c.args.variable.rate k) =
    read_regions history g.row.W old c.args.active.frame c.words-old.result c.args.variable.id (place_in c.args.variable.rate) c.words-old.ensures in
    let fault : Fault = record { name = c.in-Err.name; lane = c.in-Err.lane } in
    ends_with_fault history g.row.W compiled masked old (Err fault) fault refl
    (change_faults history g.T.Timeline.left g.row.W compiled old c.requires.sound c.args.active c.args.variable c.args.change c.args.value.now c.args.next c.requires.does
    c.words-old.result c.in_ok-operands.operands read (fault_view fault) (sym c.changed.ensures ∙ ap answer_of c.in-Err.is) masked shown
    (c.in_ok-operands.ensures masked e shown is_value))

pub assign_values-requires : goal.assign_values-requires
assign_values-requires g c =
    let history = g.T.Timeline.history in
    let compiled = c.args.compiled.now in
    let old = c.args.words.now in (
      omega (arith, gang_width-le g.row.W c.requires.sound.lie.gang),
      (
        c.requires.sound,
        (
          change_here history g.T.Timeline.left g.row.W compiled old c.requires.sound c.args.active c.args.variable c.args.change c.args.value.now c.args.next c.requires.does,
          changed_scalar history g.T.Timeline.left g.row.W compiled old c.requires.sound c.args.active c.args.variable c.args.change c.args.value.now c.args.next c.requires.does,
        ),
      ),
    )

pub returns : goal.returns
returns g c = λ masked shown.
    let history = g.T.Timeline.history in
    let compiled = c.args.compiled.now in
    let old = c.args.words.now in
    let active = c.args.active in
    let variable = c.args.variable in
    let lanes = lanes_of g.row.W active.lanes in
    let values = c.in-Ok.values in
    let e = operand history g.T.Timeline.left g.row.W compiled old c.requires.sound c.args.active c.args.variable c.args.change c.args.value.now c.args.next c.requires.does in
    let is_value = operand_at history g.T.Timeline.left g.row.W compiled old c.requires.sound c.args.active c.args.variable c.args.change c.args.value.now c.args.next c.requires.does c.deref.result.now c.deref.ensures.value in
    let read : (k : ℕ) → k < g.row.W → slice_index c.words-old.result k ≡ at (regions_in history g.row.W old (region_of active.frame variable.id)) (place_in variable.rate k) =
    read_regions history g.row.W old active.frame c.words-old.result variable.id (place_in variable.rate) c.words-old.ensures in
    let goes = change_goes history g.T.Timeline.left g.row.W compiled old c.requires.sound c.args.active c.args.variable c.args.change c.args.value.now c.args.next c.requires.does
    c.words-old.result c.in_ok-operands.operands read values (sym c.changed.ensures ∙ ap answer_of c.in-Ok.is) masked shown
    (c.in_ok-operands.ensures masked e shown is_value) in (
      goes_alike (program_of compiled) (variables_of compiled) g.row.W masked
          (sent_on active.frame active.level lanes (λ k. c.args.next) (assigned_in active.frame variable.id variable.rate lanes values (regions_in history g.row.W old)))
          (regions_in history g.row.W c.assign_values.new.words) c.assign_values.ensures.assigned goes,
      c.assign_values.ensures.recorded,
    )
