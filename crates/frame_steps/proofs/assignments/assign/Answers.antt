use Rattle.std.proofs.Common.{◌∙◌, ap, rules, arith}
use Rattle.std.specs.Prelude.{Err}
use Rattle.std.proofs.lemmas.Result.{err_from_is_err_and}
use Rattle.gang_types.specs.Masks.{lanes_of}
use Rattle.gang_types.specs.MaskLaws.{gang_width-le}
use Rattle.debug_traits.specs.Machines.{fault_view}
use Rattle.machine_states.specs.Effects.{assigned_in, sent_on}
use Rattle.machine_words.specs.Words.{regions_in}
use Rattle.frame_steps.specs.Compiled.{program_of, variables_of}
use Rattle.frame_steps.proofs.SentSteps.{ends_with_fault}
use Rattle.frame_steps.proofs.Standings.{goes_alike}
use Rattle.frame_steps.proofs.AssignSteps.{assign_goes, assign_here, assigned_at, assigned_value, assignment_faults, scalar_here}
use Rattle.frame_steps.proofs.assignments.assign.Goals as goal

pub value_of-requires : goal.value_of-requires
value_of-requires g c =
    let history = g.T.Timeline.history in
    let compiled = c.args.compiled.now in
    let old = c.args.words.now in (
      search rules,
      (
        search rules,
        (
          c.requires.sound,
          (
            assigned_value history g.T.Timeline.left g.row.W compiled old c.requires.sound c.args.active c.args.variable c.args.value.now c.args.next c.requires.does,
            assigned_at history g.T.Timeline.left g.row.W compiled old c.requires.sound c.args.active c.args.variable c.args.value.now c.args.next c.requires.does c.deref.result.now c.deref.ensures.value,
          ),
        ),
      ),
    )

pub returns-in_err-values : goal.returns-in_err-values
returns-in_err-values g c = λ masked shown.
    let history = g.T.Timeline.history in
    let compiled = c.args.compiled.now in
    let old = c.args.words.now in
    let p = err_from_is_err_and c.from_residual.result c.from_residual.ensures.1 in
    let fault = c.in_err-values.field-0.0 in
    let e = assigned_value history g.T.Timeline.left g.row.W compiled old c.requires.sound c.args.active c.args.variable c.args.value.now c.args.next c.requires.does in
    let at = assigned_at history g.T.Timeline.left g.row.W compiled old c.requires.sound c.args.active c.args.variable c.args.value.now c.args.next c.requires.does c.deref.result.now c.deref.ensures.value in
    ends_with_fault history g.row.W compiled masked old c.from_residual.result fault (p.1 ∙ ap Err p.2)
    (assignment_faults history g.T.Timeline.left g.row.W compiled old c.requires.sound c.args.active c.args.variable c.args.value.now c.args.next c.requires.does masked shown (fault_view fault)
    (c.in_err-values.ensures masked e shown at))

pub assign_values-requires : goal.assign_values-requires
assign_values-requires g c =
    let history = g.T.Timeline.history in
    let compiled = c.args.compiled.now in
    let old = c.args.words.now in (
      omega (arith, gang_width-le g.row.W c.requires.sound.lie.gang),
      (
        c.requires.sound,
        (
          assign_here history g.T.Timeline.left g.row.W compiled old c.requires.sound c.args.active c.args.variable c.args.value.now c.args.next c.requires.does,
          scalar_here history g.T.Timeline.left g.row.W compiled old c.requires.sound c.args.active c.args.variable c.args.value.now c.args.next c.requires.does,
        ),
      ),
    )

pub returns : goal.returns
returns g c = λ masked shown.
    let history = g.T.Timeline.history in
    let compiled = c.args.compiled.now in
    let old = c.args.words.now in
    let active = c.args.active in
    let variable = c.args.variable in
    let lanes = lanes_of g.row.W active.lanes in
    let values = c.in_ok-values.values in
    let e = assigned_value history g.T.Timeline.left g.row.W compiled old c.requires.sound c.args.active c.args.variable c.args.value.now c.args.next c.requires.does in
    let at = assigned_at history g.T.Timeline.left g.row.W compiled old c.requires.sound c.args.active c.args.variable c.args.value.now c.args.next c.requires.does c.deref.result.now c.deref.ensures.value in
    let goes = assign_goes history g.T.Timeline.left g.row.W compiled old c.requires.sound c.args.active c.args.variable c.args.value.now c.args.next c.requires.does masked shown values
    (c.in_ok-values.ensures masked e shown at) in (
      goes_alike (program_of compiled) (variables_of compiled) g.row.W masked
          (sent_on active.frame active.level lanes (λ k. c.args.next) (assigned_in active.frame variable.id variable.rate lanes values (regions_in history g.row.W old)))
          (regions_in history g.row.W c.assign_values.new.words) c.assign_values.ensures.assigned goes,
      c.assign_values.ensures.recorded,
    )
