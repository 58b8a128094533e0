use Rattle.std.proofs.Common.{◌≡◌, ◌∙◌, sym, ap, rules}
use Rattle.std.specs.Prelude.{Ok, Err}
use Rattle.std.proofs.lemmas.Result.{err_from_is_err_and}
use Rattle.gang_model.specs.Running.Step.{initial}
use Rattle.debug_traits.specs.Machines.{fault_view}
use Rattle.machine_states.specs.Steps.{waiting_in}
use Rattle.machine_words.specs.Views.{region_view}
use Rattle.machine_words.specs.Words.{regions_in}
use Rattle.frame_steps.proofs.SentSteps.{ends_with_fault}
use Rattle.frame_steps.proofs.AssignSteps.{declaration_faults, declared_ends, declared_may_send, declared_value, initial_at, initial_is, may_declare, no_initial_is}
use Rattle.frame_steps.proofs.assignments.declare.Goals as goal
use Rattle.frame_steps.proofs.assignments.declare.Goals.{in-Some+in_ok-values-in-Some, in-None}

pub value_of-requires : goal.value_of-requires
value_of-requires g c =
    let at = initial_at g.T.Timeline.history g.T.Timeline.left g.row.W c.args.compiled.now c.args.words.now c.requires.sound c.args.active c.args.variable c.args.value.now c.args.next c.requires.does
    c.in-Some.value c.in-Some.is c.deref.result.now c.deref.ensures.value in
    (search rules, (search rules, (c.requires.sound, (at.0, at.2))))

pub returns-in_err-values-in-Some : goal.returns-in_err-values-in-Some
returns-in_err-values-in-Some g c = λ masked shown.
    let history = g.T.Timeline.history in
    let compiled = c.args.compiled.now in
    let old = c.args.words.now in
    let p = err_from_is_err_and c.from_residual.result c.from_residual.ensures.1 in
    let fault = c.in_err-values-in-Some.field-0.0 in
    let at = initial_at history g.T.Timeline.left g.row.W compiled old c.requires.sound c.args.active c.args.variable c.args.value.now c.args.next c.requires.does
    c.in-Some.value c.in-Some.is c.deref.result.now c.deref.ensures.value in
    ends_with_fault history g.row.W compiled masked old c.from_residual.result fault (p.1 ∙ ap Err p.2)
    (declaration_faults history g.T.Timeline.left g.row.W compiled old c.requires.sound c.args.active c.args.variable c.args.value.now c.args.next c.requires.does masked shown (fault_view fault)
    (initial_is history g.T.Timeline.left g.row.W compiled old c.requires.sound c.args.active c.args.variable c.args.value.now c.args.next c.requires.does masked at.0 at.1 (Err (fault_view fault))
    (c.in_err-values-in-Some.ensures masked at.0 shown at.2)))

pub declare-requires : goal.declare-requires
declare-requires g c =
    may_declare g.T.Timeline.history g.T.Timeline.left g.row.W c.args.compiled.now c.args.words.now c.requires.sound c.args.active c.args.variable c.args.value.now c.args.next c.requires.does
    c.begin.new.words c.begin.ensures (region_view c.region_of-region.result) c.region_of-region.ensures

pub send_on-requires : goal.send_on-requires
send_on-requires g c =
    declared_may_send g.T.Timeline.history g.T.Timeline.left g.row.W c.args.compiled.now c.args.words.now c.requires.sound c.args.active c.args.variable c.args.value.now c.args.next c.requires.does
    c.begin.new.words c.begin.ensures (region_view c.region_of-region.result) c.region_of-region.ensures c.match-value.values c.declare.new.self c.declare.ensures

pub returns : goal.returns
returns g c = λ masked shown.
    let history = g.T.Timeline.history in
    let compiled = c.args.compiled.now in
    let old = c.args.words.now in
    let e = declared_value history g.T.Timeline.left g.row.W compiled old c.requires.sound c.args.active c.args.variable c.args.value.now c.args.next c.requires.does in
    let lanes = waiting_in (regions_in history g.row.W old) c.args.active.frame c.args.active.level c.args.active.step in
    let is : initial e lanes masked.state ≡ Ok c.match-value.values =
    elim c.match-value.branch [
      | in-Some+in_ok-values-in-Some w ↦
          let at = initial_at history g.T.Timeline.left g.row.W compiled old c.requires.sound c.args.active c.args.variable c.args.value.now c.args.next c.requires.does
          w.in-Some.value w.in-Some.is w.deref.result.now w.deref.ensures.value in
          initial_is history g.T.Timeline.left g.row.W compiled old c.requires.sound c.args.active c.args.variable c.args.value.now c.args.next c.requires.does masked at.0 at.1 (Ok w.in_ok-values-in-Some.values)
          (w.in_ok-values-in-Some.ensures masked at.0 shown at.2) ∙ ap Ok (sym w.values-is)
      | in-None w ↦
          no_initial_is history g.T.Timeline.left g.row.W compiled old c.requires.sound c.args.active c.args.variable c.args.value.now c.args.next c.requires.does masked w.in-None.is
          ∙ ap Ok (sym w.values-is)
    ] in
    declared_ends history g.T.Timeline.left g.row.W compiled old c.requires.sound c.args.active c.args.variable c.args.value.now c.args.next c.requires.does
    c.begin.new.words c.begin.ensures (region_view c.region_of-region.result) c.region_of-region.ensures c.match-value.values c.declare.new.self c.declare.ensures
    c.send_on.new.words c.send_on.ensures
    masked shown is
