use Rattle.std.proofs.Common.{◌≡◌, ◌∙◌, refl, sym, ap, subst, arith, Some}
use Rattle.std.specs.Prelude.{Err, Ok}
use Rattle.std.proofs.lemmas.Result.{err_from_is_err_and}
use Rattle.undo_log.specs.declared.timeline.Undone.TheVariants as undone
use Rattle.gang_types.specs.Masks.{lanes_of}
use Rattle.gang_types.specs.MaskLaws.{gang_width-le}
use Rattle.gang_model.specs.Types.Tree.{Function, Return}
use Rattle.gang_model.specs.Running.Step.{initial}
use Rattle.gang_model.specs.Running.Value.{value}
use Rattle.debug_traits.specs.Machines.{fault_view}
use Rattle.mask_states.specs.Points.{Put}
use Rattle.machine_states.specs.Steps.{waiting_in}
use Rattle.machine_states.proofs.PutSteps.{return_fails}
use Rattle.typed_tree.specs.Views.{function_view}
use Rattle.machine_words.specs.Words.{regions_in}
use Rattle.frame_steps.specs.Compiled.{program_of, variables_of}
use Rattle.frame_steps.specs.Standing.{EndsAs}
use Rattle.frame_steps.proofs.FrameResults.{function_is, function_within}
use Rattle.frame_steps.proofs.OptionValues.{each_zero, no_value}
use Rattle.frame_steps.proofs.ReturnSteps.{returns_well, value_there}
use Rattle.frame_steps.proofs.GangLanes.{stacks_small}
use Rattle.frame_steps.proofs.Standings.{active_numbers, begun_laid, frame_below, lanes_long, some_active, step_within}
use Rattle.frame_steps.proofs.StepValues.{returns_at}
use Rattle.frame_steps.proofs.assignments.finish.Goals.{in-Some+in_ok-values-in-Some, in-None}
use Rattle.frame_steps.proofs.assignments.finish.Goals as goal

pub value_of-requires : goal.value_of-requires
value_of-requires g c =
    let w = g.row.W in
    let compiled = c.args.compiled.now in
    let lie = c.requires.sound.lie in
    let regions = regions_in g.T.Timeline.history w c.args.words.now in
    let returning = returns_at w compiled regions c.args.active c.args.value.now c.args.next c.requires.does in
    let there = value_there w compiled lie.compiled_is regions c.args.active returning.0 returning.1.0 returning.1.1 c.args.next returning.1.3 c.args.value.now returning.1.2
    c.in-Some.value c.in-Some.is c.deref.result.now c.deref.ensures.value in
    (stacks_small w lie.gang, (omega (arith, gang_width-le w lie.gang), (c.requires.sound, (there.0, there.2))))

pub returns-in_err-values-in-Some : goal.returns-in_err-values-in-Some
returns-in_err-values-in-Some g c = λ masked shown.
    let history = g.T.Timeline.history in
    let w = g.row.W in
    let compiled = c.args.compiled.now in
    let active = c.args.active in
    let old = c.args.words.now in
    let regions = regions_in history w old in
    let returning = returns_at w compiled regions active c.args.value.now c.args.next c.requires.does in
    let e = returning.1.1 in
    let at_step = returning.1.3 in
    let there = value_there w compiled c.requires.sound.lie.compiled_is regions active returning.0 returning.1.0 e c.args.next at_step c.args.value.now returning.1.2
    c.in-Some.value c.in-Some.is c.deref.result.now c.deref.ensures.value in
    let fault = c.in_err-values-in-Some.field-0.0 in
    let failed : value there.0 (lanes_of w active.lanes) masked.state ≡ Err (fault_view fault) = c.in_err-values-in-Some.ensures masked there.0 shown there.2 in
    let is : initial e (waiting_in regions active.frame active.level active.step) masked.state ≡ Err (fault_view fault) =
    ap (λ o. initial o (waiting_in regions active.frame active.level active.step) masked.state) there.1 ∙ ap (λ ls. value there.0 ls masked.state) (sym at_step.lanes) ∙ failed in
    let p = err_from_is_err_and c.from_residual.result c.from_residual.ensures.1 in
    subst (λ r. EndsAs history w compiled masked old r old) (sym (p.1 ∙ ap Err p.2)) (
      return_fails (program_of compiled) (variables_of compiled) w regions masked shown.shows active.frame active.level active.function returning.0 active.step returning.1.0 e c.args.next at_step.next
          (fault_view fault) is,
      refl,
    )

pub index-requires : goal.index-requires
index-requires g c =
    let compiled = c.args.compiled.now in
    let functions = compiled.program.functions in
    let regions = regions_in g.T.Timeline.history g.row.W c.args.words.now in
    let returning = returns_at g.row.W compiled regions c.args.active c.args.value.now c.args.next c.requires.does in
    omega (arith, functions.ok, function_within functions.items c.args.active.function returning.0 returning.1.3.next.is_function)

pub give_result-requires : goal.give_result-requires
give_result-requires g c =
    let history = g.T.Timeline.history in
    let left = g.T.Timeline.left in
    let w = g.row.W in
    let compiled = c.args.compiled.now in
    let active = c.args.active in
    let old = c.args.words.now in
    let mid = c.begin.new.words in
    let sound = c.requires.sound in
    let returning = returns_at w compiled (regions_in history w old) active c.args.value.now c.args.next c.requires.does in
    let point = Put (Return returning.1.0 returning.1.1) c.args.next in
    let room = step_within history w compiled old sound.lie active returning.0 point returning.1.3 in (
      omega (arith, gang_width-le w sound.lie.gang),
      (
        sound.lie.gang,
        (
          begun_laid history left w compiled undone.Step old mid sound.lie c.begin.ensures,
          (
            frame_below history w compiled old sound active returning.0 (Some point) returning.1.3,
            (some_active history w compiled old sound active returning.0 point returning.1.3 tt, omega (arith, room, c.begin.ensures.left_is)),
          ),
        ),
      ),
    )

pub send_on-requires : goal.send_on-requires
send_on-requires g c =
    let history = g.T.Timeline.history in
    let left = g.T.Timeline.left in
    let w = g.row.W in
    let compiled = c.args.compiled.now in
    let active = c.args.active in
    let old = c.args.words.now in
    let mid = c.begin.new.words in
    let sound = c.requires.sound in
    let returning = returns_at w compiled (regions_in history w old) active c.args.value.now c.args.next c.requires.does in
    let point = Put (Return returning.1.0 returning.1.1) c.args.next in
    let room = step_within history w compiled old sound.lie active returning.0 point returning.1.3 in
    record {
      gang = sound.lie.gang;
      laid = c.give_result.ensures.laid;
      numbered = active_numbers history w compiled old sound active returning.0 (Some point) returning.1.3 c.give_result.new.words (c.give_result.ensures.layout ∙ c.begin.ensures.layout) c.give_result.ensures.laid;
      some = some_active history w compiled old sound active returning.0 point returning.1.3 tt;
      room = omega (arith, room, c.begin.ensures.left_is, c.give_result.ensures.few);
    }

pub returns : goal.returns
returns g c = λ masked shown.
    let history = g.T.Timeline.history in
    let left = g.T.Timeline.left in
    let w = g.row.W in
    let compiled = c.args.compiled.now in
    let active = c.args.active in
    let old = c.args.words.now in
    let mid = c.begin.new.words in
    let sound = c.requires.sound in
    let values = c.match-value.values in
    let regions = regions_in history w old in
    let returning = returns_at w compiled regions active c.args.value.now c.args.next c.requires.does in
    let f = returning.0 in
    let e = returning.1.1 in
    let function = c.index.result.now in
    let view : function_view function ≡ f =
    function_is compiled.program.functions.items active.function f returning.1.3.next.is_function function c.index.ensures in
    let is : initial e (lanes_of w active.lanes) masked.state ≡ Ok values =
    elim c.match-value.branch [
      | in-Some+in_ok-values-in-Some b ↦
          let there = value_there w compiled sound.lie.compiled_is regions active f returning.1.0 e c.args.next returning.1.3 c.args.value.now returning.1.2
          b.in-Some.value b.in-Some.is b.deref.result.now b.deref.ensures.value in
          let made : value there.0 (lanes_of w active.lanes) masked.state ≡ Ok b.in_ok-values-in-Some.values = b.in_ok-values-in-Some.ensures masked there.0 shown there.2 in
          ap (λ o. initial o (lanes_of w active.lanes) masked.state) there.1 ∙ made ∙ ap Ok (sym b.values-is)
      | in-None b ↦
          ap (λ o. initial o (lanes_of w active.lanes) masked.state) (no_value e c.args.value.now returning.1.2 b.in-None.is)
          ∙ ap Ok (each_zero w (lanes_of w active.lanes) (lanes_long w active.lanes) ∙ sym b.values-is)
    ] in
    returns_well history left w compiled active f returning.1.0 e c.args.next old mid c.give_result.new.words c.send_on.new.words sound returning.1.3 c.begin.ensures
    function.result (ap (λ (h : Function). h.result) view) values c.give_result.ensures c.send_on.ensures masked shown is
