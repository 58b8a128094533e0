use Rattle.std.proofs.Common.{◌≡◌, ◌∙◌, ℕ, ◌+◌, ◌*◌, ◌<◌, ◌≤◌, refl, sym, ap, subst, length, arith}
use Rattle.std.proofs.lemmas.Result.{err_from_is_err_and}
use Rattle.gang_types.specs.declared.faults.FaultName.TheVariants.{CallDepth}
use Rattle.gang_types.specs.Masks.{lanes_of}
use Rattle.gang_types.specs.MaskLaws.{gang_width-le}
use Rattle.undo_log.specs.declared.timeline.Undone.TheVariants as undone
use Rattle.debug_traits.specs.Machines.{fault_view}
use Rattle.machine_states.specs.Regions.{OfLocal}
use Rattle.machine_states.specs.Steps.{FailsWith}
use Rattle.machine_words.specs.Words.{left_of, regions_in}
use Rattle.frame_steps.specs.Compiled.{program_of}
use Rattle.frame_steps.specs.Standing.{EndsAs}
use Rattle.frame_steps.proofs.GangLanes.{given_small, stacks_small}
use Rattle.frame_steps.proofs.Standings.{begun_laid}
use Rattle.machine_steps.specs.Calls.{AreParametersDeclared}
use Rattle.machine_steps.proofs.EnteredCalls.{call_below, call_ends, call_fails, call_few, call_fits, call_lanes, call_of, call_point, call_there, call_too_deep, frame_left, given_long, parameters_left, parameters_sized}
use Rattle.machine_steps.proofs.calls.enter.Goals as goal

pub arguments-requires : goal.arguments-requires
arguments-requires g c =
    let history = g.T.Timeline.history in
    let left = g.T.Timeline.left in
    let w = g.row.W in
    let compiled = c.args.compiled.now in
    let active = c.args.active in
    let old = c.args.words.now in
    let args = c.deref.result.now in
    let sound = c.requires.sound in
    let call = call_of w compiled (regions_in history w old) active c.args.function c.args.args.now c.requires.does.0 c.requires.does.1 c.requires.does.2 args c.deref.ensures.value in
    let fits = call_fits history left w compiled active c.args.function args old sound call in
    let small = gang_width-le w sound.lie.gang in
    (stacks_small w sound.lie.gang, (given_small w sound.lie.gang, (omega (arith, small), (sound, (call_point history left w compiled active c.args.function args old sound call, ((call.meant, fits), call_few history left w compiled active c.args.function args old sound call))))))

pub returns-in_err-given : goal.returns-in_err-given
returns-in_err-given g c masked shown =
    let history = g.T.Timeline.history in
    let left = g.T.Timeline.left in
    let w = g.row.W in
    let compiled = c.args.compiled.now in
    let active = c.args.active in
    let old = c.args.words.now in
    let args = c.deref.result.now in
    let sound = c.requires.sound in
    let call = call_of w compiled (regions_in history w old) active c.args.function c.args.args.now c.requires.does.0 c.requires.does.1 c.requires.does.2 args c.deref.ensures.value in
    let fits = call_fits history left w compiled active c.args.function args old sound call in
    let fault = c.in_err-given.field-0.0 in
    let p = err_from_is_err_and c.from_residual.result c.from_residual.ensures.1 in
    subst (λ r. EndsAs history w compiled masked old r old) (sym p.1) (
      subst (λ found. FailsWith (program_of compiled) masked (fault_view found)) (sym p.2)
          (call_fails history left w compiled active c.args.function args old sound call masked shown (fault_view fault) (c.in_err-given.ensures masked call.meant shown fits)),
      refl,
    )

pub lowest-requires-clause-lane : goal.lowest-requires-clause-lane
lowest-requires-clause-lane g c =
    let history = g.T.Timeline.history in
    let left = g.T.Timeline.left in
    let w = g.row.W in
    let compiled = c.args.compiled.now in
    let active = c.args.active in
    let old = c.args.words.now in
    let args = c.deref.result.now in
    let sound = c.requires.sound in
    let call = call_of w compiled (regions_in history w old) active c.args.function c.args.args.now c.requires.does.0 c.requires.does.1 c.requires.does.2 args c.deref.ensures.value in
    call_lanes history left w compiled active c.args.function args old sound call

pub returns-then-active-eq-MOST_FRAMES : goal.returns-then-active-eq-MOST_FRAMES
returns-then-active-eq-MOST_FRAMES g c masked shown =
    let history = g.T.Timeline.history in
    let left = g.T.Timeline.left in
    let w = g.row.W in
    let compiled = c.args.compiled.now in
    let active = c.args.active in
    let old = c.args.words.now in
    let args = c.deref.result.now in
    let sound = c.requires.sound in
    let call = call_of w compiled (regions_in history w old) active c.args.function c.args.args.now c.requires.does.0 c.requires.does.1 c.requires.does.2 args c.deref.ensures.value in
    let fits = call_fits history left w compiled active c.args.function args old sound call in
    let answer = c.in_ok-given.ensures masked call.meant shown fits in (
      subst (λ lane. FailsWith (program_of compiled) masked (record { name = CallDepth; lane = lane })) (sym c.lowest.ensures.value)
          (call_too_deep history left w compiled active c.args.function args old sound call c.if-active-eq-MOST_FRAMES.true masked shown c.in_ok-given.given.items answer),
      refl,
    )

pub declare_parameters-requires : goal.declare_parameters-requires
declare_parameters-requires g c =
    let history = g.T.Timeline.history in
    let left = g.T.Timeline.left in
    let w = g.row.W in
    let compiled = c.args.compiled.now in
    let active = c.args.active in
    let old = c.args.words.now in
    let args = c.deref.result.now in
    let sound = c.requires.sound in
    let call = call_of w compiled (regions_in history w old) active c.args.function c.args.args.now c.requires.does.0 c.requires.does.1 c.requires.does.2 args c.deref.ensures.value in
    let fits = call_fits history left w compiled active c.args.function args old sound call in
    let below = call_below history left w compiled active c.args.function args old sound call in
    let deep : active.frame + 1 < 64 = omega (arith, below, c.if-active-eq-MOST_FRAMES.false) in
    let open' = c.begin.new.words in
    let answer = c.in_ok-given.ensures sound.masked call.meant sound.shown fits in
    let small = gang_width-le w sound.lie.gang in
    let same = c.deref.ensures.value ∙ sym c.deref-2.ensures.value in (
      omega (arith, small),
      (
        sound.lie.gang,
        (
          begun_laid history left w compiled undone.Step old open' sound.lie c.begin.ensures,
          (
            ap length c.deref-3.ensures.0 ∙ given_long history left w compiled active c.args.function args old sound call sound.masked c.in_ok-given.given.items answer ∙ ap length same,
            (
              subst (λ made. (k : ℕ) → k < length made → length (regions_in history w open' (OfLocal (active.frame + 1) k)) ≡ w) same
                  (parameters_sized history left w compiled active c.args.function args old sound call open' c.begin.ensures deep),
              (
                call_lanes history left w compiled active c.args.function args old sound call,
                subst (λ made. length made * w ≤ left_of history left open') same (parameters_left history left w compiled active c.args.function args old sound call open' c.begin.ensures deep),
              ),
            ),
          ),
        ),
      ),
    )

pub begin_frame-requires-clause-runs : goal.begin_frame-requires-clause-runs
begin_frame-requires-clause-runs g c =
    let history = g.T.Timeline.history in
    let left = g.T.Timeline.left in
    let w = g.row.W in
    let compiled = c.args.compiled.now in
    let active = c.args.active in
    let old = c.args.words.now in
    let args = c.deref.result.now in
    let sound = c.requires.sound in
    let call = call_of w compiled (regions_in history w old) active c.args.function c.args.args.now c.requires.does.0 c.requires.does.1 c.requires.does.2 args c.deref.ensures.value in
    call_there history left w compiled active c.args.function args old sound call

pub begin_frame-requires-clause-left : goal.begin_frame-requires-clause-left
begin_frame-requires-clause-left g c =
    let history = g.T.Timeline.history in
    let left = g.T.Timeline.left in
    let w = g.row.W in
    let compiled = c.args.compiled.now in
    let active = c.args.active in
    let old = c.args.words.now in
    let args = c.deref.result.now in
    let sound = c.requires.sound in
    let call = call_of w compiled (regions_in history w old) active c.args.function c.args.args.now c.requires.does.0 c.requires.does.1 c.requires.does.2 args c.deref.ensures.value in
    let below = call_below history left w compiled active c.args.function args old sound call in
    let deep : active.frame + 1 < 64 = omega (arith, below, c.if-active-eq-MOST_FRAMES.false) in
    let open' = c.begin.new.words in
    let mid = c.declare_parameters.new.words in
    let lanes = lanes_of w active.lanes in
    let declared =
    subst (λ values. AreParametersDeclared history left w (active.frame + 1) (length args) args values lanes open' mid) c.deref-3.ensures.0
    (subst (λ made. AreParametersDeclared history left w (active.frame + 1) (length made) made c.deref-3.result.now lanes open' mid) (c.deref-2.ensures.value ∙ sym c.deref.ensures.value)
    c.declare_parameters.ensures) in
    frame_left history left w compiled active c.args.function args old sound call open' c.begin.ensures deep c.in_ok-given.given.items mid declared

pub returns : goal.returns
returns g c masked shown =
    let history = g.T.Timeline.history in
    let left = g.T.Timeline.left in
    let w = g.row.W in
    let compiled = c.args.compiled.now in
    let active = c.args.active in
    let old = c.args.words.now in
    let args = c.deref.result.now in
    let sound = c.requires.sound in
    let call = call_of w compiled (regions_in history w old) active c.args.function c.args.args.now c.requires.does.0 c.requires.does.1 c.requires.does.2 args c.deref.ensures.value in
    let fits = call_fits history left w compiled active c.args.function args old sound call in
    let below = call_below history left w compiled active c.args.function args old sound call in
    let deep : active.frame + 1 < 64 = omega (arith, below, c.if-active-eq-MOST_FRAMES.false) in
    let open' = c.begin.new.words in
    let mid = c.declare_parameters.new.words in
    let lanes = lanes_of w active.lanes in
    let declared =
    subst (λ values. AreParametersDeclared history left w (active.frame + 1) (length args) args values lanes open' mid) c.deref-3.ensures.0
    (subst (λ made. AreParametersDeclared history left w (active.frame + 1) (length made) made c.deref-3.result.now lanes open' mid) (c.deref-2.ensures.value ∙ sym c.deref.ensures.value)
    c.declare_parameters.ensures) in
    let answer = c.in_ok-given.ensures masked call.meant shown fits in
    let there = call_there history left w compiled active c.args.function args old sound call in
    call_ends history left w compiled active c.args.function args old sound call open' c.begin.ensures deep c.in_ok-given.given.items mid declared there.0 there.1 c.begin_frame.new.words (c.begin_frame.ensures there.0 there.1)
    masked shown answer
