use Rattle.std.proofs.Common.{◌∙◌, ◌+◌, refl, sym, ap, subst, [], length, arith}
use Rattle.std.specs.Prelude.{Err}
use Rattle.std.proofs.lemmas.List.{length_push}
use Rattle.std.proofs.lemmas.Option.{slice_get_read}
use Rattle.std.proofs.lemmas.Result.{err_from_is_err_and}
use Rattle.gang_types.specs.Masks.{lanes_of}
use Rattle.gang_types.specs.MaskLaws.{gang_width-le}
use Rattle.debug_traits.specs.Machines.{fault_view}
use Rattle.machine_words.specs.Words.{regions_in}
use Rattle.machine_steps.specs.Calls.{AreArgumentWords, ArePassed, IsArgumentAt}
use Rattle.codegen.specs.Codes.{Fit}
use Rattle.codegen.proofs.Rows.{fit_long}
use Rattle.frame_steps.proofs.FunctionCode.{fit_with}
use Rattle.frame_steps.proofs.GangLanes.{stacks_small}
use Rattle.machine_steps.proofs.PassedArguments.{fault_passed, one_passed, whole}
use Rattle.machine_steps.proofs.calls.arguments.Goals as goal

pub loop-arg-init : goal.loop-arg-init
loop-arg-init g c =
    (ap length c.new-given.ensures, λ masked meant shown fits. subst (Fit (AreArgumentWords g.row.W (regions_in g.T.Timeline.history g.row.W c.args.words.now) (lanes_of g.row.W c.args.active.lanes) masked.state) []) (sym c.new-given.ensures) tt)

pub argument-requires : goal.argument-requires
argument-requires g c =
    let w = g.row.W in
    let compiled = c.args.compiled.now in
    let active = c.args.active in
    let regions = regions_in g.T.Timeline.history w c.args.words.now in
    let args = c.args.args.now in
    let i = c.loop-arg.arg-index in
    let made = c.arg-item.result in
    let is_arg = slice_get_read args (length args) i made refl c.loop-arg-test.true c.arg-item.is in
    let gang = c.requires.sound.lie.gang in
    let small = gang_width-le w gang in
    let next = fit_with (IsArgumentAt w compiled regions active) args c.requires.fits.0 i made c.requires.fits.1 is_arg in
    (stacks_small w gang, (omega (arith, small), (c.requires.sound, (c.requires.point, (next.0, next.2)))))

pub returns-in_err-argument : goal.returns-in_err-argument
returns-in_err-argument g c masked meant shown fits =
    let w = g.row.W in
    let compiled = c.args.compiled.now in
    let active = c.args.active in
    let regions = regions_in g.T.Timeline.history w c.args.words.now in
    let args = c.args.args.now in
    let i = c.loop-arg.arg-index in
    let made = c.arg-item.result in
    let is_arg = slice_get_read args (length args) i made refl c.loop-arg-test.true c.arg-item.is in
    let next = fit_with (IsArgumentAt w compiled regions active) args meant i made fits is_arg in
    let lanes = lanes_of w active.lanes in
    let fault = c.in_err-argument.field-0.0 in
    let p = err_from_is_err_and c.from_residual.result c.from_residual.ensures.1 in
    subst (ArePassed w regions meant lanes masked.state) (sym p.1)
    (fault_passed w regions lanes masked.state meant c.loop-arg.given.items i next.0 (fault_view fault) (c.loop-arg.invariant.1 masked meant shown fits) next.1
    (c.in_err-argument.ensures masked next.0 shown next.2)
    ∙ ap (λ found. Err (fault_view found)) (sym p.2))

pub loop-arg-preserved : goal.loop-arg-preserved
loop-arg-preserved g c =
    let w = g.row.W in
    let compiled = c.args.compiled.now in
    let active = c.args.active in
    let regions = regions_in g.T.Timeline.history w c.args.words.now in
    let args = c.args.args.now in
    let i = c.loop-arg.arg-index in
    let made = c.arg-item.result in
    let is_arg = slice_get_read args (length args) i made refl c.loop-arg-test.true c.arg-item.is in
    let given = c.loop-arg.given.items in
    let answer = c.in_ok-argument.field-0 in
    let lanes = lanes_of w active.lanes in (
      ap length c.push.ensures.items ∙ length_push given answer ∙ ap (λ n. n + 1) c.loop-arg.invariant.0,
      λ masked meant shown fits.
          let next = fit_with (IsArgumentAt w compiled regions active) args meant i made fits is_arg in
          one_passed w regions lanes masked.state meant given c.push.new.self.items i next.0 answer next.1
          (c.in_ok-argument.ensures masked next.0 shown next.2)
          c.push.ensures.items (c.loop-arg.invariant.1 masked meant shown fits),
    )

pub returns : goal.returns
returns g c masked meant shown fits =
    let w = g.row.W in
    let regions = regions_in g.T.Timeline.history w c.args.words.now in
    let args = c.args.args.now in
    let long = fit_long (IsArgumentAt w c.args.compiled.now regions c.args.active) args meant fits in
    whole w regions (lanes_of w c.args.active.lanes) masked.state meant c.loop-arg.given.items c.loop-arg.arg-index (omega (arith, long, c.loop-arg-test.false)) (c.loop-arg.invariant.1 masked meant shown fits)
