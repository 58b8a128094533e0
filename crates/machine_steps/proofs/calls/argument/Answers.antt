use Rattle.std.proofs.Common.{◌≡◌, ap, ◌∙◌, subst, sym, length, arith}
use Rattle.std.specs.Prelude.{Err}
use Rattle.std.proofs.lemmas.Result.{err_from_is_err_and}
use Rattle.gang_types.specs.Masks.{lanes_of}
use Rattle.gang_types.specs.MaskLaws.{gang_width-le}
use Rattle.machine_words.specs.Views.{view_view}
use Rattle.machine_words.specs.Words.{regions_in}
use Rattle.frame_steps.proofs.GangLanes.{stacks_small}
use Rattle.machine_steps.specs.Calls.{IsArgumentAnswer}
use Rattle.machine_steps.proofs.ArgumentWords.{array_argument, part_faults, part_kept, value_answer, value_argument}
use Rattle.machine_steps.proofs.calls.argument.Goals as goal

pub value_of-requires : goal.value_of-requires
value_of-requires g c =
    let w = g.row.W in
    let regions = regions_in g.T.Timeline.history w c.args.words.now in
    let gang = c.requires.sound.lie.gang in
    let small = gang_width-le w gang in
    let of = value_argument w c.args.compiled.now regions c.args.active c.args.arg.now c.requires.fits.0 c.requires.fits.1 _ _ c.in-Value.is c.deref.result.now c.deref.ensures.value in
    (stacks_small w gang, (omega (arith, small), (c.requires.sound, (of.e, of.computes))))

pub returns-in-Value : goal.returns-in-Value
returns-in-Value g c = λ masked y shown fits.
    let w = g.row.W in
    let regions = regions_in g.T.Timeline.history w c.args.words.now in
    let of = value_argument w c.args.compiled.now regions c.args.active c.args.arg.now y fits _ _ c.in-Value.is c.deref.result.now c.deref.ensures.value in
    value_answer w c.args.compiled.now regions c.args.active (lanes_of w c.args.active.lanes) masked.state y c.deref.result.now of c.value_of.result (c.value_of.ensures masked of.e shown of.computes)

pub named_part-requires : goal.named_part-requires
named_part-requires g c =
    let w = g.row.W in
    let regions = regions_in g.T.Timeline.history w c.args.words.now in
    let gang = c.requires.sound.lie.gang in
    let small = gang_width-le w gang in
    let of = array_argument w c.args.compiled.now regions c.args.active c.args.arg.now c.requires.fits.0 c.requires.fits.1 _ _ c.in-Array.is in
    (stacks_small w gang, (c.requires.sound, (c.requires.point, (of.index, of.computes))))

pub returns-in_err-part-in-Array : goal.returns-in_err-part-in-Array
returns-in_err-part-in-Array g c = λ masked y shown fits.
    let w = g.row.W in
    let history = g.T.Timeline.history in
    let compiled = c.args.compiled.now in
    let regions = regions_in history w c.args.words.now in
    let fault = c.in_err-part-in-Array.field-0.0 in
    let p = err_from_is_err_and c.from_residual.result c.from_residual.ensures.1 in
    let of = array_argument w compiled regions c.args.active c.args.arg.now y fits _ _ c.in-Array.is in
    subst (IsArgumentAnswer w regions (lanes_of w c.args.active.lanes) masked.state y) (sym (p.1 ∙ ap Err p.2))
    (part_faults history w compiled c.args.words.now c.args.active c.requires.point masked shown y _ _ of fault (c.in_err-part-in-Array.ensures.part masked of.index shown of.computes))

pub returns-in_ok-part-in-Array : goal.returns-in_ok-part-in-Array
returns-in_ok-part-in-Array g c = λ masked y shown fits.
    let w = g.row.W in
    let history = g.T.Timeline.history in
    let compiled = c.args.compiled.now in
    let regions = regions_in history w c.args.words.now in
    let of = array_argument w compiled regions c.args.active c.args.arg.now y fits _ _ c.in-Array.is in
    let long : length c.view_words.result ≡ w = omega arith in
    part_kept history w compiled c.args.words.now c.args.active c.requires.point masked shown y _ _ of (view_view c.in_ok-part-in-Array.part) c.view_words.result
    (c.in_ok-part-in-Array.ensures.part masked of.index shown of.computes) c.in_ok-part-in-Array.ensures.inside c.view_words.ensures long
