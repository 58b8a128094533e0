use Rattle.std.proofs.Common.{length, map, rules, subst, sym, take}
use Rattle.std.proofs.lemmas.List.{length_push, take_all}
use Rattle.std.proofs.lemmas.Slice.Zip.{zip_turn, zip_end}
use Rattle.mask_lowering.specs.PointViews.{point_view}
use Rattle.mask_lowering.specs.Views.{points_view}
use Rattle.foreach_lowering.specs.FormViews.{forms_view, form_view}
use Rattle.codegen.specs.Codes.{AreRounds, DoAll, DoEach, Fit, HasCode, HaveCode, IsRoundOf}
use Rattle.codegen.proofs.Rows.{both_walked, fit_next, pair_of, pairs_long}
use Rattle.codegen.proofs.compiling.functions.Goals as goal

pub steps-requires : goal.steps-requires
steps-requires c =
    let lowered = c.args.lowered.now in
    let forms = c.args.forms.now in
    let xs = c.loop-points.yielded in
    let turn =
    zip_turn lowered forms xs c.into_iter-points-iterator.result c.loop-points.points-iterator c.next.new.self c.next.result (search rules) (search rules)
    c.loop-points.yielded_by (c.in-Some.points, c.in-Some.forms) c.in-Some.is c.next.ensures.steps in
    let here =
    pair_of HaveCode points_view forms_view lowered forms c.requires (length xs) c.in-Some.points.now c.in-Some.forms.now turn.0 turn.1 (turn.2 c.in-Some.points.now) (turn.3 c.in-Some.forms.now) in
    subst (λ ps. Fit HasCode (map point_view ps) (map form_view c.deref-in-loop-points.result.now)) (sym c.deref.ensures.value)
    (subst (λ fs. Fit HasCode (map point_view c.in-Some.points.now.items) (map form_view fs)) (sym c.deref-in-loop-points.ensures.value) here)

pub loop-points-preserved : goal.loop-points-preserved
loop-points-preserved c =
    let lowered = c.args.lowered.now in
    let forms = c.args.forms.now in
    let xs = c.loop-points.yielded in
    let made = c.loop-points.made.items in
    let new = c.push.new.self.items in
    let these = c.in_ok-steps.field-0 in
    let turn =
    zip_turn lowered forms xs c.into_iter-points-iterator.result c.loop-points.points-iterator c.next.new.self c.next.result (search rules) (search rules)
    c.loop-points.yielded_by (c.in-Some.points, c.in-Some.forms) c.in-Some.is c.next.ensures.steps in
    let more = sym (length_push xs (c.in-Some.points, c.in-Some.forms)) in (
      subst (λ n. DoEach new (map points_view (take n lowered))) more
          (fit_next (λ steps points. DoAll steps.items points) points_view lowered (length xs) c.in-Some.points.now made new these turn.0 (turn.2 c.in-Some.points.now) c.loop-points.invariant.0
          (subst (λ ps. DoAll these.items (map point_view ps)) c.deref.ensures.value c.in_ok-steps.ensures.code) c.in_ok-push.ensures.items),
      subst (λ n. Fit AreRounds new (map forms_view (take n forms))) more
          (fit_next AreRounds forms_view forms (length xs) c.in-Some.forms.now made new these turn.1 (turn.3 c.in-Some.forms.now) c.loop-points.invariant.1
          (subst (λ fs. Fit IsRoundOf these.items (map form_view fs)) c.deref-in-loop-points.ensures.value c.in_ok-steps.ensures.rounds) c.in_ok-push.ensures.items),
    )

pub returns : goal.returns
returns c =
    let lowered = c.args.lowered.now in
    let forms = c.args.forms.now in
    let xs = c.loop-points.yielded in
    let made = c.loop-points.made.items in
    let end =
    zip_end lowered forms xs c.into_iter-points-iterator.result c.loop-points.points-iterator c.next.new.self c.next.result (search rules) (search rules)
    c.loop-points.yielded_by c.in-None.is c.next.ensures.steps in
    let walked = both_walked (length xs) (length lowered) (length forms) end (pairs_long HaveCode points_view forms_view lowered forms c.requires) in record {
      code = subst (λ l. DoEach made (map points_view l)) (take_all (length xs) lowered walked.0) c.loop-points.invariant.0;
      rounds = subst (λ l. Fit AreRounds made (map forms_view l)) (take_all (length xs) forms walked.1) c.loop-points.invariant.1;
    }
