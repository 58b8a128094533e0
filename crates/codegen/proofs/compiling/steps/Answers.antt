use Rattle.std.proofs.Common.{length, map, rules, subst, sym, take}
use Rattle.std.proofs.lemmas.List.{length_push, take_all}
use Rattle.std.proofs.lemmas.Slice.Zip.{zip_turn, zip_end}
use Rattle.mask_lowering.specs.PointViews.{point_view}
use Rattle.foreach_lowering.specs.FormViews.{form_view}
use Rattle.codegen.specs.Codes.{DoAll, Does, Fit, HasCode, IsRoundOf}
use Rattle.codegen.proofs.Rows.{both_walked, fit_next, pair_of, pairs_long}
use Rattle.codegen.proofs.compiling.steps.Goals as goal

pub step-requires : goal.step-requires
step-requires c =
    let points = c.args.points.now in
    let forms = c.args.forms.now in
    let xs = c.loop-point.yielded in
    let turn =
    zip_turn points forms xs c.into_iter-point-iterator.result c.loop-point.point-iterator c.next.new.self c.next.result (search rules) (search rules)
    c.loop-point.yielded_by (c.in-Some.point, c.in-Some.form) c.in-Some.is c.next.ensures.steps in
    pair_of HasCode point_view form_view points forms c.requires (length xs) c.in-Some.point.now c.in-Some.form.now turn.0 turn.1 (turn.2 c.in-Some.point.now) (turn.3 c.in-Some.form.now)

pub loop-point-preserved : goal.loop-point-preserved
loop-point-preserved c =
    let points = c.args.points.now in
    let forms = c.args.forms.now in
    let xs = c.loop-point.yielded in
    let made = c.loop-point.made.items in
    let new = c.push.new.self.items in
    let turn =
    zip_turn points forms xs c.into_iter-point-iterator.result c.loop-point.point-iterator c.next.new.self c.next.result (search rules) (search rules)
    c.loop-point.yielded_by (c.in-Some.point, c.in-Some.form) c.in-Some.is c.next.ensures.steps in
    let more = sym (length_push xs (c.in-Some.point, c.in-Some.form)) in (
      subst (λ n. DoAll new (map point_view (take n points))) more
          (fit_next Does point_view points (length xs) c.in-Some.point.now made new c.in_ok-step.field-0 turn.0 (turn.2 c.in-Some.point.now) c.loop-point.invariant.0 c.in_ok-step.ensures.0 c.in_ok-push.ensures.items),
      subst (λ n. Fit IsRoundOf new (map form_view (take n forms))) more
          (fit_next IsRoundOf form_view forms (length xs) c.in-Some.form.now made new c.in_ok-step.field-0 turn.1 (turn.3 c.in-Some.form.now) c.loop-point.invariant.1 c.in_ok-step.ensures.1 c.in_ok-push.ensures.items),
    )

pub returns : goal.returns
returns c =
    let points = c.args.points.now in
    let forms = c.args.forms.now in
    let xs = c.loop-point.yielded in
    let made = c.loop-point.made.items in
    let end =
    zip_end points forms xs c.into_iter-point-iterator.result c.loop-point.point-iterator c.next.new.self c.next.result (search rules) (search rules)
    c.loop-point.yielded_by c.in-None.is c.next.ensures.steps in
    let walked = both_walked (length xs) (length points) (length forms) end (pairs_long HasCode point_view form_view points forms c.requires) in record {
      code = subst (λ l. DoAll made (map point_view l)) (take_all (length xs) points walked.0) c.loop-point.invariant.0;
      rounds = subst (λ l. Fit IsRoundOf made (map form_view l)) (take_all (length xs) forms walked.1) c.loop-point.invariant.1;
    }
