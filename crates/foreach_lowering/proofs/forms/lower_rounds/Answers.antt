use Rattle.std.proofs.Common.{◌∙◌, ap, map, [], ◌∷◌}
use Rattle.std.proofs.lemmas.List.{map-append}
use Rattle.mask_lowering.specs.PointViews.{point_view}
use Rattle.mask_lowering.specs.Views.{points_view}
use Rattle.foreach_lowering.specs.FormViews.{forms_view}
use Rattle.foreach_lowering.proofs.Counted.{counts_rounds}
use Rattle.foreach_lowering.proofs.FormLoops.{next_function, all_functions}
use Rattle.foreach_lowering.proofs.HeadForms.{have_forms}
use Rattle.foreach_lowering.proofs.forms.lower_rounds.Goals as goal

pub loop-points-preserved : goal.loop-points-preserved
loop-points-preserved c = λ p is.
    next_function points_view c.deref-points-items.result.now p.functions c.loop-points.points-index c.points-item.result
    (map forms_view c.loop-points.functions.items) (map forms_view c.push.new.self.items) (forms_view c.in_ok-forms.forms)
    (ap (map points_view) c.deref-points-items.ensures.value ∙ is) c.loop-points-test.true c.points-item.is
    (λ f one. c.in_ok-forms.ensures f (ap (map point_view) c.deref.ensures.value ∙ one)) (c.loop-points.invariant p is)
    (ap (map forms_view) c.in_ok-push.ensures.items ∙ map-append forms_view c.loop-points.functions.items (c.in_ok-forms.forms ∷ []))

pub returns-clause-forms : goal.returns-clause-forms
returns-clause-forms c = λ p is.
    all_functions points_view c.deref-points-items.result.now p.functions c.loop-points.points-index (map forms_view c.loop-points.functions.items)
    (ap (map points_view) c.deref-points-items.ensures.value ∙ is) c.loop-points-test.false (c.loop-points.invariant p is)

-- these do not hang on what the function answers
pub returns-clause-heads : goal.returns-clause-heads
returns-clause-heads c = have_forms

pub returns-in_err-forms-clause-heads : goal.returns-in_err-forms-clause-heads
returns-in_err-forms-clause-heads c = have_forms

pub returns-in_err-push-clause-heads : goal.returns-in_err-push-clause-heads
returns-in_err-push-clause-heads c = have_forms

pub returns-clause-law : goal.returns-clause-law
returns-clause-law c = counts_rounds

pub returns-in_err-forms-clause-law : goal.returns-in_err-forms-clause-law
returns-in_err-forms-clause-law c = counts_rounds

pub returns-in_err-push-clause-law : goal.returns-in_err-push-clause-law
returns-in_err-push-clause-law c = counts_rounds
