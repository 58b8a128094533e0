use Rattle.std.proofs.Common.{◌∙◌, sym, subst}
use Rattle.placed_expressions.specs.Placed.{IsPlaced}
use Rattle.placed_expressions.specs.Refusals.{IsRefused}
use Rattle.frame_values.proofs.values.value_of_expression.Goals as goal

pub returns-in_default-clause-none : goal.returns-in_default-clause-none
returns-in_default-clause-none g c s d stands = sym (c.spot.ensures s d stands) ∙ c.in_default.is

pub returns-in-Ok-clause-value : goal.returns-in-Ok-clause-value
returns-in-Ok-clause-value g c s d stands =
    c.value_of_placed.ensures.value c.args.text.now s d c.in-Some.spot stands (sym (c.spot.ensures s d stands) ∙ c.in-Some.is)
    (subst (λ p. IsPlaced c.args.text.now p c.in-Some.spot c.in-Ok.placed) (sym (c.program.ensures s d stands)) c.in-Ok.ensures.placed)

pub returns-in-Ok-clause-none : goal.returns-in-Ok-clause-none
returns-in-Ok-clause-none g c s d stands =
    c.value_of_placed.ensures.none c.args.text.now s d c.in-Some.spot stands (sym (c.spot.ensures s d stands) ∙ c.in-Some.is)
    (subst (λ p. IsPlaced c.args.text.now p c.in-Some.spot c.in-Ok.placed) (sym (c.program.ensures s d stands)) c.in-Ok.ensures.placed)

pub returns-in-Err-clause-none : goal.returns-in-Err-clause-none
returns-in-Err-clause-none g c s d stands = (
  c.in-Some.spot,
  sym (c.spot.ensures s d stands) ∙ c.in-Some.is,
  subst (λ p. IsRefused c.args.text.now p c.in-Some.spot c.in-Err.refusal) (sym (c.program.ensures s d stands)) c.in-Err.ensures.refused,
)
