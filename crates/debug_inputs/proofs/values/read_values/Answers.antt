use Rattle.std.proofs.Common.{◌∙◌, ◌++◌, ◌∷◌, [], ap, rules}
use mir.Val.{SFits}
use mir.Syntax.{w128}
use Rattle.std.proofs.lemmas.Int.{to_z-of_z}
use Rattle.gang_model.specs.Texts.InputText.{and_value, is_equals, values_of}
use Rattle.gang_model.specs.Texts.Spellings.{words_of_line}
use Rattle.debug_inputs.proofs.KeptValues.{behind_values, one_value, some_limited}
use Rattle.debug_inputs.proofs.values.read_values.Goals as goal

pub loop-word-preserved : goal.loop-word-preserved
loop-word-preserved c =
    let fits : SFits w128 c.in-Some-number.number = search rules in
    let (zs, shows, so_far) = c.loop-word.invariant in
    let (z, is, number) = some_limited _ _ c.in-Some-number.ensures in
    let rest = values_of (words_of_line is_equals c.in-Some.after.now) in (
      zs ++ z ∷ [],
      c.in_ok-add.ensures zs z (to_z-of_z w128 c.in-Some-number.number fits ∙ number) shows,
      so_far ∙ (ap (λ ws. behind_values zs (values_of ws)) c.in-Some.ensures ∙ (ap (λ o. behind_values zs (and_value o rest)) is ∙ one_value zs z rest)),
    )
