use Rattle.std.proofs.Common.{rules, ap, ◌∙◌}
use Rattle.std.proofs.lemmas.Int.{to_z-of_z}
use Rattle.std.specs.Prelude.{FitsSigned}
use Rattle.std.specs.Int.{w128}
use Rattle.gang_types.specs.Values.{wrapped}
use Rattle.gang_types.specs.Ranges.{convert-of_type, convert-kept}
use Rattle.gang_types.proofs.values.convert.Goals as goal

pub returns-clause-of_type : goal.returns-clause-of_type
returns-clause-of_type c =
    let fits : FitsSigned w128 c.value.result = search rules in
    convert-of_type c.args.from c.args.to c.args.word c.wrapped_word.result
    (c.wrapped_word.ensures ∙ ap (wrapped c.args.to) (to_z-of_z w128 c.value.result fits) ∙ ap (wrapped c.args.to) c.value.ensures.value)

pub returns-clause-kept : goal.returns-clause-kept
returns-clause-kept c =
    let fits : FitsSigned w128 c.value.result = search rules in
    convert-kept c.args.from c.args.to c.args.word c.wrapped_word.result
    (c.wrapped_word.ensures ∙ ap (wrapped c.args.to) (to_z-of_z w128 c.value.result fits) ∙ ap (wrapped c.args.to) c.value.ensures.value)
