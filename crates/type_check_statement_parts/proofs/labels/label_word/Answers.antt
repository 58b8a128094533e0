use Rattle.std.proofs.Common.{rules, ap, sym, to_z, of_z, ◌∙◌}
use Rattle.std.proofs.lemmas.Int.{to_z-of_z}
use Rattle.std.specs.Prelude.{FitsSigned}
use Rattle.std.specs.Int.{w128}
use Rattle.gang_types.specs.Values.{wrapped}
use Rattle.gang_model.specs.Source.Judged.{answer_of}
use Rattle.gang_model.specs.Types.Statements.{label_word}
use Rattle.type_check_statement_parts.proofs.LabelWords.{word-kept, word-lost}
use Rattle.type_check_statement_parts.proofs.labels.label_word.Goals as goal

pub returns-then-value-number : goal.returns-then-value-number
returns-then-value-number c =
    let number = c.label_number-number.result in
    let fits : FitsSigned w128 number = search rules in
    let kept : FitsSigned w128 c.value.result = search rules in
    let same = sym (to_z-of_z w128 c.value.result kept) ∙ (ap (to_z w128) c.if-value-number.true ∙ to_z-of_z w128 number fits) in
    word-kept c.args.place c.args.selector_type c.in-Some.label number c.wrap-word.result c.label_number-number.ensures
    (c.wrap-word.ensures.value ∙ ap (wrapped c.args.selector_type) (to_z-of_z w128 number fits)) (sym c.value.ensures.value ∙ same)
    ∙ ap (λ label. answer_of (label_word c.args.place c.args.selector_type label)) (sym c.in-Some.is)

pub returns-else-value-number : goal.returns-else-value-number
returns-else-value-number c =
    let number = c.label_number-number.result in
    let fits : FitsSigned w128 number = search rules in
    word-lost c.args.place c.args.selector_type c.in-Some.label number c.wrap-word.result c.label_number-number.ensures
    (c.wrap-word.ensures.value ∙ ap (wrapped c.args.selector_type) (to_z-of_z w128 number fits)) (λ same. c.if-value-number.false (ap (of_z w128) (c.value.ensures.value ∙ same)))
    ∙ ap (λ label. answer_of (label_word c.args.place c.args.selector_type label)) (sym c.in-Some.is)
