use Rattle.std.proofs.Common.{rules, arith, ◌∙◌, sym, ap}
use Rattle.std.proofs.lemmas.Int.{ints, to_z-of_z}
use Rattle.std.specs.Prelude.{FitsSigned}
use Rattle.std.specs.Int.{cast_signed, cast_unsigned, w64, w128}
use Rattle.gang_types.proofs.Wide.{value_signed, value_unsigned}
use Rattle.gang_types.proofs.values.value.Goals as goal

pub returns-then-is_signed-clause-value : goal.returns-then-is_signed-clause-value
returns-then-is_signed-clause-value c =
    let narrow : FitsSigned w64 c.cast_signed.result = search rules in
    let wide : FitsSigned w128 c.cast_signed.result = search rules in
    ap (λ z. cast_signed w128 (cast_unsigned w128 z)) (to_z-of_z w64 c.cast_signed.result narrow)
    ∙ to_z-of_z w128 c.cast_signed.result wide
    ∙ c.cast_signed.ensures
    ∙ sym (value_signed c.args.ty c.args.word (sym c.is_signed.ensures ∙ c.if-is_signed.true))

pub returns-else-is_signed-clause-value : goal.returns-else-is_signed-clause-value
returns-else-is_signed-clause-value c =
    let e = value_unsigned c.args.ty c.args.word (sym c.is_signed.ensures ∙ c.if-is_signed.false) in
    omega (arith, ints)
