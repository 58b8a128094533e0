use Rattle.std.proofs.Common.{rules, ◌<◌, ◌^◌, ◌∙◌, ap}
use Rattle.std.proofs.lemmas.Int.{quot_is}
use Rattle.std.specs.Prelude.{unsigned_abs, int_div, FitsSigned}
use Rattle.std.specs.Int.{w128}
use Rattle.gang_types.specs.Values.{binary_of, wrapped, value_of}
use Rattle.gang_types.proofs.Wide.{divisor_bits, quot_fits_wide, quot_fits_bits}
use Rattle.gang_types.proofs.operations.div.Goals as goal

pub nonzero_div-value : goal.nonzero_div-value
nonzero_div-value c =
    let sx : unsigned_abs c.value.result < 2 ^ 127 = search rules in
    let sy : unsigned_abs c.value-2.result < 2 ^ 127 = search rules in
    let fb : c.args.b < 2 ^ 64 = search rules in
    (divisor_bits c.args.ty c.args.b c.value-2.result c.requires fb c.value-2.ensures.value sy, quot_fits_bits c.value.result c.value-2.result sx)

pub returns : goal.returns
unfolding binary_of
returns c =
    let sx : unsigned_abs c.value.result < 2 ^ 127 = search rules in
    let fx : FitsSigned w128 c.value.result = search rules in
    let fy : FitsSigned w128 c.value-2.result = search rules in
    c.wrapped_word.ensures
    ∙ ap (wrapped c.args.ty) (quot_is w128 c.value.result c.value-2.result fx fy (quot_fits_wide c.value.result c.value-2.result sx))
    ∙ ap (λ z. wrapped c.args.ty (int_div z c.value-2.result)) c.value.ensures.value
    ∙ ap (λ z. wrapped c.args.ty (int_div (value_of c.args.ty c.args.a) z)) c.value-2.ensures.value
