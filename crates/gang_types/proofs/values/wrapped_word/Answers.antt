use Rattle.std.proofs.Common.{rules, ◌≤◌, ◌^◌, ◌∙◌, sym, ap}
use Rattle.std.proofs.lemmas.Int.{to_z-of_z}
use Rattle.std.specs.Prelude.{unsigned_abs, pos, FitsSigned}
use Rattle.std.specs.Int.{cast_signed, cast_unsigned, w128, int_rem_euclid}
use Rattle.gang_types.proofs.Wide.{wrap_zero, wrap_other, wrap_integer}
use Rattle.gang_types.proofs.values.wrapped_word.Goals as goal

pub returns-then-v-eq0 : goal.returns-then-v-eq0
returns-then-v-eq0 c =
    let f : unsigned_abs c.args.v ≤ 2 ^ 127 = search rules in
    wrap_zero c.args.ty c.args.v (sym c.is_bool.ensures ∙ c.if-is_bool.true) f c.if-v-eq0.true

pub returns-else-v-eq0 : goal.returns-else-v-eq0
returns-else-v-eq0 c =
    let f : unsigned_abs c.args.v ≤ 2 ^ 127 = search rules in
    wrap_other c.args.ty c.args.v (sym c.is_bool.ensures ∙ c.if-is_bool.true) f c.if-v-eq0.false

pub returns-else-is_bool : goal.returns-else-is_bool
returns-else-is_bool c =
    let fr : FitsSigned w128 c.rem_euclid.result = search rules in
    let fv : FitsSigned w128 c.args.v = search rules in
    c.narrow_integer.ensures
    ∙ wrap_integer c.args.ty c.args.v c.rem_euclid.result (unsigned_abs (cast_signed w128 (cast_unsigned w128 c.rem_euclid.result)))
    (sym c.is_bool.ensures ∙ c.if-is_bool.false)
    (c.rem_euclid.ensures.value ∙ ap (λ z. int_rem_euclid z (pos (2 ^ 64))) (to_z-of_z w128 c.args.v fv))
    (ap unsigned_abs (to_z-of_z w128 c.rem_euclid.result fr))
