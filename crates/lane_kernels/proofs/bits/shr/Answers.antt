use Rattle.std.proofs.Common.{rules, ◌≡◌, ◌<◌, ◌+◌, ◌-◌, ◌/◌, ◌%◌, ◌^◌, ℕ, List, length, arith, slice_index, ◌∙◌, sym, ap}
use Rattle.gang_types.specs.Values.{binary_of}
use Rattle.gang_types.specs.declared.operators.BinaryOp.TheVariants.{Shr}
use lib.Lanes.{Each2, zip2}
use Rattle.std.specs.Prelude.{replicate}
use Rattle.std.proofs.Common.{subst}
use Rattle.std.proofs.lemmas.List.{length-map}
use Rattle.gang_types.specs.Values.{amount}
use Rattle.gang_types.specs.Laws.{biased, narrow_word, shr_any, shifted_right}
use Rattle.lane_kernels.proofs.VectorLanes.{by_lane, amounts_fit, shr_lane, shr_length}
use Rattle.lane_kernels.proofs.bits.shr.Goals as goal

pub overflow_shr-from_zero : goal.overflow_shr-from_zero
overflow_shr-from_zero g c =
    subst (λ (l : List ℕ). Each2 (λ (x y : ℕ). y < 64) c.biased_lanes-from_zero.result l) (sym c.amounts-places.ensures) (amounts_fit c.args.ty c.biased_lanes-from_zero.result c.args.b)

pub overflow_shr-bias : goal.overflow_shr-bias
overflow_shr-bias g c =
    subst (λ (l : List ℕ). Each2 (λ (x y : ℕ). y < 64) (replicate g.row.W c.bias-bias.result) l) (sym c.amounts-places.ensures) (amounts_fit c.args.ty (replicate g.row.W c.bias-bias.result) c.args.b)

pub returns : goal.returns
returns g c =
    let la : length c.args.a ≡ g.row.W = omega arith in
    let lb : length c.args.b ≡ g.row.W = omega arith in
    let lx : length c.biased_lanes-from_zero.result ≡ g.row.W = ap length c.biased_lanes-from_zero.ensures ∙ length-map c.args.a (biased c.args.ty) ∙ la in
    let lp : length c.amounts-places.result ≡ g.row.W = ap length c.amounts-places.ensures ∙ length-map c.args.b (amount c.args.ty) ∙ lb in
    let fa : (k : ℕ) → slice_index c.args.a k < 2 ^ 64 = λ k. search rules in
    let fb : (k : ℕ) → slice_index c.args.b k < 2 ^ 64 = λ k. search rules in
    by_lane g.row.W (narrow_word c.args.ty) (λ x y. shifted_right c.args.ty x (amount c.args.ty y)) (binary_of Shr c.args.ty) c.args.a c.args.b
    (zip2 (λ u v. (u + (2 ^ 64 - v)) % 2 ^ 64) (zip2 (λ u v. u / 2 ^ v) c.biased_lanes-from_zero.result c.amounts-places.result) (zip2 (λ u v. u / 2 ^ v) (replicate g.row.W c.bias-bias.result) c.amounts-places.result))
    c.narrow_lanes.result c.narrow_lanes.ensures
    (shr_length g.row.W c.bias-bias.result c.biased_lanes-from_zero.result c.amounts-places.result lx lp)
    (shr_lane c.args.ty g.row.W c.bias-bias.result c.args.a c.args.b c.biased_lanes-from_zero.result c.amounts-places.result c.biased_lanes-from_zero.ensures c.amounts-places.ensures c.bias-bias.ensures la lb lx lp)
    fa fb
    (λ x y h k. shr_any c.args.ty x y h)
