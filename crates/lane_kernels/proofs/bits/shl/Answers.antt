use Rattle.std.proofs.Common.{rules, ◌≡◌, ◌<◌, ◌*◌, ◌%◌, ◌^◌, ℕ, List, length, arith, slice_index, ◌∙◌, sym, ap}
use Rattle.gang_types.specs.Values.{binary_of}
use Rattle.gang_types.specs.declared.operators.BinaryOp.TheVariants.{Shl}
use lib.Lanes.{Each2, zip2}
use Rattle.std.proofs.lemmas.Simd.{length-zip2}
use Rattle.std.proofs.Common.{subst}
use Rattle.std.proofs.lemmas.List.{length-map}
use Rattle.gang_types.specs.Values.{amount}
use Rattle.gang_types.specs.Laws.{narrow_word, shl_any}
use Rattle.lane_kernels.proofs.VectorLanes.{by_lane, amounts_fit, lane_zip2, lane_map}
use Rattle.lane_kernels.proofs.bits.shl.Goals as goal

pub overflow_shl-a : goal.overflow_shl-a
overflow_shl-a g c =
    subst (λ (l : List ℕ). Each2 (λ (x y : ℕ). y < 64) c.args.a l) (sym c.amounts-places.ensures) (amounts_fit c.args.ty c.args.a c.args.b)

pub returns : goal.returns
returns g c =
    let la : length c.args.a ≡ g.row.W = omega arith in
    let lb : length c.args.b ≡ g.row.W = omega arith in
    let fa : (k : ℕ) → slice_index c.args.a k < 2 ^ 64 = λ k. search rules in
    let fb : (k : ℕ) → slice_index c.args.b k < 2 ^ 64 = λ k. search rules in
    let lp : length c.amounts-places.result ≡ g.row.W = ap length c.amounts-places.ensures ∙ length-map c.args.b (amount c.args.ty) ∙ lb in
    by_lane g.row.W (narrow_word c.args.ty) (λ x y. (x * 2 ^ amount c.args.ty y) % 2 ^ 64) (binary_of Shl c.args.ty) c.args.a c.args.b
    (zip2 (λ x y. (x * 2 ^ y) % 2 ^ 64) c.args.a c.amounts-places.result) c.narrow_lanes.result c.narrow_lanes.ensures
    (length-zip2 (λ x y. (x * 2 ^ y) % 2 ^ 64) c.args.a c.amounts-places.result (la ∙ sym lp) ∙ la)
    (λ i h. lane_zip2 (λ x y. (x * 2 ^ y) % 2 ^ 64) c.args.a c.amounts-places.result i (omega arith) (omega arith)
    ∙ ap (λ k. (slice_index c.args.a i * 2 ^ k) % 2 ^ 64) (ap (λ l. slice_index l i) c.amounts-places.ensures ∙ lane_map (amount c.args.ty) c.args.b i (omega arith)))
    fa fb
    (λ x y h k. shl_any c.args.ty x y h)
