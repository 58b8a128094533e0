use Rattle.std.proofs.Common.{rules, ◌≡◌, ◌<◌, ◌^◌, ◌+◌, ◌-◌, ◌%◌, ℕ, length, arith, slice_index, refl}
use lib.Lanes.{zip2}
use Rattle.gang_types.specs.Values.{binary_of}
use Rattle.gang_types.specs.declared.operators.BinaryOp.TheVariants.{Sub}
use Rattle.gang_types.specs.Laws.{narrow_word, sub_any}
use Rattle.lane_kernels.proofs.VectorLanes.{by_lane_of}
use Rattle.lane_kernels.proofs.arithmetic.sub.Goals as goal

pub returns : goal.returns
returns g c =
    let la : length c.args.a ≡ g.row.W = omega arith in
    let lb : length c.args.b ≡ g.row.W = omega arith in
    let fa : (k : ℕ) → slice_index c.args.a k < 2 ^ 64 = λ k. search rules in
    let fb : (k : ℕ) → slice_index c.args.b k < 2 ^ 64 = λ k. search rules in
    by_lane_of g.row.W (narrow_word c.args.ty) (λ x y. (x + (2 ^ 64 - y)) % 2 ^ 64) (binary_of Sub c.args.ty) c.args.a c.args.b
    (zip2 (λ x y. (x + (2 ^ 64 - y)) % 2 ^ 64) c.args.a c.args.b) c.narrow_lanes.result c.narrow_lanes.ensures refl la lb fa fb
    (λ x y h k. sub_any c.args.ty x y h k)
