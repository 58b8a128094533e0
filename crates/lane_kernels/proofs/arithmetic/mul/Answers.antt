use Rattle.std.proofs.Common.{rules, ◌≡◌, ◌<◌, ◌*◌, ◌%◌, ◌^◌, ℕ, length, arith, slice_index, ◌∙◌, sym, ap, cond, nat_lt}
use Rattle.gang_types.specs.Values.{binary_of}
use Rattle.gang_types.specs.declared.operators.BinaryOp.TheVariants.{Mul}
use Rattle.gang_types.specs.Laws.{narrow_word, mul_bool, mul_integer}
use Rattle.lane_kernels.proofs.VectorLanes.{by_lane_of, by_lane, lane_chosen, min_is}
use Rattle.lane_kernels.proofs.arithmetic.mul.Goals.{then-is_bool, else-is_bool}
use Rattle.lane_kernels.proofs.arithmetic.mul.Goals as goal

pub returns : goal.returns
returns g c =
    let la : length c.args.a ≡ g.row.W = omega arith in
    let lb : length c.args.b ≡ g.row.W = omega arith in
    let fa : (k : ℕ) → slice_index c.args.a k < 2 ^ 64 = λ k. search rules in
    let fb : (k : ℕ) → slice_index c.args.b k < 2 ^ 64 = λ k. search rules in
    elim c.if-is_bool.branch [
      | then-is_bool w ↦
          let p = sym c.is_bool.ensures ∙ w.if-is_bool.true in
          by_lane g.row.W (narrow_word c.args.ty) (λ x y. cond (nat_lt x y) x y) (binary_of Mul c.args.ty) c.args.a c.args.b c.if-is_bool.products c.narrow_lanes.result c.narrow_lanes.ensures
          c.if-is_bool.auto.products.0
          (λ i h. ap (λ l. slice_index l i) w.products-is ∙ lane_chosen g.row.W nat_lt c.args.a c.args.b c.args.a c.args.b la lb la lb i h)
          fa fb
          (λ x y h k. mul_bool c.args.ty x y p ∙ ap (narrow_word c.args.ty) (min_is x y))
      | else-is_bool w ↦
          let p = sym c.is_bool.ensures ∙ w.if-is_bool.false in
          by_lane_of g.row.W (narrow_word c.args.ty) (λ x y. (x * y) % 2 ^ 64) (binary_of Mul c.args.ty) c.args.a c.args.b c.if-is_bool.products c.narrow_lanes.result c.narrow_lanes.ensures w.products-is la lb fa fb
          (λ x y h k. mul_integer c.args.ty x y p h k)
    ]
