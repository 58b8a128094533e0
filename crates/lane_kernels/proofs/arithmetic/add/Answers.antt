use Rattle.std.proofs.Common.{rules, ◌≡◌, ◌<◌, ◌+◌, ◌%◌, ◌^◌, ℕ, length, arith, slice_index, ◌∙◌, sym, bit_or}
use Rattle.gang_types.specs.Values.{binary_of}
use Rattle.gang_types.specs.declared.operators.BinaryOp.TheVariants.{Add}
use Rattle.gang_types.specs.Laws.{narrow_word, add_bool, add_integer}
use Rattle.lane_kernels.proofs.VectorLanes.{by_lane_of}
use Rattle.lane_kernels.proofs.arithmetic.add.Goals.{then-is_bool, else-is_bool}
use Rattle.lane_kernels.proofs.arithmetic.add.Goals as goal

pub returns : goal.returns
returns g c =
    let la : length c.args.a ≡ g.row.W = omega arith in
    let lb : length c.args.b ≡ g.row.W = omega arith in
    let fa : (k : ℕ) → slice_index c.args.a k < 2 ^ 64 = λ k. search rules in
    let fb : (k : ℕ) → slice_index c.args.b k < 2 ^ 64 = λ k. search rules in
    elim c.if-is_bool.branch [
      | then-is_bool w ↦
          let p = sym c.is_bool.ensures ∙ w.if-is_bool.true in
          by_lane_of g.row.W (narrow_word c.args.ty) bit_or (binary_of Add c.args.ty) c.args.a c.args.b c.if-is_bool.sums c.narrow_lanes.result c.narrow_lanes.ensures w.sums-is la lb fa fb
          (λ x y h k. add_bool c.args.ty x y p)
      | else-is_bool w ↦
          let p = sym c.is_bool.ensures ∙ w.if-is_bool.false in
          by_lane_of g.row.W (narrow_word c.args.ty) (λ x y. (x + y) % 2 ^ 64) (binary_of Add c.args.ty) c.args.a c.args.b c.if-is_bool.sums c.narrow_lanes.result c.narrow_lanes.ensures w.sums-is la lb fa fb
          (λ x y h k. add_integer c.args.ty x y p h k)
    ]
