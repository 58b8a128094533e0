use Rattle.std.proofs.Common.{rules, ◌≡◌, ◌<◌, ◌^◌, ℕ, length, arith, slice_index, ◌∙◌, ap, sym, cond, nat_lt}
use Rattle.gang_types.specs.Laws.{biased, less_any}
use Rattle.lane_kernels.proofs.VectorLanes.{biased_lane}
use Rattle.lane_kernels.proofs.comparisons.less.Goals as goal

pub returns : goal.returns
returns g c =
    let la : length c.args.a ≡ g.row.W = omega arith in
    let lb : length c.args.b ≡ g.row.W = omega arith in
    let fa : (k : ℕ) → slice_index c.args.a k < 2 ^ 64 = λ k. search rules in
    let fb : (k : ℕ) → slice_index c.args.b k < 2 ^ 64 = λ k. search rules in
    λ i h. c.where_less.ensures i h
    ∙ ap (λ n. cond (nat_lt n (slice_index c.biased_lanes-y.result i)) 1 0) (biased_lane c.args.ty c.args.a c.biased_lanes-x.result i c.biased_lanes-x.ensures (omega arith))
    ∙ ap (λ n. cond (nat_lt (biased c.args.ty (slice_index c.args.a i)) n) 1 0) (biased_lane c.args.ty c.args.b c.biased_lanes-y.result i c.biased_lanes-y.ensures (omega arith))
    ∙ sym (less_any c.args.ty (slice_index c.args.a i) (slice_index c.args.b i) (fa i) (fb i))
