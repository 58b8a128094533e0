use Rattle.std.proofs.Common.{rules, ◌≡◌, ◌<◌, ◌^◌, ℕ, length, arith, slice_index, ◌∙◌}
use Rattle.lane_kernels.proofs.VectorLanes.{chosen_by_value}
use Rattle.lane_kernels.proofs.choices.max.Goals as goal

pub returns : goal.returns
returns g c =
    let la : length c.args.a ≡ g.row.W = omega arith in
    let lb : length c.args.b ≡ g.row.W = omega arith in
    let fa : (k : ℕ) → slice_index c.args.a k < 2 ^ 64 = λ k. search rules in
    let fb : (k : ℕ) → slice_index c.args.b k < 2 ^ 64 = λ k. search rules in
    λ i h. c.choose_where_less.ensures i h
    ∙ chosen_by_value c.args.ty c.args.a c.args.b c.biased_lanes.result c.biased_lanes-2.result i (slice_index c.args.b i) (slice_index c.args.a i)
    c.biased_lanes.ensures c.biased_lanes-2.ensures (omega arith) (omega arith) (fa i) (fb i)
