use Rattle.std.proofs.Common.{◌≡◌, length, arith, slice_index, ◌∙◌, ap, cond, nat_eq}
use Rattle.std.specs.Prelude.{replicate, not}
use Rattle.lane_kernels.proofs.VectorLanes.{lane_chosen, lane_splat, length_splat, cond_not}
use Rattle.lane_kernels.proofs.choices.select.Goals as goal

pub returns : goal.returns
returns g c =
    let lc : length c.args.chosen ≡ g.row.W = omega arith in
    let la : length c.args.a ≡ g.row.W = omega arith in
    let lb : length c.args.b ≡ g.row.W = omega arith in
    λ i h. lane_chosen g.row.W (λ x y. not (nat_eq x y)) c.args.chosen (replicate g.row.W 0) c.args.a c.args.b lc (length_splat g.row.W 0) la lb i h
    ∙ ap (λ k. cond (not (nat_eq (slice_index c.args.chosen i) k)) (slice_index c.args.a i) (slice_index c.args.b i)) (lane_splat g.row.W i 0 h)
    ∙ cond_not (nat_eq (slice_index c.args.chosen i) 0) (slice_index c.args.a i) (slice_index c.args.b i)
