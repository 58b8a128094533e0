use Rattle.std.proofs.Common.{slice_index, nat_eq, cond, ◌∙◌, ap, sym}
use Rattle.gang_types.specs.Laws.{word_of_truth}
use Rattle.lane_kernels.proofs.VectorLanes.{lane_splat}
use Rattle.lane_kernels.proofs.comparisons.not.Goals as goal

pub returns : goal.returns
returns g c i h =
    c.where_equal.ensures i h
    ∙ ap (λ n. cond (nat_eq (slice_index c.args.a i) n) 1 0) (lane_splat g.row.W i 0 h)
    ∙ sym (word_of_truth (nat_eq (slice_index c.args.a i) 0))
