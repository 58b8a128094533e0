use Rattle.std.proofs.Common.{◌∙◌, ap, slice_index, nat_eq, cond}
use Rattle.gang_types.specs.Masks.{lanes_of}
use Rattle.gang_types.specs.MaskLaws.{length-lanes_of_word}
use Rattle.lane_kernels.proofs.VectorLanes.{lane_splat}
use Rattle.lane_kernels.proofs.ZeroDivisors.{zero_divisors_are}
use Rattle.lane_kernels.proofs.divisions.zero_divisors.Goals as goal

pub returns : goal.returns
returns g c =
    c.where_true.ensures
    ∙ zero_divisors_are g.row.W (lanes_of g.row.W c.args.active) c.args.b c.where_equal.result (length-lanes_of_word g.row.W c.args.active.word)
    (λ i h. c.where_equal.ensures i h ∙ ap (λ n. cond (nat_eq (slice_index c.args.b i) n) 1 0) (lane_splat g.row.W i 0 h))
