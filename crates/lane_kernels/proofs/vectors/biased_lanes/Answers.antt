use Rattle.std.proofs.Common.{◌∙◌, ◌+◌, ◌%◌, ◌^◌, ap, map}
use Rattle.std.proofs.lemmas.Simd.{zip2_splat}
use Rattle.lane_kernels.proofs.vectors.biased_lanes.Goals as goal

pub returns : goal.returns
returns g c =
    zip2_splat (λ a b. (a + b) % 2 ^ 64) c.args.words g.row.W c.bias.result c.fits-words.0
    ∙ ap (λ k. map (λ a. (a + k) % 2 ^ 64) c.args.words) c.bias.ensures
