use Rattle.std.proofs.Common.{◌∙◌, ◌-◌, ap, map, bit_and}
use Rattle.std.proofs.lemmas.Simd.{zip2_splat}
use Rattle.gang_types.specs.Laws.{amount_is}
use Rattle.gang_types.specs.Values.{amount, width}
use Rattle.lane_kernels.proofs.VectorLanes.{map_same}
use Rattle.lane_kernels.proofs.vectors.amounts.Goals as goal

pub returns : goal.returns
returns g c =
    zip2_splat bit_and c.args.words g.row.W (c.width.result - 1) c.fits-words.0
    ∙ ap (λ k. map (λ a. bit_and a (k - 1)) c.args.words) c.width.ensures
    ∙ map_same (λ a. bit_and a (width c.args.ty - 1)) (amount c.args.ty) (amount_is c.args.ty) c.args.words
