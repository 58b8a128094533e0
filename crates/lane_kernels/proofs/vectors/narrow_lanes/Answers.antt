use Rattle.std.proofs.Common.{◌∙◌, sym}
use Rattle.lane_kernels.proofs.VectorLanes.{narrow_bool, narrow_integer}
use Rattle.lane_kernels.proofs.vectors.narrow_lanes.Goals.{then-is_bool, else-is_bool}
use Rattle.lane_kernels.proofs.vectors.narrow_lanes.Goals as goal

pub returns : goal.returns
returns g c =
    elim c.if-is_bool.branch [
      | then-is_bool w ↦ w.result-is ∙ narrow_bool c.args.ty c.args.words g.row.W (sym c.is_bool.ensures ∙ w.if-is_bool.true) c.fits-words.0
      | else-is_bool w ↦ w.result-is ∙ narrow_integer c.args.ty c.args.words g.row.W w.half-half.result w.low_bits.result (sym c.is_bool.ensures ∙ w.if-is_bool.false) c.fits-words.0 w.half-half.ensures w.low_bits.ensures
    ]
