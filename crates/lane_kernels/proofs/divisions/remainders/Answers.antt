use Rattle.std.proofs.Common.{◌∙◌, sym}
use Rattle.gang_types.specs.Masks.{lanes_of}
use Rattle.lane_kernels.proofs.ZeroDivisors.{divisor-pos}
use Rattle.lane_kernels.proofs.divisions.remainders.Goals as goal

pub rem-requires : goal.rem-requires
rem-requires g c =
    divisor-pos (lanes_of g.row.W c.args.active) c.args.b c.loop-i.i c.requires.nonzero (sym c.has.ensures ∙ c.if-has.true)
