use Rattle.lane_kernels.proofs.Scalars.{bit_count_is}
use Rattle.lane_kernels.proofs.bits.set_bits.Goals as goal

pub returns : goal.returns
returns c = bit_count_is c.args.ty c.args.word c.low_bits.result c.low_bits.ensures
