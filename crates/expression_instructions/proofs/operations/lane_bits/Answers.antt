use Rattle.std.proofs.Common.{◌∙◌}
use Rattle.gang_types.specs.Masks.{lanes_of}
use Rattle.cross_lane.proofs.LaneTests.{set_bits_of}
use Rattle.expression_instructions.proofs.operations.lane_bits.Goals as goal

pub returns : goal.returns
returns g c = c.word.ensures ∙ set_bits_of (lanes_of g.row.W c.args.mask)
