use Rattle.std.proofs.Common.{◌∙◌, sym}
use Rattle.gang_types.specs.Masks.{lanes_of}
use Rattle.expression_instructions.proofs.IdleOperations.{one_idle}
use Rattle.expression_instructions.proofs.operations.apply_one.Goals as goal

pub returns-then-is_empty : goal.returns-then-is_empty
returns-then-is_empty g c = c.splat.ensures ∙ one_idle c.args.operation (lanes_of g.row.W c.args.mask) c.args.operand (sym c.is_empty.ensures ∙ c.if-is_empty.true)
