use Rattle.std.proofs.Common.{◌∙◌, sym, ap}
use Rattle.std.specs.Prelude.{Ok}
use Rattle.gang_types.specs.Masks.{lanes_of}
use Rattle.expression_instructions.proofs.IdleOperations.{two_idle}
use Rattle.expression_instructions.proofs.operations.apply_two.Goals as goal

pub returns-then-is_empty : goal.returns-then-is_empty
returns-then-is_empty g c = ap Ok c.splat.ensures ∙ two_idle c.args.operation (lanes_of g.row.W c.args.mask) c.args.left c.args.right (sym c.is_empty.ensures ∙ c.if-is_empty.true)
