use Rattle.std.proofs.Common.{◌∙◌, sym, ap}
use Rattle.std.specs.Prelude.{Ok}
use Rattle.gang_types.specs.Masks.{lanes_of}
use Rattle.expression_instructions.proofs.IdleOperations.{three_idle}
use Rattle.expression_instructions.proofs.operations.apply_three.Goals as goal

pub returns-then-is_empty : goal.returns-then-is_empty
returns-then-is_empty g c = ap Ok c.splat.ensures ∙ three_idle c.args.operation (lanes_of g.row.W c.args.mask) c.args.first c.args.second c.args.third (sym c.is_empty.ensures ∙ c.if-is_empty.true)
