use Rattle.gang_types.specs.Ranges.{unary-of_type}
use Rattle.gang_types.proofs.operations.unary.Goals as goal

pub returns-clause-of_type : goal.returns-clause-of_type
returns-clause-of_type c = unary-of_type c.args.op c.args.ty c.args.a c.unary_word.result c.unary_word.ensures
