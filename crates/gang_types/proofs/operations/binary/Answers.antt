use Rattle.gang_types.specs.Ranges.{binary_result-InType}
use Rattle.gang_types.proofs.operations.binary.Goals as goal

pub returns-clause-of_type : goal.returns-clause-of_type
returns-clause-of_type c = binary_result-InType c.args.op c.args.ty c.args.a c.args.b c.binary_word.result c.binary_word.ensures
