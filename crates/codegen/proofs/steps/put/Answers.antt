use Rattle.codegen.proofs.Statements.{packed_or_other}
use Rattle.codegen.proofs.steps.put.Goals as goal

pub packed-requires : goal.packed-requires
packed-requires c =
    packed_or_other c.args.statement.now c.requires c.in_default.not-Declare c.in_default.not-Assign c.in_default.not-Change c.in_default.not-Return c.in_default.not-Check
