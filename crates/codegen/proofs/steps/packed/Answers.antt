use Rattle.codegen.proofs.Statements.{store_or_load}
use Rattle.codegen.proofs.steps.packed.Goals as goal

pub unreachable-requires : goal.unreachable-requires
unreachable-requires c = store_or_load c.args.statement.now c.requires c.in_default.not-PackedStore c.in_default.not-PackedLoad
