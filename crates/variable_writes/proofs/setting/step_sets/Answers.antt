use Rattle.variable_writes.proofs.Rows.{sets_nothing}
use Rattle.variable_writes.proofs.setting.step_sets.Goals as goal

pub returns-in_default : goal.returns-in_default
returns-in_default c =
    let other = c.in_default in
    sets_nothing c.args.id c.args.number c.args.statement.now other.not-Declare other.not-Assign other.not-Change other.not-PackedStore other.not-PackedLoad
