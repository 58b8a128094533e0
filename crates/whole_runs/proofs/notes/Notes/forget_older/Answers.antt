use Rattle.std.proofs.Common.{[], arith}
use Rattle.whole_runs.specs.Notes.{noted}
use Rattle.whole_runs.proofs.Counts.{many_steps}
use Rattle.whole_runs.proofs.notes.Notes.forget_older.Goals as goal

pub invariant_of-self-clause-noted : goal.invariant_of-self-clause-noted
invariant_of-self-clause-noted c =
    let many = many_steps c.args.self.now.limit (noted [] c.clear.new.self.items) in
    let most = c.args.self.now.most in
    omega (arith, many, most)
