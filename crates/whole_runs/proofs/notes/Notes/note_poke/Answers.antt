use Rattle.std.proofs.Common.{arith}
use Rattle.whole_runs.proofs.Counts.{one_fewer}
use Rattle.whole_runs.proofs.notes.Notes.note_poke.Goals as goal

pub invariant_of-self-2-clause-noted : goal.invariant_of-self-2-clause-noted
invariant_of-self-2-clause-noted c =
    let e = one_fewer c.push.new.self.items c.args.self.now.pokes.items (record { steps = c.args.self.now.steps; depth = c.args.depth; shown = c.args.shown; at = c.args.at; word = c.args.word }) c.in_ok-push.ensures.items in
    let n = c.args.self.now.noted in
    omega (arith, e, n)

pub keep_one-requires : goal.keep_one-requires
keep_one-requires c =
    let e = one_fewer c.push.new.self.items c.args.self.now.pokes.items (record { steps = c.args.self.now.steps; depth = c.args.depth; shown = c.args.shown; at = c.args.at; word = c.args.word }) c.in_ok-push.ensures.items in
    let n = c.args.self.now.noted in
    omega (arith, e, n)
