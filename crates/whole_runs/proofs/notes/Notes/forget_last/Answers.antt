use Rattle.std.proofs.Common.{rules, ◌≡◌, ◌++◌, ◌∷◌, [], length, arith, ap}
use Rattle.whole_runs.specs.Notes.{events_of}
use Rattle.whole_runs.proofs.Counts.{one_fewer}
use Rattle.whole_runs.proofs.notes.Notes.forget_last.Goals as goal

split : (c : goal.In-Some) → c.args.self.now.pokes.items ≡ c.pop.new.self.items ++ c.in-Some.last ∷ []
split c = search rules

pub invariant_of-self-in-Some-clause-noted : goal.invariant_of-self-in-Some-clause-noted
invariant_of-self-in-Some-clause-noted c =
    let none : c.args.self.now.steps ≡ 0 = omega (arith, c.if-self-gt0.false) in
    let all = ap (λ n. length (events_of c.args.self.now.pokes.items n)) none in
    let e = one_fewer c.args.self.now.pokes.items c.pop.new.self.items c.in-Some.last (split c) in
    let n = c.args.self.now.noted in
    omega (arith, all, e, n)
