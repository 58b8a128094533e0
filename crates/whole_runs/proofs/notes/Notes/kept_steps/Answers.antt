use Rattle.std.proofs.Common.{◌≡◌, ◌∙◌, ◌+◌, ◌-◌, ap, arith, sym, subst, length, get_or}
use Rattle.whole_runs.proofs.Counts.{HavePassed, all_passed, none_passed, one_passed, only_steps}
use Rattle.whole_runs.proofs.notes.Notes.kept_steps.Goals as goal

pub overflow_sub-result : goal.overflow_sub-result
overflow_sub-result c =
    let e = only_steps c.args.self.now.pokes.items c.args.self.now.steps c.args.self.now.kept c.loop-passed.passed c.loop-passed.left c.loop-passed.steps c.loop-passed.invariant c.if-left-steps.true in
    omega (arith, e)

pub returns-then-left-steps : goal.returns-then-left-steps
returns-then-left-steps c =
    let e = only_steps c.args.self.now.pokes.items c.args.self.now.steps c.args.self.now.kept c.loop-passed.passed c.loop-passed.left c.loop-passed.steps c.loop-passed.invariant c.if-left-steps.true in
    omega (arith, e)

pub loop-passed-init : goal.loop-passed-init
loop-passed-init c = none_passed c.args.self.now.pokes.items c.args.self.now.steps c.args.self.now.kept c.args.self.now.noted

pub loop-passed-preserved : goal.loop-passed-preserved
loop-passed-preserved c =
    let pokes = c.args.self.now.pokes.items in
    let note = c.index.result.now in
    let many : length pokes ≡ c.len.result = omega (arith, c.len.ensures) in
    let is : get_or pokes (length pokes - 1 - c.loop-passed.passed) note ≡ note = ap (λ n. get_or pokes (n - 1 - c.loop-passed.passed) note) many ∙ sym c.index.ensures in
    let on = one_passed pokes c.args.self.now.steps c.args.self.now.kept c.loop-passed.passed c.loop-passed.left c.loop-passed.steps note
    (omega (arith, c.loop-passed-test.true, c.len-passed-end.ensures)) c.if-left-steps.false c.loop-passed.invariant in
    subst (λ n. HavePassed pokes c.args.self.now.steps c.args.self.now.kept (c.loop-passed.passed + 1) (c.loop-passed.left - (c.loop-passed.steps + 1)) n.steps) is on

pub overflow_sub-result-2 : goal.overflow_sub-result-2
overflow_sub-result-2 c =
    let e = all_passed c.args.self.now.pokes.items c.args.self.now.steps c.args.self.now.kept c.loop-passed.passed c.loop-passed.left c.loop-passed.steps c.loop-passed.invariant
    (omega (arith, c.loop-passed-test.false, c.len-passed-end.ensures)) (omega (arith, c.loop-passed.auto.passed-end, c.len-passed-end.ensures)) in
    omega (arith, e, c.len-2.ensures)

pub returns : goal.returns
returns c =
    let e = all_passed c.args.self.now.pokes.items c.args.self.now.steps c.args.self.now.kept c.loop-passed.passed c.loop-passed.left c.loop-passed.steps c.loop-passed.invariant
    (omega (arith, c.loop-passed-test.false, c.len-passed-end.ensures)) (omega (arith, c.loop-passed.auto.passed-end, c.len-passed-end.ensures)) in
    omega (arith, e, c.len-2.ensures)
