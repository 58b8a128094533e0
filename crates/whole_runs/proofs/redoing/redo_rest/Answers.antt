use Rattle.std.proofs.Common.{◌≤◌, ◌∷◌, ap, arith, subst, sym}
use Rattle.debug_traits.specs.Beginnings.{StandsAt}
use Rattle.whole_runs.specs.Notes.{AreNoted, HaveGone, noted, poke_of, steps_first, steps_on}
use Rattle.whole_runs.proofs.DoneAgain.{kept_on, no_notes}
use Rattle.whole_runs.specs.Costs.{steps_left}
use Rattle.whole_runs.proofs.StepCosts.{left_split}
use Rattle.whole_runs.proofs.redoing.redo_rest.Goals as goal

pub returns-in-None-clause-redone : goal.returns-in-None-clause-redone
returns-in-None-clause-redone g c s d older less there are gone =
    let stands = g.M.RecordedMachine.stands in
    let none = no_notes c.args.pokes.now c.in-None.ensures.cases in
    let few = subst (λ pokes. c.args.done ≤ steps_first pokes c.args.steps) none less in
    let left = subst (λ pokes. HaveGone s c.args.steps (noted older pokes)) none gone in
    let on = c.redo_left.ensures.redone s d older few there left in
    subst (λ pokes. StandsAt stands c.redo_left.new.machine s d (steps_on c.args.steps (noted older pokes))) (sym none) on

pub returns-in-Some-clause-redone : goal.returns-in-Some-clause-redone
returns-in-Some-clause-redone g c s d older less there are gone =
    let stands = g.M.RecordedMachine.stands in
    let is = c.in-Some.ensures.cases.0 in
    let first = c.in-Some.first.now in
    let few = subst (λ pokes. c.args.done ≤ steps_first pokes c.args.steps) is less in
    let now = subst (λ pokes. AreNoted s older pokes) is are in
    let left = subst (λ pokes. HaveGone s c.args.steps (noted older pokes)) is gone in
    let on = c.redo_left-in-Some.ensures.redone s d older few there now.0 in
    let poked = c.redo_poke.ensures.redone s d (steps_on first.steps older) on now.1 in
    let pokes = c.redo_pokes.ensures.redone s d (poke_of first ∷ steps_on first.steps older) poked now.2 in
    subst (λ pokes. StandsAt stands c.redo_steps.new.machine s d (steps_on c.args.steps (noted older pokes))) (sym is)
    (c.redo_steps.ensures.redone s d _ pokes left)

pub returns-in-Some-clause-copies : goal.returns-in-Some-clause-copies
returns-in-Some-clause-copies g c =
    let on = kept_on g.M.BeginsAgain.can_have g.M.BeginsAgain.copies in
    on _ _ _ (on _ _ _ c.redo_left-in-Some.ensures.copies c.redo_poke.ensures.copies) (on _ _ _ c.redo_pokes.ensures.copies c.redo_steps.ensures.copies)

pub returns-in-None-clause-cost : goal.returns-in-None-clause-cost
returns-in-None-clause-cost g c =
    let none = ap (λ pokes. steps_left pokes c.args.steps c.args.done) (no_notes c.args.pokes.now c.in-None.ensures.cases) in
    let all = c.redo_left.ensures.cost in
    omega (arith, none, all)

pub returns-in-Some-clause-cost : goal.returns-in-Some-clause-cost
returns-in-Some-clause-cost g c =
    let is = ap (λ pokes. steps_left pokes c.args.steps c.args.done) c.in-Some.ensures.cases.0 in
    let both = left_split c.in-Some.rest.now c.args.steps in
    let first = c.redo_left-in-Some.ensures.cost in
    let poke = c.redo_poke.ensures.cost in
    let pokes = c.redo_pokes.ensures.cost in
    let last = c.redo_steps.ensures.cost in
    omega (arith, is, both, first, poke, pokes, last)
