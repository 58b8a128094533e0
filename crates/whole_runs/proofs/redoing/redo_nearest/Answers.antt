use Rattle.std.proofs.Common.{ap, arith, drop, subst, sym, take}
use Rattle.std.specs.Prelude.{IfSome, if◌then◌else◌}
use Rattle.debug_traits.specs.Beginnings.{with_events}
use Rattle.whole_runs.specs.Costs.{steps_left}
use Rattle.whole_runs.specs.Notes.{noted, steps_on}
use Rattle.whole_runs.specs.Runs.{IsCopied}
use Rattle.whole_runs.proofs.Places.{all_at, is_inside, within_of}
use Rattle.whole_runs.proofs.redoing.redo_nearest.Goals as goal

pub returns-in-Some-clause-redone : goal.returns-in-Some-clause-redone
returns-in-Some-clause-redone g c s d older copied begins are gone =
    let notes = c.args.notes.now in
    let copy = c.in-Some.copy.now in
    let (k, found) = c.in-Some.ensures.one in
    let P = IsCopied g.M.BeginsAgain.copies c.args.machine.now s d older notes.pokes.items notes.steps in
    let is = subst (λ o. IfSome o P) found (all_at P c.args.copies.now.all.items k copied) in
    let within = within_of notes.pokes.items notes.steps copy.pokes copy.steps c.in-Some.ensures.within in
    let (less, moment) = is within in
    let begun = subst (λ words. g.M.BeginsAgain.copies c.args.machine.now words s (with_events (steps_on copy.steps (noted older (take copy.pokes notes.pokes.items))) 0 0 d)) (sym c.deref.ensures.value) moment in
    c.redo_from.ensures.redone s d older (is_inside notes.pokes.items notes.steps copy.pokes copy.steps within) less begun are gone

pub returns-in-Some-clause-cost : goal.returns-in-Some-clause-cost
returns-in-Some-clause-cost g c =
    let notes = c.args.notes.now in
    let copy = c.in-Some.copy.now in
    let within = c.in-Some.ensures.within in
    let here = ap (λ b. if b then steps_left (drop copy.pokes notes.pokes.items) notes.steps copy.steps else steps_left notes.pokes.items notes.steps 0) within in
    let behind = c.in-Some.ensures.behind in
    let moved = c.redo_from.ensures.cost in
    omega (arith, here, behind, moved)

pub returns-in-None-clause-cost : goal.returns-in-None-clause-cost
returns-in-None-clause-cost g c =
    let behind = c.in-None.ensures.behind in
    let moved = c.redo_from-in-None.ensures.cost in
    omega (arith, behind, moved)
