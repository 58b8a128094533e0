use Rattle.std.proofs.Common.{◌≡◌, ◌≤◌, ◌-◌, subst, sym, arith}
use Rattle.debug_traits.specs.Beginnings.{StandsAt, with_events}
use Rattle.whole_runs.specs.Notes.{AreNoted, noted, steps_on}
use Rattle.whole_runs.proofs.Places.{gone_first}
use Rattle.whole_runs.proofs.redoing.move_start.Goals as goal

pub begin_again-requires-clause-words : goal.begin_again-requires-clause-words
begin_again-requires-clause-words g c = c.take_all_back.ensures.copies.0 _ c.requires

pub copy_over-requires : goal.copy_over-requires
copy_over-requires g c =
    c.redo_steps.ensures.copies.0 _ (c.redo_pokes.ensures.copies.0 _ (g.met.M.BeginsAgain.can_have_so _ _ _ c.begin_again.ensures.run (c.take_all_back.ensures.copies.0 _ c.requires)))

pub returns-clause-words : goal.returns-clause-words
returns-clause-words g c = c.redo_left.ensures.copies.0 _ c.copy_over.ensures.words

pub returns-clause-moved : goal.returns-clause-moved
returns-clause-moved g c s d older less begins are gone =
    let stands = g.M.RecordedMachine.stands in
    let pokes = c.args.notes.now.pokes.items in
    let steps = c.args.notes.now.steps in
    let before = noted older pokes in
    let begun = c.begin_again.ensures.moment s (with_events older 0 0 d) (c.take_all_back.ensures.copies.1 _ s _ begins) in
    let poked = c.redo_pokes.ensures.redone s d older begun (subst (λ pokes. AreNoted s older pokes) (sym c.deref.ensures.value) are) in
    let here = subst (λ pokes. StandsAt stands c.redo_pokes.new.machine s d (noted older pokes)) c.deref.ensures.value poked in
    let first : steps - c.min.result ≡ steps - c.args.left = omega (arith, c.min.ensures, less) in
    let fewer : steps - c.min.result ≤ steps = omega arith in
    let there = c.redo_steps.ensures.redone s d before here (gone_first s steps (steps - c.min.result) before fewer gone) in
    let (kept, history, at) = there in
    let copy = c.copy_over.ensures.moment s (with_events (steps_on (steps - c.min.result) before) kept history d) at in
    let after = c.redo_left.ensures.copies.1 _ s _ copy in (
      c.redo_left.ensures.redone s d before fewer there gone,
      subst (λ n. g.M.BeginsAgain.copies c.redo_left.new.machine c.copy_over.new.words s (with_events (steps_on n before) 0 0 d)) first after,
    )
