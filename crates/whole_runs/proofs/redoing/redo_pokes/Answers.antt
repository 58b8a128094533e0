use Rattle.std.proofs.Common.{refl, sym, subst, arith, ◌∙◌, ◌∷◌, get_or, None, false}
use Rattle.debug_traits.specs.Beginnings.{StandsAt}
use Rattle.gang_types.specs.declared.places.VarId.TheVariants.{File}
use Rattle.gang_types.specs.declared.types.IntType.TheVariants.{Bool}
use Rattle.gang_types.specs.declared.types.Rate.TheVariants.{Uniform}
use Rattle.whole_runs.specs.declared.notes.NotedPoke.{NotedPoke}
use Rattle.whole_runs.specs.Notes.{poke_of, steps_on}
use Rattle.whole_runs.proofs.DoneAgain.{kept_on, kept_still, note_next, noted_end, noted_next}
use Rattle.whole_runs.proofs.StepCosts.{left_end, left_next}
use Rattle.whole_runs.proofs.redoing.redo_pokes.Goals as goal

-- any note
abbrev any : NotedPoke
any = record { steps = 0; depth = None; shown = record { id = File 0; value_type = Bool; rate = Uniform; is_array = false; is_constant = false; count = 0 }; at = None; word = 0 }

pub loop-note-init : goal.loop-note-init
loop-note-init g c = record {
  redone = λ s d older there are. (older, there, are, refl);
  copies = kept_still g.M.BeginsAgain.can_have g.M.BeginsAgain.copies _;
  cost = refl;
}

pub loop-note-preserved : goal.loop-note-preserved
loop-note-preserved g c = record {
  redone = λ s d older there are.
      let (done, here, left, same) = c.loop-note.invariant.redone s d older there are in
      let notes = c.args.notes.now in
      let k = c.loop-note.note-index in
      let inside = c.loop-note-test.true in
      let now = note_next s notes k any done inside left in
      let on = c.redo_steps.ensures.redone s d done here now.0 in (
        poke_of (get_or notes k any) ∷ steps_on (get_or notes k any).steps done,
        c.redo_poke.ensures.redone s d _ on now.1,
        now.2,
        sym (noted_next notes k any done inside) ∙ same,
      );
  copies = kept_on g.M.BeginsAgain.can_have g.M.BeginsAgain.copies _ _ _ c.loop-note.invariant.copies
      (kept_on g.M.BeginsAgain.can_have g.M.BeginsAgain.copies _ _ _ c.redo_steps.ensures.copies c.redo_poke.ensures.copies);
  cost =
      let before = c.loop-note.invariant.cost in
      let next = left_next c.args.notes.now c.loop-note.note-index any c.loop-note-test.true in
      let steps = c.redo_steps.ensures.cost in
      let poke = c.redo_poke.ensures.cost in
      omega (arith, before, next, steps, poke);
}

pub returns-clause-redone : goal.returns-clause-redone
returns-clause-redone g c s d older there are =
    let (done, here, left, same) = c.loop-note.invariant.redone s d older there are in
    subst (λ events. StandsAt g.M.RecordedMachine.stands c.loop-note.machine s d events) (sym (noted_end c.args.notes.now c.loop-note.note-index done c.loop-note-test.false) ∙ same) here

pub returns-clause-cost : goal.returns-clause-cost
returns-clause-cost g c =
    let all = c.loop-note.invariant.cost in
    let none = left_end c.args.notes.now c.loop-note.note-index c.loop-note-test.false in
    omega (arith, all, none)
