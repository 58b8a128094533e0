-- What was noted of a run so far, with one moment more or with none.
use Rattle.std.proofs.Common.{◌≡◌, refl, sym, ap, ◌∙◌, subst, ℕ, Bool, true, false, List, [], ◌∷◌, ◌++◌, append-nil, codes, inr, map, None}
use Rattle.std.specs.Prelude.{All, Option}
use Rattle.std.proofs.lemmas.List.Elements.{All-nil}
use Rattle.gang_model.specs.Types.Tree.{Program}
use Rattle.gang_model.specs.Running.State.{State}
use Rattle.gang_model.specs.Texts.Text.{where_text}
use Rattle.gang_model.specs.Debugger.Debugger.{Debugger, Setting, now}
use Rattle.lane_picture.specs.Runs.{RunEnd}
use Rattle.lane_picture.specs.Seen.{state_after}
use Rattle.run_page.specs.declared.moments.Call.{Call}
use Rattle.run_page.specs.declared.moments.Moment.{Moment}
use Rattle.run_page.specs.declared.page.Subject.{Subject}
use Rattle.run_page.specs.declared.record.Record.{Record}
use Rattle.run_page.specs.declared.views.Row.{Row}
use Rattle.run_page.specs.Calls.{IsWidthOf, NotesCalls, NotesWidth}
use Rattle.run_page.specs.Moments.{AreMoments, NotesMoment, Stands, steps_done, steps_of, told_moments}
use Rattle.run_page.specs.Noting.{HasRecord}
use Rattle.run_page.specs.Recording.{NotesChanges, sights_of}
use Rattle.run_page.specs.Rows.{AreDistinct, AreRowsOf, sight_view}
use Rattle.run_page.proofs.CallsKept.{CallsSoFar, calls_more, no_calls}
use Rattle.run_page.proofs.MomentsNoted.{moments_more, one_if, steps_more, width_more}
use Rattle.run_page.proofs.Numbers.{distinct_none}
use Rattle.run_page.proofs.RecordKept.{KeptSoFar, kept_more, last_state, none_kept}

-- the moments that were noted are those behind these steps, and each has what is to be noted of it
pub record NotedSoFar (p : Program) (most : ℕ) (first : State) (steps : List ℕ) (kept : Record) (rows : List Row) (calls : List Call) : Type 0 where
  pub steps_are : steps_of kept.moments.items ≡ steps
  pub stand : AreMoments p first kept.moments.items
  pub distinct : AreDistinct (sights_of kept)
  pub changes : KeptSoFar p most first kept rows
  pub opened : CallsSoFar p first kept calls
  pub width : IsWidthOf p first kept.moments.items kept.width

-- of a whole run it is its record
pub whole_noted : (s : Setting) (d : Debugger) (subject : Subject) (tried done : ℕ) (ended : RunEnd) (steps : List ℕ) (kept : Record) (rows : List Row) (calls : List Call)
    → NotedSoFar s.program subject.most_words (now s d) steps kept rows calls → steps ≡ told_moments subject done → steps_done tried ended ≡ done → HasRecord s d subject tried ended kept
whole_noted s d subject tried done ended steps kept rows calls so all each = record {
  steps = so.steps_are ∙ all ∙ ap (told_moments subject) (sym each);
  stand = so.stand;
  calls = so.opened.have;
  changes = so.changes.have;
  width = so.width;
}

-- none so far
pub none_noted : (p : Program) (most : ℕ) (first : State) (kept : Record) (rows : List Row) (calls : List Call) → kept.moments.items ≡ [] → kept.variables.items ≡ [] → kept.width ≡ 0 → rows ≡ [] → calls ≡ []
    → NotedSoFar p most first [] kept rows calls
none_noted p most first kept rows calls none no_variables no_width no_rows no_call = record {
  steps_are = ap steps_of none;
  stand = subst (AreMoments p first) (sym none) (All-nil (λ (it : Moment). Stands (where_text p (state_after p it.taken first)) it.stand));
  distinct = distinct_none (sights_of kept) (ap (map sight_view) no_variables);
  changes = none_kept p most first kept rows none no_rows;
  opened = no_calls p first kept calls none no_call;
  width = inr (no_width, subst (λ moments. All (λ (it : Moment). where_text p (state_after p it.taken first) ≡ codes "ended") moments) (sym none) (All-nil (λ (it : Moment). where_text p (state_after p it.taken first) ≡ codes "ended")));
}

module _ (s : Setting) (e : Debugger) (most : ℕ) (first : State) (taken : ℕ) (steps : List ℕ) (old new : Record) (old_rows new_rows : List Row) (old_calls new_calls : List Call) (stood : now s e ≡ state_after s.program taken first) where
  abbrev Changes : Type 0
  Changes = (before : Option State) → AreDistinct (sights_of old) → AreRowsOf (sights_of old) most s.program before old_rows → NotesChanges s e taken most before old new new_rows

  -- with the one of where the run stands now
  one_noted : NotedSoFar s.program most first steps old old_rows old_calls → (AreDistinct (sights_of old) → AreDistinct (sights_of new)) → NotesMoment s e taken old.moments.items new.moments.items → Changes
      → NotesCalls s e taken old_calls old new new_calls → NotesWidth (where_text s.program (now s e)) old.width new.width → NotedSoFar s.program most first (steps ++ taken ∷ []) new new_rows new_calls
  one_noted so distinct noted changes calls width = record {
    steps_are = ap steps_of noted.1 ∙ steps_more old.moments.items noted.0 ∙ ap (λ n. steps_of old.moments.items ++ n ∷ []) noted.2 ∙ ap (λ steps. steps ++ taken ∷ []) so.steps_are;
    stand = moments_more s e first taken old.moments.items new.moments.items stood noted so.stand;
    distinct = distinct so.distinct;
    changes = kept_more s e most first taken old new old_rows new_rows stood (changes (last_state s.program most None first old.moments.items) so.distinct so.changes.last) so.changes;
    opened = calls_more s e first taken old new old_calls new_calls stood calls so.opened;
    width = width_more s e first taken old.moments.items new.moments.items old.width new.width stood noted width so.width;
  }

  -- with it, if it is wanted
  pub may_note : (wanted : Bool) → NotedSoFar s.program most first steps old old_rows old_calls → (AreDistinct (sights_of old) → AreDistinct (sights_of new))
      → (wanted ≡ true → NotesMoment s e taken old.moments.items new.moments.items) → (wanted ≡ true → Changes) → (wanted ≡ true → NotesCalls s e taken old_calls old new new_calls)
      → (wanted ≡ true → NotesWidth (where_text s.program (now s e)) old.width new.width) → (wanted ≡ false → (new ≡ old) × (new_rows ≡ old_rows) × (new_calls ≡ old_calls))
      → NotedSoFar s.program most first (steps ++ one_if wanted taken) new new_rows new_calls
  may_note true so distinct noted changes calls width skipped = one_noted so distinct (noted refl) (changes refl) (calls refl) (width refl)
  may_note false so distinct noted changes calls width skipped =
      let (same, same_rows, same_calls) = skipped refl in
      subst (λ steps. NotedSoFar s.program most first steps new new_rows new_calls) (sym (append-nil steps))
      (subst (λ kept. NotedSoFar s.program most first steps kept new_rows new_calls) (sym same)
      (subst (λ rows. NotedSoFar s.program most first steps old rows new_calls) (sym same_rows) (subst (λ calls. NotedSoFar s.program most first steps old old_rows calls) (sym same_calls) so)))
