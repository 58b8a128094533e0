-- The changes of moments, one after another.
use Rattle.std.proofs.Common.{◌≡◌, refl, sym, ap, ◌∙◌, subst, ℕ, zero, suc, ◌≤◌, ◌+◌, ◌-◌, List, [], ◌∷◌, ◌++◌, length, map, drop, take, Option, Some, None, arith, length-append}
use Rattle.std.specs.Prelude.{slice_get, Contains, option_map}
use Rattle.std.proofs.lemmas.List.{drop-append-le, length-drop, take-append-le}
use Rattle.std.proofs.lemmas.List.Elements.{All-weaker}
use Rattle.std.proofs.Math.Seq.{drop-append_seam, take-length}
use Rattle.gang_model.specs.Types.Tree.{Program}
use Rattle.gang_model.specs.Running.State.{State}
use Rattle.gang_model.specs.Debugger.Debugger.{Debugger, Setting, now}
use Rattle.lane_picture.specs.Seen.{state_after}
use Rattle.run_page.specs.declared.moments.Moment.{Moment}
use Rattle.run_page.specs.declared.record.Record.{Record}
use Rattle.run_page.specs.declared.views.Change.{Change}
use Rattle.run_page.specs.declared.views.Change.TheVariants as change
use Rattle.run_page.specs.declared.views.Row.{Row}
use Rattle.run_page.specs.Changes.{Difference, Differs, HasWord, IsGone, TellDifferences, told}
use Rattle.run_page.specs.Recording.{HasChanges, HaveChanges, NotesChanges, changes_of, sights_of}
use Rattle.run_page.specs.Rows.{AreRowsOf, Grows}
use Rattle.run_page.specs.Sights.{Sight}
use Rattle.run_page.proofs.Differing.{told_among}
use Rattle.run_page.proofs.Numbers.{stays}
use Rattle.run_page.proofs.Places.{place_of, at_place}

-- what a change tells it tells still where more variables have numbers
told_stays : (old new : List Sight) → Grows old new → (it : Change) (difference : Difference) → told old it ≡ Some difference → told new it ≡ Some difference
told_stays old new grows (change.Word n part word) difference is = go (slice_get old n) refl is
  where
    go : (o : Option Sight) → slice_get old n ≡ o → option_map (λ sight. HasWord sight part word) o ≡ Some difference → option_map (λ sight. HasWord sight part word) (slice_get new n) ≡ Some difference
    go None there is = absurd (cc (is))
    go (Some sight) there is = ap (option_map (λ sight. HasWord sight part word)) (stays old new grows n sight there) ∙ is
told_stays old new grows (change.Gone n) difference is = go (slice_get old n) refl is
  where
    go : (o : Option Sight) → slice_get old n ≡ o → option_map IsGone o ≡ Some difference → option_map IsGone (slice_get new n) ≡ Some difference
    go None there is = absurd (cc (is))
    go (Some sight) there is = ap (option_map IsGone) (stays old new grows n sight there) ∙ is

-- a change that tells a difference
among_told : (sights : List Sight) (changes : List Change) (difference : Difference) → Contains (map (told sights) changes) (Some difference) → (it : Change) × Contains changes it × (told sights it ≡ Some difference)
among_told sights changes difference there =
    let (k, is) = place_of (map (told sights) changes) (Some difference) there in
    let (it, here, tells) = go changes k is in
    (it, at_place changes it k here, tells)
  where
    go : (changes : List Change) (k : ℕ) → slice_get (map (told sights) changes) k ≡ Some (Some difference) → (it : Change) × (slice_get changes k ≡ Some it) × (told sights it ≡ Some difference)
    go [] k is = absurd (cc (is))
    go (x ∷ changes) zero is = (x, refl, cc (is))
    go (x ∷ changes) (suc k) is = go changes k is

module _ (p : Program) (most : ℕ) where
  tell_stays : (old new : List Sight) → Grows old new → (before : Option State) (state : State) (changes : List Change) → TellDifferences p most before state old changes → TellDifferences p most before state new changes
  tell_stays old new grows before state changes tell = record {
    sound = All-weaker (λ it. (difference : Difference) × (told old it ≡ Some difference) × Differs p most before state difference) (λ it. (difference : Difference) × (told new it ≡ Some difference) × Differs p most before state difference)
        (λ it (difference, is, differs). (difference, told_stays old new grows it difference is, differs)) changes tell.sound;
    complete = λ difference differs.
        let (it, there, is) = among_told old changes difference (tell.complete difference differs) in
        told_among new changes it difference (told_stays old new grows it difference is) there;
  }

  -- a moment's changes stay where others are put behind them
  has_stays : (old new : List Sight) → Grows old new → (changes more : List Change) (before : Option State) (state : State) (moment : Moment)
      → HasChanges p most old changes before state moment → HasChanges p most new (changes ++ more) before state moment
  has_stays old new grows changes more before state moment has =
      let from = moment.first_change in
      let count = moment.end_of_changes - from in
      let start : from ≤ length changes = omega (arith, has.order, has.inside) in
      let room : count ≤ length (drop from changes) = omega (arith, length-drop from changes, has.inside) in
      let kept : changes_of (changes ++ more) moment ≡ changes_of changes moment = ap (take count) (drop-append-le from changes more start) ∙ take-append-le count (drop from changes) more room in
      record {
        order = has.order;
        inside = omega (arith, has.inside, length-append changes more);
        tell = subst (TellDifferences p most before state new) (sym kept) (tell_stays old new grows before state (changes_of changes moment) has.tell);
      }

  have_stay : (old new : List Sight) → Grows old new → (changes more : List Change) (before : Option State) (first : State) (moments : List Moment)
      → HaveChanges p most old changes before first moments → HaveChanges p most new (changes ++ more) before first moments
  have_stay old new grows changes more before first [] have = tt
  have_stay old new grows changes more before first (moment ∷ moments) have =
      let state = state_after p moment.taken first in
      (has_stays old new grows changes more before state moment have.0, have_stay old new grows changes more (Some state) first moments have.1)

  -- where the program stood at the last moment
  pub last_state : (before : Option State) → (first : State) → List Moment → Option State
  last_state before first [] = before
  last_state before first (moment ∷ moments) = last_state (Some (state_after p moment.taken first)) first moments

  -- one moment more
  with_changes : (sights : List Sight) (changes : List Change) (before : Option State) (first : State) (moments : List Moment) (moment : Moment)
      → HaveChanges p most sights changes before first moments → HasChanges p most sights changes (last_state before first moments) (state_after p moment.taken first) moment
      → HaveChanges p most sights changes before first (moments ++ moment ∷ [])
  unfolding last_state
  with_changes sights changes before first [] moment have has = (has, tt)
  with_changes sights changes before first (one ∷ moments) moment have has =
      (have.0, with_changes sights changes (Some (state_after p one.taken first)) first moments moment have.1 has)

  last_with : (before : Option State) (first : State) (moments : List Moment) (moment : Moment) → last_state before first (moments ++ moment ∷ []) ≡ Some (state_after p moment.taken first)
  unfolding last_state
  last_with before first [] moment = refl
  last_with before first (one ∷ moments) moment = last_with (Some (state_after p one.taken first)) first moments moment

-- the changes of the moments so far, and the rows of the last one
pub record KeptSoFar (p : Program) (most : ℕ) (first : State) (kept : Record) (rows : List Row) : Type 0 where
  pub have : HaveChanges p most (sights_of kept) kept.changes.items None first kept.moments.items
  pub last : AreRowsOf (sights_of kept) most p (last_state p most None first kept.moments.items) rows

-- none so far
pub none_kept : (p : Program) (most : ℕ) (first : State) (kept : Record) (rows : List Row) → kept.moments.items ≡ [] → rows ≡ [] → KeptSoFar p most first kept rows
unfolding last_state
none_kept p most first kept rows none no_rows = record {
  have = subst (HaveChanges p most (sights_of kept) kept.changes.items None first) (sym none) tt;
  last = subst (λ moments. AreRowsOf (sights_of kept) most p (last_state p most None first moments) rows) (sym none) no_rows;
}

-- with the one of where the run stands now
pub kept_more : (s : Setting) (e : Debugger) (most : ℕ) (first : State) (taken : ℕ) (old new : Record) (old_rows new_rows : List Row) → now s e ≡ state_after s.program taken first
    → NotesChanges s e taken most (last_state s.program most None first old.moments.items) old new new_rows → KeptSoFar s.program most first old old_rows → KeptSoFar s.program most first new new_rows
kept_more s e most first taken old new old_rows new_rows stood notes so =
    let p = s.program in
    let reached : now s e ≡ state_after p notes.moment.taken first = stood ∙ ap (λ n. state_after p n first) (sym notes.taken_is) in
    let before = last_state p most None first old.moments.items in
    let stay : HaveChanges p most (sights_of new) new.changes.items None first old.moments.items =
    subst (λ changes. HaveChanges p most (sights_of new) changes None first old.moments.items) (sym notes.changes)
    (have_stay p most (sights_of old) (sights_of new) notes.sights old.changes.items notes.more None first old.moments.items so.have) in
    let all = with_changes p most (sights_of new) new.changes.items None first old.moments.items notes.moment stay (subst (λ state. HasChanges p most (sights_of new) new.changes.items before state notes.moment) reached notes.has) in
    record {
      have = subst (HaveChanges p most (sights_of new) new.changes.items None first) (sym notes.behind) all;
      last = subst (λ before. AreRowsOf (sights_of new) most p before new_rows)
          (ap Some reached ∙ sym (last_with p most None first old.moments.items notes.moment) ∙ ap (last_state p most None first) (sym notes.behind)) notes.rows_of;
    }

-- the changes that a moment adds are its own
pub has_own : (p : Program) (most : ℕ) (sights : List Sight) (old more new : List Change) (before : Option State) (state : State) (moment : Moment)
    → new ≡ old ++ more → moment.first_change ≡ length old → moment.end_of_changes ≡ length new → TellDifferences p most before state sights more → HasChanges p most sights new before state moment
has_own p most sights old more new before state moment is from to tell =
    let long : length new ≡ length old + length more = ap length is ∙ length-append old more in
    let count : moment.end_of_changes - moment.first_change ≡ length more = omega (arith, from, to, long) in
    let rest : drop moment.first_change new ≡ more = ap (λ n. drop n new) from ∙ ap (drop (length old)) is ∙ drop-append_seam old more in
    let own : changes_of new moment ≡ more = ap (take (moment.end_of_changes - moment.first_change)) rest ∙ ap (λ n. take n more) count ∙ take-length more in
    record { order = omega (arith, from, to, long); inside = omega (arith, to); tell = subst (TellDifferences p most before state sights) (sym own) tell }
