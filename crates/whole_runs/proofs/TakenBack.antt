-- Notes of which the last one is forgotten, or gets another behind it.
use Rattle.std.proofs.Common.{◌≡◌, refl, sym, subst, ap, ◌∙◌, ℕ, suc, List, [], ◌∷◌, ◌++◌}
use Rattle.std.specs.Prelude.{Ok}
use Rattle.undo_log.specs.declared.timeline.Undone.{Undone}
use Rattle.undo_log.specs.declared.timeline.Undone.TheVariants as undone
use Rattle.gang_model.specs.Types.Tree.{Variable}
use Rattle.gang_model.specs.Debugger.Events.{Event, Step}
use Rattle.gang_model.specs.Debugger.Debugger.{Debugger, Setting}
use Rattle.debug_traits.specs.declared.machine.Shown.{Shown}
use Rattle.debug_traits.specs.Beginnings.{with_events}
use Rattle.debug_traits.specs.Machines.{IsShown, kind_of}
use Rattle.whole_runs.specs.declared.notes.NotedPoke.{NotedPoke}
use Rattle.whole_runs.specs.Notes.{AreNoted, CanPoke, Forgets, HaveGone, noted, poke_of, steps_on}

-- the last poke is the newest event but the steps after it
pub noted_last : (older : List Event) (notes : List NotedPoke) (note : NotedPoke) → noted older (notes ++ note ∷ []) ≡ poke_of note ∷ steps_on note.steps (noted older notes)
noted_last older [] note = refl
noted_last older (first ∷ notes) note = noted_last (poke_of first ∷ steps_on first.steps older) notes note

module _ (s : Setting) where
  pub are_more : (older : List Event) (notes : List NotedPoke) (note : NotedPoke) → AreNoted s older notes → HaveGone s note.steps (noted older notes)
      → CanPoke s (steps_on note.steps (noted older notes)) note → AreNoted s older (notes ++ note ∷ [])
  are_more older [] note are gone can = (gone, can, tt)
  are_more older (first ∷ notes) note are gone can = (are.0, are.1, are_more (poke_of first ∷ steps_on first.steps older) notes note are.2 gone can)

  pub are_fewer : (older : List Event) (notes : List NotedPoke) (note : NotedPoke) → AreNoted s older (notes ++ note ∷ []) → AreNoted s older notes × HaveGone s note.steps (noted older notes)
  are_fewer older [] note are = (tt, are.0)
  are_fewer older (first ∷ notes) note are =
      let rest = are_fewer (poke_of first ∷ steps_on first.steps older) notes note are.2 in
      ((are.0, are.1, rest.0), rest.1)

  -- the event that was forgotten was the newest, and the others happened
  pub record Left (older events : List Event) (kind : Undone) (notes : List NotedPoke) (steps kept fewer : ℕ) : Type 0 where
    pub event : Event
    pub is : events ≡ event ∷ steps_on steps (noted older notes)
    pub kind_is : kind ≡ kind_of event
    pub noted_are : AreNoted s older notes
    pub gone : HaveGone s steps (noted older notes)
    pub one : kept ≡ suc fewer

  pub left_by : (older events : List Event) (old : List NotedPoke) (steps kept : ℕ) (kind : Undone) (new : List NotedPoke) (left fewer : ℕ) → events ≡ steps_on steps (noted older old)
      → AreNoted s older old → HaveGone s steps (noted older old) → Forgets old steps kept (Ok kind) new left fewer → Left older events kind new left kept fewer
  left_by older events old steps kept undone.Step new left fewer is are gone forgets =
      let (less, same, one) = forgets in
      let before : HaveGone s (suc left) (noted older old) = subst (λ n. HaveGone s n (noted older old)) less gone in
      let here : Left older events undone.Step old left kept fewer = record {
        event = Step;
        is = is ∙ ap (λ n. steps_on n (noted older old)) less;
        kind_is = refl;
        noted_are = are;
        gone = before.0;
        one = one;
      } in
      subst (λ notes. Left older events undone.Step notes left kept fewer) (sym same) here
  left_by older events old steps kept undone.Poke new left fewer is are gone forgets =
      let (note, none, more, last, one) = forgets in
      let before = are_fewer older new note (subst (λ notes. AreNoted s older notes) more are) in
      let here : Left older events undone.Poke new note.steps kept fewer = record {
        event = poke_of note;
        is = is ∙ ap (λ n. steps_on n (noted older old)) none ∙ ap (noted older) more ∙ noted_last older new note;
        kind_is = refl;
        noted_are = before.0;
        gone = before.1;
        one = one;
      } in
      subst (λ n. Left older events undone.Poke new n kept fewer) (sym last) here

-- what is shown after the same events
pub shown_same : (s : Setting) (d e : Debugger) (v : Variable) (shown : Shown) → d.events ≡ e.events → IsShown s d v shown → IsShown s e v shown
shown_same s d e v shown same i =
    let at : IsShown s (with_events d.events 0 0 d) v shown = record { there = i.there; id = i.id; type = i.type; rate = i.rate; is_array = i.is_array; is_constant = i.is_constant; count = i.count } in
    let j = subst (λ events. IsShown s (with_events events 0 0 d) v shown) same at in
    record { there = j.there; id = j.id; type = j.type; rate = j.rate; is_array = j.is_array; is_constant = j.is_constant; count = j.count }
