-- The clauses over words hold of a history without words.
use Rattle.std.proofs.Common.{◌≡◌, refl, sym, ap, ◌∙◌, arith, ℕ, zero, suc, ◌≤◌, List, [], ◌∷◌, ◌++◌, length, take, map, inl, inr}
use Rattle.std.specs.Prelude.{Ok, filter, min}
use Rattle.std.proofs.lemmas.Bool.{cases_lt}
use Rattle.std.proofs.lemmas.List.{length-map, length-take-le, length-take, take-append-le, take-map, take-take, take_all}
use Rattle.std.proofs.lemmas.List.Sums.{length-filter}
use Rattle.undo_log.specs.declared.timeline.Undone.{Undone}
use Rattle.undo_log.specs.declared.timeline.Undone.TheVariants as undone
use Rattle.undo_log.specs.History.{History, limited, moment, is_step as is_step_kind, steps_in}
use Rattle.gang_model.specs.Debugger.Events.{Event, Step, Poke}
use Rattle.gang_model.specs.Debugger.Debugger.{Debugger, is_step, kept_steps}
use Rattle.debug_traits.specs.declared.machine.StepEnd.{StepEnd}
use Rattle.debug_traits.specs.declared.machine.StepEnd.TheVariants as end
use Rattle.debug_traits.specs.Machines.{RecordsWords, StepsWords, UndoesWords, kind_of}
use Rattle.whole_runs.specs.declared.notes.NotedPoke.{NotedPoke}
use Rattle.whole_runs.specs.Notes.{Forgets, Noted, events_of, noted, poke_of, steps_on}
use Rattle.whole_runs.specs.Histories.{history_at, kinds}
use Rattle.whole_runs.proofs.Counts.{all_over}
use Rattle.whole_runs.proofs.TakenBack.{noted_last}

take_both : {X : Type 0} (m n : ℕ) (xs : List X) → take m (take n xs) ≡ take (min n m) xs
take_both m n xs = elim (cases_lt n m) [
  | inl less ↦
      let long = length-take n xs in
      let within : length (take n xs) ≤ m = omega (arith, long, less) in
      let same : n ≡ min n m = omega (arith, less) in
      take_all m (take n xs) within ∙ ap (λ k. take k xs) same
  | inr more ↦
      let same : m ≡ min n m = omega (arith, more) in
      take-take m n xs more ∙ ap (λ k. take k xs) same
]

-- ---- an event is recorded

recorded : (event : Event) (kept limit : ℕ) (events : List Event) → kinds (take (min (suc kept) limit) (event ∷ events)) ≡ take limit (moment (kind_of event) [] ∷ kinds (take kept events))
recorded event kept limit events =
    sym (take-map (λ event. moment (kind_of event) []) limit (take (suc kept) (event ∷ events)) ∙ ap kinds (take_both limit (suc kept) (event ∷ events)))

pub step_words : (n : Noted) → StepsWords (history_at n.kept n.limit (events_of n.pokes n.steps)) end.Done (history_at (min (suc n.kept) n.limit) n.limit (events_of n.pokes (suc n.steps)))
step_words n = (recorded Step n.kept n.limit (events_of n.pokes n.steps), refl, refl)

pub no_words : (h : History) (done : StepEnd) → (done ≡ end.Done → ⊥) → StepsWords h done h
no_words h end.Done none = absurd (none refl)
no_words h (end.Fault fault) none = refl
no_words h end.Ended none = refl

pub poke_words : (n : Noted) (note : NotedPoke) → note.steps ≡ n.steps
    → RecordsWords undone.Poke (history_at n.kept n.limit (events_of n.pokes n.steps)) (history_at (min (suc n.kept) n.limit) n.limit (events_of (n.pokes ++ note ∷ []) 0))
poke_words n note is = (
  ap (λ events. kinds (take (min (suc n.kept) n.limit) events)) (noted_last [] n.pokes note ∙ ap (λ k. poke_of note ∷ steps_on k (noted [] n.pokes)) is)
      ∙ recorded (poke_of note) n.kept n.limit (events_of n.pokes n.steps),
  refl,
  refl,
)

-- ---- an event is taken back

pub undo_words : (old new : Noted) (kind : Undone) → new.limit ≡ old.limit → Forgets old.pokes old.steps old.kept (Ok kind) new.pokes new.steps new.kept
    → UndoesWords (history_at old.kept old.limit (events_of old.pokes old.steps)) (Ok kind) (history_at new.kept new.limit (events_of new.pokes new.steps))
undo_words old new undone.Step limit_is (less, same, one) = (
  ap (λ n. kinds (take n (events_of old.pokes old.steps))) one
      ∙ ap (λ n. kinds (take (suc new.kept) (events_of old.pokes n))) less
      ∙ ap (λ notes. moment undone.Step [] ∷ kinds (take new.kept (events_of notes new.steps))) (sym same),
  limit_is,
)
undo_words old new undone.Poke limit_is (note, none, more, last, one) = (
  ap (λ n. kinds (take n (events_of old.pokes old.steps))) one
      ∙ ap (λ n. kinds (take (suc new.kept) (events_of old.pokes n))) none
      ∙ ap (λ notes. kinds (take (suc new.kept) (noted [] notes))) more
      ∙ ap (λ events. kinds (take (suc new.kept) events)) (noted_last [] new.pokes note)
      ∙ ap (λ n. moment undone.Poke [] ∷ kinds (take new.kept (steps_on n (noted [] new.pokes)))) (sym last),
  limit_is,
)

-- ---- the limit, and counts

pub limit_words : (kept old limit : ℕ) (events : List Event) → history_at (min kept limit) limit events ≡ limited limit (history_at kept old events)
limit_words kept old limit events =
    ap (λ past. record { words = []; past = past; limit = limit; room = 0 })
    (sym (take-map (λ event. moment (kind_of event) []) limit (take kept events) ∙ ap kinds (take_both limit kept events)))

pub many_kept : (kept : ℕ) (events : List Event) → kept ≤ length events → kept ≡ length (kinds (take kept events))
many_kept kept events less = sym (length-map (take kept events) (λ event. moment (kind_of event) []) ∙ length-take-le kept events less)

steps_of_kinds : (events : List Event) → length (filter is_step_kind (map (λ m. m.event) (kinds events))) ≡ length (filter is_step events)
steps_of_kinds [] = refl
steps_of_kinds (Step ∷ events) = ap suc (steps_of_kinds events)
steps_of_kinds (Poke what word ∷ events) = steps_of_kinds events

pub steps_kept : (kept : ℕ) (events : List Event) → length (filter is_step (take kept events)) ≡ steps_in (kinds (take kept events))
steps_kept kept events = sym (steps_of_kinds (take kept events)) ∙ length-filter is_step_kind (map (λ m. m.event) (kinds (take kept events)))

-- the steps among the newest events are those among what is noted
pub steps_shown : (d : Debugger) (older : List Event) (n : Noted) → d.events ≡ steps_on n.steps (noted older n.pokes) → d.kept ≡ n.kept → n.kept ≤ length (events_of n.pokes n.steps)
    → length (filter is_step (take n.kept (events_of n.pokes n.steps))) ≡ kept_steps d
steps_shown d older n events kept less =
    ap (λ events. length (filter is_step events))
    (sym (take-append-le n.kept (events_of n.pokes n.steps) older less)
    ∙ ap (take n.kept) (sym (all_over n.steps older n.pokes))
    ∙ ap (take n.kept) (sym events)
    ∙ ap (λ n. take n d.events) (sym kept))

-- ---- only steps

front : (k m n : ℕ) (older other : List Event) → k ≤ m → k ≤ n → take k (steps_on m older) ≡ take k (steps_on n other)
front zero m n older other less within = refl
front (suc k) zero n older other less within = absurd (none k less)
  where
    none : (k : ℕ) → suc k ≤ 0 → ⊥
    none k less = omega arith
front (suc k) (suc m) zero older other less within = absurd (none k within)
  where
    none : (k : ℕ) → suc k ≤ 0 → ⊥
    none k less = omega arith
front (suc k) (suc m) (suc n) older other less within = ap (λ events. Step ∷ events) (front k m n older other (fewer k m less) (fewer k n within))
  where
    fewer : (k m : ℕ) → suc k ≤ suc m → k ≤ m
    fewer k m less = omega arith

-- where the last events are steps, the history is the same over other older events
pub same_history : (a b : Noted) → a.kept ≡ b.kept → a.limit ≡ b.limit → b.kept ≤ a.steps → b.kept ≤ b.steps
    → history_at a.kept a.limit (events_of a.pokes a.steps) ≡ history_at b.kept b.limit (events_of b.pokes b.steps)
same_history a b kept limit less within =
    ap (λ k. history_at k a.limit (events_of a.pokes a.steps)) kept
    ∙ ap (λ l. history_at b.kept l (events_of a.pokes a.steps)) limit
    ∙ ap (λ events. record { words = []; past = kinds events; limit = b.limit; room = 0 }) (front b.kept a.steps b.steps (noted [] a.pokes) (noted [] b.pokes) less within)
