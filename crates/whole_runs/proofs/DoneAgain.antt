-- Steps and pokes that are done again.
use Rattle.std.proofs.Common.{◌≡◌, refl, sym, [], subst, ap, ◌∙◌, arith, ℕ, zero, suc, ◌+◌, ◌-◌, ◌<◌, ◌≤◌, List, ◌∷◌, ◌++◌, length, get_or, drop, Option, Some, None, inl, inr, sym, [], refl}
use Rattle.std.specs.Prelude.{if◌then◌else◌, Result, Ok, Err, is_err, true}
use Rattle.std.proofs.lemmas.List.{at_drop_more, at_drop_all}
use Rattle.std.proofs.lemmas.Bool.{cases_lt}
use Rattle.gang_model.specs.Types.Tree.{Variable}
use Rattle.gang_model.specs.Debugger.Events.{Event, Step, Poke, InFrame, WholeOf, LaneOf, ElementAt}
use Rattle.gang_model.specs.Debugger.Debugger.{Debugger, Setting, fresh, moved, poked_by}
use Rattle.debug_traits.specs.declared.machine.StepEnd.{StepEnd}
use Rattle.debug_traits.specs.declared.machine.StepEnd.TheVariants as end
use Rattle.debug_traits.specs.declared.machine.Shown.{Shown}
use Rattle.debug_traits.specs.Beginnings.{StandsAt, with_events}
use Rattle.debug_traits.specs.Machines.{IsPart, Steps}
use Rattle.whole_runs.specs.declared.notes.NotedPoke.{NotedPoke}
use Rattle.whole_runs.specs.Notes.{AreNoted, CanGo, CanPoke, HaveGone, IsGoing, noted, poke_of, poked_at, steps_on}
use Rattle.whole_runs.specs.Pokes.{IsShownIn, PokesIn, PokesInOrNot, poked_in}
use Rattle.whole_runs.specs.Runs.{KeepsCopies}
use Rattle.whole_runs.proofs.SeenSame.{shown_in_same}

-- fewer steps were made too
pub gone_less : (s : Setting) (n k : ℕ) (older : List Event) → k < n → HaveGone s n older → CanGo s (steps_on k older)
gone_less s zero k older less gone = absurd (none k less)
  where
    none : (k : ℕ) → k < 0 → ⊥
    none k less = omega arith
gone_less s (suc n) k older less gone = elim (cases_lt k n) [
  | inl lower ↦ gone_less s n k older lower gone.0
  | inr last ↦ let same : n ≡ k = omega arith in subst (λ j. CanGo s (steps_on j older)) same gone.1
]

module _ {M : Type 0} (stands : M → Setting → Debugger → Type 0) where
  -- a step that can be made is made
  pub goes_on : (s : Setting) (d : Debugger) (done : StepEnd) (new : M) → CanGo s d.events → Steps stands s d done new → stands new s (moved Step d)
  goes_on s d end.Done new can steps = steps.2
  goes_on s d (end.Fault fault) new can steps = absurd (subst IsGoing steps.0 can)
  goes_on s d end.Ended new can steps = absurd (subst IsGoing steps.0 can)

  pub goes_at : (s : Setting) (d : Debugger) (old new : M) (events : List Event) (done : StepEnd) → CanGo s events → StandsAt stands old s d events
      → ((s : Setting) (d : Debugger) → stands old s d → Steps stands s d done new) → StandsAt stands new s d (Step ∷ events)
  goes_at s d old new events done can (kept, history, there) steps =
      let e = with_events events kept history d in
      ((moved Step e).kept, history, goes_on s e done new can (steps s e there))

  -- what a poke sets is the same by the variable and by what is shown of it
  pub same_part : (v : Variable) (shown : Shown) (at : Option ℕ) → v.id ≡ shown.id → v.is_array ≡ shown.is_array → poked_by v at ≡ poked_at shown at
  same_part v shown None id array = ap WholeOf id
  same_part v shown (Some k) id array = ap (λ i. if v.is_array then ElementAt i k else LaneOf i k) id ∙ ap (λ b. if b then ElementAt shown.id k else LaneOf shown.id k) array

  pub same_part_in : (depth : Option ℕ) (s : Setting) (d : Debugger) (v : Variable) (shown : Shown) (at : Option ℕ) → IsShownIn depth s d v shown
      → poked_in depth (poked_by v at) ≡ poked_in depth (poked_at shown at)
  same_part_in None s d v shown at is = same_part v shown at is.id is.is_array
  same_part_in (Some deep) s d v shown at is = ap (InFrame deep) (same_part v shown at is.id is.is_array)

  -- a poke that wants for no memory is done
  pub surely : {X E : Type 0} (depth : Option ℕ) (s : Setting) (d : Debugger) (v : Variable) (shown : Shown) (at : Option ℕ) (word : ℕ) (r : Result X E) (new : M) → (is_err r ≡ true → ⊥)
      → PokesInOrNot depth stands s d v shown at word r new → PokesIn depth stands s d v shown at word new
  surely depth s d v shown at word (Ok done) new sure pokes = pokes
  surely depth s d v shown at word (Err memory) new sure pokes = absurd (sure refl)

  -- where it stands then
  pub stands_poked : (depth : Option ℕ) (s : Setting) (d : Debugger) (v : Variable) (shown : Shown) (at : Option ℕ) (word : ℕ) (new : M) → PokesIn depth stands s d v shown at word new
      → stands new s (moved (Poke (poked_in depth (poked_by v at)) word) d)
  stands_poked None s d v shown at word new pokes = pokes.0
  stands_poked (Some deep) s d v shown at word new pokes = pokes

  pub pokes_at : {X E : Type 0} (s : Setting) (d : Debugger) (old new : M) (events : List Event) (note : NotedPoke) (r : Result X E) → (is_err r ≡ true → ⊥) → CanPoke s events note → StandsAt stands old s d events
      → ((s : Setting) (d : Debugger) (v : Variable) → stands old s d → IsShownIn note.depth s d v note.shown → IsPart note.at note.shown → PokesInOrNot note.depth stands s d v note.shown note.at note.word r new)
      → StandsAt stands new s d (poke_of note ∷ events)
  pokes_at s d old new events note r sure can (kept, history, there) pokes =
      let e = with_events events kept history d in
      let shown = shown_in_same s (with_events events 0 0 (fresh 0)) e refl note.depth can.variable note.shown can.shown in
      let same = same_part_in note.depth s e can.variable note.shown note.at shown in
      let done = surely note.depth s e can.variable note.shown note.at note.word r new sure (pokes s e can.variable there shown can.part) in (
        (moved Step e).kept,
        history,
        subst (λ what. stands new s (moved (Poke what note.word) e)) same (stands_poked note.depth s e can.variable note.shown note.at note.word new done),
      )

-- ---- copies

module _ {M : Type 0} (can_have : M → List ℕ → Type 0) (copies : M → List ℕ → Setting → Debugger → Type 0) where
  pub kept_on : (a b c : M) → KeepsCopies can_have copies a b → KeepsCopies can_have copies b c → KeepsCopies can_have copies a c
  kept_on a b c first more = (λ words h. more.0 words (first.0 words h), λ words s d h. more.1 words s d (first.1 words s d h))

  pub kept_still : (a : M) → KeepsCopies can_have copies a a
  kept_still a = (λ words h. h, λ words s d h. h)

-- ---- the notes that are left

pub note_next : (s : Setting) (notes : List NotedPoke) (k : ℕ) (x : NotedPoke) (older : List Event) → k < length notes → AreNoted s older (drop k notes)
    → AreNoted s older (get_or notes k x ∷ drop (k + 1) notes)
note_next s notes k x older inside h = subst (λ xs. AreNoted s older xs) (at_drop_more (λ xs. xs) notes k x inside) h

pub noted_next : (notes : List NotedPoke) (k : ℕ) (x : NotedPoke) (older : List Event) → k < length notes
    → noted older (drop k notes) ≡ noted older (get_or notes k x ∷ drop (k + 1) notes)
noted_next notes k x older inside = at_drop_more (noted older) notes k x inside

pub noted_end : (notes : List NotedPoke) (k : ℕ) (older : List Event) → length notes ≤ k → noted older (drop k notes) ≡ older
noted_end notes k older past = at_drop_all (noted older) notes k past

-- ---- from a later moment

pub steps_more : (n k : ℕ) (older : List Event) → steps_on k (steps_on n older) ≡ steps_on (k + n) older
steps_more n zero older = ap (λ m. steps_on m older) (none n)
  where
    none : (n : ℕ) → n ≡ 0 + n
    none n = omega arith
steps_more n (suc k) older = ap (λ events. Step ∷ events) (steps_more n k older) ∙ ap (λ m. steps_on m older) (one k n)
  where
    one : (k n : ℕ) → suc (k + n) ≡ suc k + n
    one k n = omega arith

pub gone_more : (s : Setting) (n k : ℕ) (older : List Event) → HaveGone s (k + n) older → HaveGone s k (steps_on n older)
gone_more s n zero older gone = tt
gone_more s n (suc k) older gone =
    let e : suc k + n ≡ suc (k + n) = omega arith in
    let both : HaveGone s (suc (k + n)) older = subst (λ m. HaveGone s m older) e gone in
    (gone_more s n k older both.0, subst (CanGo s) (sym (steps_more n k older)) both.1)

-- the steps that are left, of so many
pub steps_left : (n all : ℕ) (older : List Event) → n ≤ all → steps_on (all - n) (steps_on n older) ≡ steps_on all older
steps_left n all older less = let e : all - n + n ≡ all = omega arith in steps_more n (all - n) older ∙ ap (λ m. steps_on m older) e

pub gone_left : (s : Setting) (n all : ℕ) (older : List Event) → n ≤ all → HaveGone s all older → HaveGone s (all - n) (steps_on n older)
gone_left s n all older less gone = let e : all ≡ all - n + n = omega arith in gone_more s n (all - n) older (subst (λ m. HaveGone s m older) e gone)

pub noted_append : (older : List Event) (first rest : List NotedPoke) → noted older (first ++ rest) ≡ noted (noted older first) rest
noted_append older [] rest = refl
noted_append older (note ∷ first) rest = noted_append (poke_of note ∷ steps_on note.steps older) first rest

pub are_rest : (s : Setting) (older : List Event) (first rest : List NotedPoke) → AreNoted s older (first ++ rest) → AreNoted s (noted older first) rest
are_rest s older [] rest are = are
are_rest s older (note ∷ first) rest are = are_rest s (poke_of note ∷ steps_on note.steps older) first rest are.2

pub no_notes : (notes : List NotedPoke) → length notes ≡ 0 → notes ≡ []
no_notes [] none = refl
no_notes (note ∷ notes) none = absurd (never (length notes) none)
  where
    never : (n : ℕ) → suc n ≡ 0 → ⊥
    never n none = omega arith
