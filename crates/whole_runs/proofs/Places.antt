-- Places of a run, and copies at them, where the notes change.
use Rattle.std.proofs.Common.{◌≡◌, refl, sym, subst, ap, ◌∙◌, arith, ℕ, zero, suc, ◌<◌, ◌≤◌, List, [], ◌∷◌, ◌++◌, length, take, drop, inl, inr, true}
use Rattle.std.specs.Prelude.{All, IfSome, remove, slice_get, slice_index_or}
use Rattle.std.proofs.lemmas.List.{drop-append-le, drop_all, length-drop, length_push, take-append-le}
use Rattle.std.proofs.lemmas.List.Elements.{All-append, All-drop, All-head, All-push, All-same, All-tail, All-take}
use Rattle.undo_log.specs.declared.timeline.Undone.{Undone}
use Rattle.undo_log.specs.declared.timeline.Undone.TheVariants as undone
use Rattle.std.specs.Prelude.{Decides, Ok, ◌&&◌, nat_eq, nat_le, nat_lt}
use Rattle.std.proofs.lemmas.Bool.{cases_lt, true≢false}
use Rattle.std.proofs.lemmas.Bool.Decides.{Decides-and, Decides-eqb, Decides-ltb, Decides-or, leb_tells}
use Rattle.gang_model.specs.Debugger.Events.{Event}
use Rattle.gang_model.specs.Debugger.Debugger.{Debugger, Setting}
use Rattle.debug_traits.specs.Beginnings.{with_events}
use Rattle.whole_runs.specs.declared.notes.NotedPoke.{NotedPoke}
use Rattle.whole_runs.specs.declared.copies.CopiedMoment.{CopiedMoment}
use Rattle.whole_runs.specs.Copies.{MayKeep, is_within}
use Rattle.whole_runs.specs.Notes.{Forgets, HaveGone, IsWithin, noted, steps_first, steps_on}
use Rattle.whole_runs.specs.Runs.{IsCopied}

-- ---- elements of lists

pub all_at : {X : Type 0} (P : X → Type 0) (xs : List X) (k : ℕ) → All P xs → IfSome (slice_get xs k) P
all_at P [] zero all = tt
all_at P [] (suc k) all = tt
all_at P (x ∷ xs) zero all = All-head P x xs all
all_at P (x ∷ xs) (suc k) all = all_at P xs k (All-tail P x xs all)

pub all_kept : {X : Type 0} (P : X → Type 0) (old : List X) (copy : X) (new : List X) → All P old → P copy → MayKeep old copy new → All P new
all_kept P old copy new all one (i, cases) =
    let rest : All P (remove old i) = All-append P (take i old) (drop (suc i) old) (All-take P i old all) (All-drop P (suc i) old all) in
    elim cases [
      | inl fewer ↦ All-same P new (remove old i) fewer rest
      | inr more ↦ All-same P new (remove old i ++ copy ∷ []) more (All-push P (remove old i) copy rest one)
    ]

-- ---- places

pub within_of : (notes : List NotedPoke) (steps before done : ℕ) → is_within notes steps before done ≡ true → IsWithin notes steps before done
within_of notes steps before done is =
    let last = Decides-and (nat_eq before (length notes)) (nat_le done steps) (Decides-eqb before (length notes)) (decides_le done steps) in
    (Decides-or (nat_lt before (length notes)) (nat_eq before (length notes) && nat_le done steps) (Decides-ltb before (length notes)) last).0 is
  where
    decides_le : (a b : ℕ) → Decides (nat_le a b) (a ≤ b)
    decides_le a b = elim (leb_tells a b) [
      | inl (so, less) ↦ (λ is. less, λ less. so)
      | inr (not_so, more) ↦ (λ is. absurd (true≢false (sym is ∙ not_so)), λ less. absurd (never a b more less))
    ]
      where
        never : (a b : ℕ) → b < a → a ≤ b → ⊥
        never a b more less = omega arith

pub first_more : (notes : List NotedPoke) (n k : ℕ) → k ≤ steps_first notes n → k ≤ steps_first notes (suc n)
first_more [] n k less = omega arith
first_more (note ∷ notes) n k less = less

pub first_push : (notes : List NotedPoke) (note : NotedPoke) → steps_first (notes ++ note ∷ []) 0 ≡ steps_first notes note.steps
first_push [] note = refl
first_push (first ∷ notes) note = refl

pub first_same : (notes : List NotedPoke) (n m : ℕ) → 0 < length notes → steps_first notes n ≡ steps_first notes m
first_same [] n m some = absurd (none some)
  where
    none : 0 < 0 → ⊥
    none some = omega arith
first_same (note ∷ notes) n m some = refl

pub is_inside : (notes : List NotedPoke) (n p k : ℕ) → IsWithin notes n p k → p ≤ length notes
is_inside notes n p k within = elim within [ inl before ↦ omega (arith, before) | inr (last, done) ↦ omega (arith, last) ]

pub within_more : (notes : List NotedPoke) (n p k : ℕ) → IsWithin notes n p k → IsWithin notes (suc n) p k
within_more notes n p k within = elim within [ inl before ↦ inl before | inr (last, done) ↦ let more : k ≤ suc n = omega (arith, done) in inr (last, more) ]

pub within_push : (notes : List NotedPoke) (note : NotedPoke) (n p k : ℕ) → IsWithin notes n p k → IsWithin (notes ++ note ∷ []) 0 p k
within_push notes note n p k within =
    let inside = is_inside notes n p k within in
    let more = length_push notes note in
    inl (omega (arith, inside, more))

first_fewer : (notes : List NotedPoke) (n p k : ℕ) → IsWithin notes n p k → k ≤ steps_first (drop p notes) (suc n) → k ≤ steps_first (drop p notes) n
first_fewer notes n p k within less = elim within [
  | inl before ↦
      let many = length-drop p notes in
      let some : 0 < length (drop p notes) = omega (arith, many, before) in
      subst (λ m. k ≤ m) (first_same (drop p notes) (suc n) n some) less
  | inr (last, done) ↦
      let past : length notes ≤ p = omega (arith, last) in
      subst (λ notes. k ≤ steps_first notes n) (sym (drop_all p notes past)) done
]

-- ---- copies

module _ {M : Type 0} (copies : M → List ℕ → Setting → Debugger → Type 0) (inner : M) (s : Setting) (d : Debugger) (older : List Event) where
  pub copy_stepped : (notes : List NotedPoke) (n : ℕ) (c : CopiedMoment) → IsWithin notes n c.pokes c.steps → IsCopied copies inner s d older notes n c → IsCopied copies inner s d older notes (suc n) c
  copy_stepped notes n c within copied = λ after. let (less, copy) = copied within in (first_more (drop c.pokes notes) n c.steps less, copy)

  first_pushed : (notes : List NotedPoke) (note : NotedPoke) (p : ℕ) → p ≤ length notes → steps_first (drop p (notes ++ note ∷ [])) 0 ≡ steps_first (drop p notes) note.steps
  first_pushed notes note p inside = ap (λ notes. steps_first notes 0) (drop-append-le p notes (note ∷ []) inside) ∙ first_push (drop p notes) note

  pub copy_poked : (notes : List NotedPoke) (note : NotedPoke) (c : CopiedMoment) → IsWithin notes note.steps c.pokes c.steps → IsCopied copies inner s d older notes note.steps c
      → IsCopied copies inner s d older (notes ++ note ∷ []) 0 c
  copy_poked notes note c within copied = λ after.
      let (less, copy) = copied within in
      let inside = is_inside notes note.steps c.pokes c.steps within in (
        subst (λ n. c.steps ≤ n) (sym (first_pushed notes note c.pokes inside)) less,
        subst (λ pokes. copies inner c.words.items s (with_events (steps_on c.steps (noted older pokes)) 0 0 d)) (sym (take-append-le c.pokes notes (note ∷ []) inside)) copy,
      )

  pub copy_back_step : (notes : List NotedPoke) (n : ℕ) (c : CopiedMoment) → IsCopied copies inner s d older notes (suc n) c → IsCopied copies inner s d older notes n c
  copy_back_step notes n c copied = λ within.
      let (less, copy) = copied (within_more notes n c.pokes c.steps within) in
      (first_fewer notes n c.pokes c.steps within less, copy)

  pub copy_back_poke : (notes : List NotedPoke) (note : NotedPoke) (c : CopiedMoment) → IsCopied copies inner s d older (notes ++ note ∷ []) 0 c → IsCopied copies inner s d older notes note.steps c
  copy_back_poke notes note c copied = λ within.
      let (less, copy) = copied (within_push notes note note.steps c.pokes c.steps within) in
      let inside = is_inside notes note.steps c.pokes c.steps within in (
        subst (λ n. c.steps ≤ n) (first_pushed notes note c.pokes inside) less,
        subst (λ pokes. copies inner c.words.items s (with_events (steps_on c.steps (noted older pokes)) 0 0 d)) (take-append-le c.pokes notes (note ∷ []) inside) copy,
      )

  -- where the last event is forgotten
  pub copies_back : (old : List NotedPoke) (steps kept : ℕ) (kind : Undone) (new : List NotedPoke) (left fewer : ℕ) (all : List CopiedMoment) → Forgets old steps kept (Ok kind) new left fewer
      → All (IsCopied copies inner s d older old steps) all → All (IsCopied copies inner s d older new left) all
  copies_back old steps kept undone.Step new left fewer all (less, same, one) copied =
      let here = subst (λ n. All (IsCopied copies inner s d older old n) all) less copied in
      let back : All (IsCopied copies inner s d older old left) all = λ k e inside. copy_back_step old left (slice_index_or all k e) (here k e inside) in
      subst (λ notes. All (IsCopied copies inner s d older notes left) all) (sym same) back
  copies_back old steps kept undone.Poke new left fewer all (note, none, more, last, one) copied =
      let start = subst (λ n. All (IsCopied copies inner s d older old n) all) none copied in
      let here = subst (λ notes. All (IsCopied copies inner s d older notes 0) all) more start in
      let back : All (IsCopied copies inner s d older new note.steps) all = λ k e inside. copy_back_poke new note (slice_index_or all k e) (here k e inside) in
      subst (λ n. All (IsCopied copies inner s d older new n) all) (sym last) back

-- ---- from the start

pub gone_first : (s : Setting) (n k : ℕ) (older : List Event) → k ≤ n → HaveGone s n older → HaveGone s k older
gone_first s zero k older less gone =
    let none : 0 ≡ k = omega (arith, less) in
    subst (λ k. HaveGone s k older) none tt
gone_first s (suc n) k older less gone = elim (cases_lt k (suc n)) [
  | inl lower ↦ let fewer : k ≤ n = omega (arith, lower) in gone_first s n k older fewer gone.0
  | inr all ↦ let same : suc n ≡ k = omega (arith, all, less) in subst (λ k. HaveGone s k older) same gone
]
