-- Moments, through the edits of the lists that they are made of.
use Rattle.std.proofs.Common.{◌≡◌, ℕ, zero, suc, ◌-◌, ◌^◌, ◌≤◌, List, [], ◌∷◌, ◌++◌, length, take, drop, inl, inr, ◌∙◌, refl, sym, ap, subst, Some, slice_get, Vec, Global, arith}
use Rattle.std.specs.Prelude.{map, count_by, min, slice_index}
use Rattle.std.specs.List.{All}
use Rattle.std.proofs.lemmas.Bool.{cases_order}
use Rattle.std.proofs.lemmas.List.{get_or_past, take-map, take_all, length-take, length-map, map_push, length_push}
use Rattle.undo_log.specs.declared.timeline.Undone.{Undone}
use Rattle.undo_log.specs.History.{Moment, moment, History, SameBetween, AreKeptBetween, is_step, steps_in}
use Rattle.circular_buffer.specs.Buffer.{keep_last}
use Rattle.undo_log.specs.Snapshots.{moments}

pub length-moments : (es : List Undone) (ls : List (List ℕ)) → length es ≤ length ls → length (moments es ls) ≡ length es
length-moments [] ls h = refl
length-moments (e ∷ es) [] h = omega arith
length-moments (e ∷ es) (l ∷ ls) h = ap suc (length-moments es ls (omega arith))

pub map-moments : (es : List Undone) (ls : List (List ℕ)) → length es ≤ length ls → map (λ (m : Moment). m.event) (moments es ls) ≡ es
map-moments [] ls h = refl
map-moments (e ∷ es) [] h = absurd (omega arith)
map-moments (e ∷ es) (l ∷ ls) h = ap (λ rest. e ∷ rest) (map-moments es ls (omega arith))

pub take-moments : (n : ℕ) (es : List Undone) (ls : List (List ℕ)) → take n (moments es ls) ≡ moments (take n es) (take n ls)
take-moments zero es ls = refl
take-moments (suc n) [] ls = refl
take-moments (suc n) (e ∷ es) [] = refl
take-moments (suc n) (e ∷ es) (l ∷ ls) = ap (λ ms. moment e l ∷ ms) (take-moments n es ls)

-- lists past the last event do not count
pub moments-append : (es : List Undone) (ls more : List (List ℕ)) → length es ≤ length ls → moments es (ls ++ more) ≡ moments es ls
moments-append [] ls more h = refl
moments-append (e ∷ es) [] more h = absurd (omega arith)
moments-append (e ∷ es) (l ∷ ls) more h = ap (λ ms. moment e l ∷ ms) (moments-append es ls more (omega arith))

-- the lists that are enough for the newest events
pub moments_enough : (n m : ℕ) (es : List Undone) (ls : List (List ℕ)) → n ≤ m → moments (take n es) (take m ls) ≡ take n (moments es ls)
moments_enough zero m es ls h = refl
moments_enough (suc n) m [] ls h = refl
moments_enough (suc n) zero (e ∷ es) ls h = absurd (omega arith)
moments_enough (suc n) (suc m) (e ∷ es) [] h = refl
moments_enough (suc n) (suc m) (e ∷ es) (l ∷ ls) h = ap (λ ms. moment e l ∷ ms) (moments_enough n m es ls (omega arith))

pub moments_cut : (n : ℕ) (es : List Undone) (ls : List (List ℕ)) → moments (take n es) ls ≡ take n (moments es ls)
moments_cut zero es ls = refl
moments_cut (suc n) [] ls = refl
moments_cut (suc n) (e ∷ es) [] = refl
moments_cut (suc n) (e ∷ es) (l ∷ ls) = ap (λ ms. moment e l ∷ ms) (moments_cut n es ls)

module _ {X : Type 0} (f : X → List ℕ) where
  -- an event is opened
  pub moments_marked : (e : Undone) (x : X) (n c d : ℕ) (es : List Undone) (ls : List X) → 1 ≤ n → n ≤ c → n ≤ length ls → length ls ≤ d → moments (take c (e ∷ take (n - 1) es)) (map f (take d (x ∷ take (length ls - 1) ls))) ≡ take n (moment e (f x) ∷ moments es (map f ls))
  moments_marked e x zero c d es ls p q r s = absurd (omega arith)
  moments_marked e x (suc n) c d es ls p q r s =
      let k : suc n - 1 ≡ n = omega arith in
      let long = length-take n es in
      let long_lists = length-take (length ls - 1) ls in
      let all : take c (e ∷ take n es) ≡ e ∷ take n es = take_all c (e ∷ take n es) (omega arith) in
      let all_lists : take d (x ∷ take (length ls - 1) ls) ≡ x ∷ take (length ls - 1) ls = take_all d (x ∷ take (length ls - 1) ls) (omega arith) in
      rw (k, all, all_lists, ← take-map f (length ls - 1) ls, moments_enough n (length ls - 1) es (map f ls) (omega arith))

abbrev pub items_of : Vec ℕ Global → List ℕ
items_of v = v.items

module _ (es : List Undone) (ls : List (Vec ℕ Global)) (h : length es ≤ length ls) where
  pub length_seen : length (moments es (map items_of ls)) ≡ length es
  length_seen = length-moments es (map items_of ls) (rw length-map h)

  pub steps_seen : steps_in (moments es (map items_of ls)) ≡ count_by is_step es
  steps_seen = ap (count_by is_step) (map-moments es (map items_of ls) (rw length-map h))

abbrev pub seen : List ℕ → ℕ → List Moment → History
seen words limit past = record { words = words; past = past; limit = limit; room = 2 ^ 64 - 1 }

pub keep_last-all : {X : Type 0} (n : ℕ) (xs : List X) → length xs ≤ n → keep_last n xs ≡ xs
keep_last-all n xs h = let e : length xs - n ≡ 0 = omega arith in rw e

-- what stands first
pub All-first : {X : Type 0} (P : X → Type 0) (x : X) (xs : List X) → Some x ≡ slice_get xs 0 → All P xs → P x
All-first P x [] e h = cc
All-first P x (y ∷ xs) e h = let same : y ≡ x = cc in subst P same (h 0 y (omega arith))

-- words past the ends of two lists of a length are alike
same_past : (old new : List ℕ) (i : ℕ) → length new ≡ length old → length new ≤ i → slice_index new i ≡ slice_index old i
same_past old new i long past = get_or_past new i 0 past ∙ sym (get_or_past old i 0 (omega (arith, long, past)))

pub same_on : (first end index : ℕ) (old new : List ℕ) → length new ≡ length old → min end (length new) ≤ index → SameBetween first index old new → SameBetween first end old new
same_on first end index old new long past same i from before =
    elim (cases_order i index) [
      | inl here ↦ same_past old new i long (omega (arith, past, before, here))
      | inr (inl below) ↦ same i from below
      | inr (inr above) ↦ same_past old new i long (omega (arith, past, before, above))
    ]

-- the words before the newest event stand first
pub kept_between : (first end : ℕ) (x : Vec ℕ Global) (es : List Undone) (ls : List (Vec ℕ Global)) (ws : List ℕ) → (length es ≡ 0 → ⊥) → Some x ≡ slice_get ls 0 → SameBetween first end x.items ws
    → AreKeptBetween first end ws (moments es (map items_of ls))
kept_between first end x [] ls ws some e h = absurd (some refl)
kept_between first end x (event ∷ es) [] ws some e h = cc
kept_between first end x (event ∷ es) (y ∷ ls) ws some e h = let same : y ≡ x = cc in rw same h

module _ {X : Type 0} (f : X → List ℕ) where
  -- the newest event is taken back
  pub moments_back : (e : Undone) (x w : X) (n : ℕ) (es : List Undone) (ls : List X) → Some e ≡ slice_get es 0 → Some x ≡ slice_get ls 0 → length es ≤ length ls → length ls ≤ n → moments es (map f ls) ≡ moment e (f x) ∷ moments (drop 1 es) (map f (keep_last n (drop 1 ls ++ w ∷ [])))
  moments_back e x w n [] ls p q h k = cc
  moments_back e x w n (e' ∷ es) [] p q h k = cc
  moments_back e x w n (e' ∷ es) (x' ∷ ls) p q h k =
      let same : e' ≡ e = cc in
      let same_x : x' ≡ x = cc in
      rw (same, same_x, keep_last-all n (ls ++ w ∷ []) (omega (arith, length_push ls w)), map_push f ls w, moments-append es (map f ls) (f w ∷ []) (rw length-map (omega arith)))
