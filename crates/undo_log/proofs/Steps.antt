-- How many steps there are among events, as events come and go.
use Rattle.std.proofs.Common.{◌≡◌, ℕ, suc, ◌+◌, ◌-◌, Bool, cond, List, [], ◌∷◌, length, take, drop, set, slice_get, Some, None, refl, sym, ap, ◌∙◌, map, arith}
use Rattle.std.specs.Prelude.{count_by}
use Rattle.std.proofs.Math.Seq.{take-length}
use Rattle.std.proofs.lemmas.List.Sums.{sum_by-cons, sum_by_more}
use Rattle.std.proofs.lemmas.Option.{get_or_from_slice_get, slice_get-get_or}
use Rattle.circular_buffer.specs.Buffer.{last_item}
use Rattle.undo_log.specs.declared.events.Mark.{Mark}
use Rattle.undo_log.specs.History.{is_step}
use Rattle.undo_log.proofs.Deltas.{counted_once}

module _ {X : Type 0} (p : X → Bool) where
  pub count_cons : (x : X) (xs : List X) → count_by p (x ∷ xs) ≡ cond (p x) 1 0 + count_by p xs
  count_cons x xs = sum_by-cons (λ y. cond (p y) 1 0) x xs

  -- the first goes
  pub count_first : (x : X) (xs : List X) → Some x ≡ slice_get xs 0 → count_by p xs ≡ cond (p x) 1 0 + count_by p (drop 1 xs)
  count_first x [] e = cc
  count_first x (y ∷ xs) e = let same : y ≡ x = cc in rw same (count_cons x xs)

  count_at : (x : X) (n : ℕ) (xs : List X) → length xs ≡ suc n → Some x ≡ slice_get xs n → count_by p xs ≡ count_by p (take n xs) + cond (p x) 1 0
  count_at x n xs long e =
      let all : take (n + 1) xs ≡ xs = let same : n + 1 ≡ length xs = omega arith in ap (λ k. take k xs) same ∙ take-length xs in
      sym (ap (count_by p) all) ∙ sum_by_more (λ y. cond (p y) 1 0) xs n x (omega arith) ∙ ap (λ y. count_by p (take n xs) + cond (p y) 1 0) (get_or_from_slice_get xs n x x (sym e))

  -- the last goes
  pub count_last : (x : X) (xs : List X) → Some x ≡ last_item xs → count_by p xs ≡ count_by p (take (length xs - 1) xs) + cond (p x) 1 0
  count_last x [] e = cc
  count_last x (y ∷ xs) e = count_at x (length (y ∷ xs) - 1) (y ∷ xs) (omega arith) e

  -- none is last
  pub count_empty : (xs : List X) → None ≡ last_item xs → count_by p xs ≡ count_by p (take (length xs - 1) xs) + 0
  count_empty [] e = refl
  count_empty (y ∷ xs) e = let last = slice_get-get_or (y ∷ xs) (length (y ∷ xs) - 1) y (omega arith) in cc

pub count_map : {X Y : Type 0} (f : X → Y) (p : Y → Bool) (xs : List X) → count_by p (map f xs) ≡ count_by (λ x. p (f x)) xs
count_map f p [] = refl
count_map f p (x ∷ xs) = count_cons p (f x) (map f xs) ∙ ap (λ n. cond (p (f x)) 1 0 + n) (count_map f p xs) ∙ sym (count_cons (λ x. p (f x)) x xs)

-- ---- marks

abbrev pub is_step_mark : Mark → Bool
is_step_mark m = is_step m.event

-- a word is set
pub steps_set : (m : Mark) (ms : List Mark) → Some m ≡ slice_get ms 0 → count_by is_step_mark (set ms 0 (counted_once m)) ≡ count_by is_step_mark ms
steps_set m [] e = cc
steps_set m (x ∷ ms) e = count_cons is_step_mark (counted_once m) ms ∙ sym (count_first is_step_mark m (x ∷ ms) e)
