-- Entries by numbers, as they are kept and as the definitions have them.
use Rattle.std.proofs.Common.{◌≡◌, refl, sym, ap, ◌∙◌, ℕ, true, false, List, [], ◌∷◌, zero, suc, ◌<◌, ◌≤◌, length, map, Option, Some, None, inl, inr, arith}
use Rattle.std.specs.Prelude.{◌==◌, not, nat_lt, filter, find, option_map, if◌then◌else◌}
use Rattle.std.specs.List.{count_by}
use Rattle.std.proofs.lemmas.Bool.{cases_Bool}
use Rattle.std.proofs.lemmas.Bool.Decides.{nat_tests}
use Rattle.std.proofs.lemmas.List.{length-map}
use Rattle.std.proofs.lemmas.List.Sums.{length-filter}
use Rattle.conditional_stops.specs.declared.table.ConditionRefusal.TheVariants.{TooLong, TableFull}
use Rattle.conditional_stops.specs.Tables.{Table, beside, condition_refusal, count_refusal, entry_at, is_full_beside}

module _ {X A : Type 0} (view : X → ℕ × A) (number : ℕ) where
  find_viewed : (xs : List X) → find (λ (entry : ℕ × A). entry.0 == number) (map view xs) ≡ option_map view (find (λ x. (view x).0 == number) xs)
  find_viewed [] = refl
  find_viewed (x ∷ xs) = elim (cases_Bool ((view x).0 == number)) [
    | inl e ↦ rw e refl
    | inr e ↦ rw e (find_viewed xs)
  ]

  -- what stands by a number, where this was found
  pub entry_found : (xs : List X) (found : Option X) → found ≡ find (λ x. (view x).0 == number) xs → option_map (λ (entry : ℕ × A). entry.1) (option_map view found) ≡ entry_at number (map view xs)
  entry_found xs found is =
      ap (λ o. option_map (λ (entry : ℕ × A). entry.1) (option_map view o)) is ∙ ap (λ o. option_map (λ (entry : ℕ × A). entry.1) o) (sym (find_viewed xs))

  -- all others
  pub beside_viewed : (xs : List X) → map view (filter (λ x. not ((view x).0 == number)) xs) ≡ beside number (map view xs)
  beside_viewed [] = refl
  beside_viewed (x ∷ xs) = elim (cases_Bool (not ((view x).0 == number))) [
    | inl e ↦ rw e (ap (λ l. view x ∷ l) (beside_viewed xs))
    | inr e ↦ rw e (beside_viewed xs)
  ]

  -- and how many they are
  pub beside_counted : (xs : List X) → count_by (λ x. not ((view x).0 == number)) xs ≡ length (beside number (map view xs))
  beside_counted xs = sym (length-filter (λ x. not ((view x).0 == number)) xs) ∙ sym (length-map (filter (λ x. not ((view x).0 == number)) xs) view) ∙ ap length (beside_viewed xs)

  -- there is room where fewer others than that are there
  pub room_beside : (xs left : List X) (others : ℕ) → map view left ≡ beside number (map view xs) → others ≡ count_by (λ x. not ((view x).0 == number)) xs → others < 64 → length left < 64
  room_beside xs left others same counted few =
      let all : length left ≡ others = sym (length-map left view) ∙ ap length same ∙ sym (counted ∙ beside_counted xs) in
      omega arith

-- ---- refusals

module _ (number : ℕ) (table : Table) where
  is_full : {A : Type 0} (entries : List (ℕ × A)) (others : ℕ) → others ≡ length (beside number entries) → 64 ≤ others → is_full_beside number entries ≡ true
  is_full entries others same full = let long : 64 ≤ length (beside number entries) = omega arith in grind (arith, nat_tests)

  has_room : {A : Type 0} (entries : List (ℕ × A)) (others : ℕ) → others ≡ length (beside number entries) → others < 64 → is_full_beside number entries ≡ false
  has_room entries others same few = let short : length (beside number entries) < 64 = omega arith in grind (arith, nat_tests)

  is_short : (text : List ℕ) → length text ≤ 256 → nat_lt 256 (length text) ≡ false
  is_short text short = grind (arith, nat_tests)

  pub condition_full : (text : List ℕ) (others : ℕ) → length text ≤ 256 → others ≡ length (beside number table.conditions) → 64 ≤ others → condition_refusal number text table ≡ Some TableFull
  condition_full text others short same full =
      ap (λ b. if b then Some TooLong else (if is_full_beside number table.conditions then Some TableFull else None)) (is_short text short)
      ∙ ap (λ b. if b then Some TableFull else None) (is_full table.conditions others same full)

  pub condition_taken : (text : List ℕ) (others : ℕ) → length text ≤ 256 → others ≡ length (beside number table.conditions) → others < 64 → condition_refusal number text table ≡ None
  condition_taken text others short same few =
      ap (λ b. if b then Some TooLong else (if is_full_beside number table.conditions then Some TableFull else None)) (is_short text short)
      ∙ ap (λ b. if b then Some TableFull else None) (has_room table.conditions others same few)

  pub count_full : (count others : ℕ) → 0 < count → others ≡ length (beside number table.counts) → 64 ≤ others → count_refusal number count table ≡ Some TableFull
  count_full count others some same full =
      let other : (count == 0) ≡ false = grind (arith, nat_tests) in
      ap (λ b. if b then None else (if is_full_beside number table.counts then Some TableFull else None)) other ∙ ap (λ b. if b then Some TableFull else None) (is_full table.counts others same full)

  pub count_taken : (count others : ℕ) → others ≡ length (beside number table.counts) → others < 64 → count_refusal number count table ≡ None
  count_taken zero others same few = refl
  count_taken (suc count) others same few =
      let other : (suc count == 0) ≡ false = grind (arith, nat_tests) in
      ap (λ b. if b then None else (if is_full_beside number table.counts then Some TableFull else None)) other ∙ ap (λ b. if b then Some TableFull else None) (has_room table.counts others same few)

  pub zero_taken : (count : ℕ) → count ≤ 0 → count_refusal number count table ≡ None
  zero_taken zero none = refl
  zero_taken (suc count) none = absurd (omega arith)
