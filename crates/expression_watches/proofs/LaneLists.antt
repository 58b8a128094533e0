-- What is shown in the lanes, one lane after another.
use Rattle.std.proofs.Common.{◌≡◌, refl, sym, ap₂, ◌∙◌, ℕ, ◌<◌, ◌≤◌, Bool, false, List, [], ◌∷◌, length, drop, take, Option, Some, None, inl, inr, arith}
use Rattle.std.specs.Prelude.{◌⊎◌, min, slice_index, if◌then◌else◌}
use Rattle.std.proofs.lemmas.Bool.{cases_lt}
use Rattle.std.proofs.lemmas.List.{at_drop_all, get_or-take}
use Rattle.gang_types.specs.Lanes.{has}
use Rattle.gang_types.specs.Masks.{lanes_of_word}
use Rattle.gang_types.specs.MaskLaws.{has-lanes_of_word}
use Rattle.expression_watches.specs.LaneSights.{lane_word, lanes_differ}

-- a lane of a gang with fewer lanes than the widest shows the same
pub word_within : (w k lanes : ℕ) (words : List ℕ) → w ≤ 16 → k < w
    → (if has (lanes_of_word 16 lanes) k then Some (slice_index words k) else None) ≡ lane_word (lanes_of_word w lanes) (take w words) k
word_within w k lanes words within below =
    let inside : k < 16 = omega arith in
    ap₂ (λ (b : Bool) (x : ℕ). if b then Some x else None) (has-lanes_of_word 16 lanes k inside ∙ sym (has-lanes_of_word w lanes k below)) (sym (get_or-take w words k 0 below))

none_now : (old : List (Option ℕ)) → lanes_differ old [] ≡ false
none_now [] = refl
none_now (a ∷ old) = refl

by_count : (old new : List (Option ℕ)) (k : ℕ) → min (length old) (length new) ≤ k → (c : (k < length old) ⊎ (length old ≤ k)) → lanes_differ (drop k old) (drop k new) ≡ false
by_count old new k past (inl more) =
    let none : length new ≤ k = omega (arith, past, more) in
    at_drop_all (λ xs. lanes_differ (drop k old) xs) new k none ∙ none_now (drop k old)
by_count old new k past (inr none) = at_drop_all (λ xs. lanes_differ xs (drop k new)) old k none

-- past the last lane nothing differs
pub differ_end : (old new : List (Option ℕ)) (k : ℕ) → min (length old) (length new) ≤ k → lanes_differ (drop k old) (drop k new) ≡ false
differ_end old new k past = by_count old new k past (cases_lt k (length old))
