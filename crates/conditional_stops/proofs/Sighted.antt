-- Words that a watch of a frame shows.
use Rattle.std.proofs.Common.{◌≡◌, sym, ap, ◌∙◌, ℕ, zero, suc, ◌<◌, ◌≤◌, List, [], ◌∷◌, length, get_or, drop, take, inl, inr, arith}
use Rattle.std.specs.Prelude.{◌⊎◌, min}
use Rattle.std.proofs.lemmas.Bool.{cases_lt}
use Rattle.std.proofs.lemmas.List.{take_all}
use Rattle.conditional_stops.specs.declared.watches.Sighted.{Sighted}
use Rattle.conditional_stops.specs.SightViews.{seen_view, sights_view}
use Rattle.conditional_stops.specs.Watches.{Seen}

by_count : (n count : ℕ) (words : List ℕ) → length words ≡ count → n ≡ min count 16 → (c : (count < 16) ⊎ (16 ≤ count)) → take n words ≡ take 16 words
by_count n count words long is (inl few) = take_all n words (omega (arith, long, is, few)) ∙ sym (take_all 16 words (omega (arith, long, few)))
by_count n count words long is (inr many) =
    let all : n ≡ 16 = omega (arith, is, many) in
    ap (λ m. take m words) all

-- so many words as there are, 16 at most
pub take_within : (n count : ℕ) (words : List ℕ) → length words ≡ count → n ≡ min count 16 → take n words ≡ take 16 words
take_within n count words long is = by_count n count words long is (cases_lt count 16)

-- what is noted at a place
pub sight_at : (before : List Sighted) (k : ℕ) (x : Sighted) (y : Seen) (ys : List Seen) → drop k (sights_view before) ≡ y ∷ ys → (k < length before) × (seen_view (get_or before k x) ≡ y)
sight_at [] zero x y ys e = cc e
sight_at [] (suc k) x y ys e = cc e
sight_at (b ∷ before) zero x y ys e = let same : seen_view b ≡ y = cc e in (omega arith, same)
sight_at (b ∷ before) (suc k) x y ys e = let (inside, same) = sight_at before k x y ys e in (omega (arith, inside), same)
