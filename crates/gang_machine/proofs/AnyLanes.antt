-- Whether one of the lanes of a set passes a test.
use Rattle.std.proofs.Common.{◌≡◌, refl, ap, ◌∙◌, ℕ, zero, suc, ◌+◌, ◌<◌, Bool, true, false, [], ◌∷◌, length, arith}
use Rattle.std.specs.Prelude.{◌||◌}
use Rattle.std.specs.List.{list_any}
use Rattle.gang_types.specs.Lanes.{Lanes, has}
use Rattle.gang_model.specs.Running.Lanes.{members, members_from}

-- a lane of the set is one of the gang
has_below : (lanes : Lanes) (k : ℕ) → has lanes k ≡ true → k < length lanes
has_below [] k there = cc
has_below (b ∷ lanes) zero there = omega arith
has_below (b ∷ lanes) (suc k) there = let below = has_below lanes k there in omega (arith, below)

module _ (test : ℕ → Bool) where
  or_last : (b : Bool) → (b || true) ≡ true
  or_last true = refl
  or_last false = refl

  some_from : (j : ℕ) (lanes : Lanes) (k : ℕ) → has lanes k ≡ true → test (j + k) ≡ true → list_any test (members_from j lanes) ≡ true
  some_from j [] k there passes = cc
  some_from j (false ∷ lanes) zero there passes = cc
  some_from j (true ∷ lanes) zero there passes =
      let same : j ≡ j + 0 = omega arith in
      ap (λ b. b || list_any test (members_from (suc j) lanes)) (ap test same ∙ passes)
  some_from j (false ∷ lanes) (suc k) there passes =
      let same : suc j + k ≡ j + suc k = omega arith in
      some_from (suc j) lanes k there (ap test same ∙ passes)
  some_from j (true ∷ lanes) (suc k) there passes =
      let same : suc j + k ≡ j + suc k = omega arith in
      ap (λ b. test j || b) (some_from (suc j) lanes k there (ap test same ∙ passes)) ∙ or_last (test j)

  none_from : (j : ℕ) (lanes : Lanes) → ((k : ℕ) → has lanes k ≡ true → test (j + k) ≡ false) → list_any test (members_from j lanes) ≡ false
  none_from j [] none = refl
  none_from j (false ∷ lanes) none =
      none_from (suc j) lanes (λ k there.
      let same : suc j + k ≡ j + suc k = omega arith in
      ap test same ∙ none (suc k) there)
  none_from j (true ∷ lanes) none =
      let first : j ≡ j + 0 = omega arith in
      ap (λ b. b || list_any test (members_from (suc j) lanes)) (ap test first ∙ none 0 refl)
      ∙ none_from (suc j) lanes (λ k there.
      let same : suc j + k ≡ j + suc k = omega arith in
      ap test same ∙ none (suc k) there)

  -- a lane of the set does
  pub some_lane : (lanes : Lanes) (k : ℕ) → has lanes k ≡ true → test k ≡ true → list_any test (members lanes) ≡ true
  some_lane lanes k there passes =
      let same : 0 + k ≡ k = omega arith in
      some_from 0 lanes k there (ap test same ∙ passes)

  -- none does
  pub no_lane_passes : (lanes : Lanes) → ((k : ℕ) → k < length lanes → has lanes k ≡ true → test k ≡ false) → list_any test (members lanes) ≡ false
  no_lane_passes lanes none =
      none_from 0 lanes (λ k there.
      let same : 0 + k ≡ k = omega arith in
      ap test same ∙ none k (has_below lanes k there) there)
