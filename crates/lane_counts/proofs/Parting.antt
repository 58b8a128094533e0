-- Partings that the steps to come decide.
use Rattle.std.proofs.Common.{◌≡◌, refl, ap, ◌∙◌, ℕ, zero, suc, ◌+◌, ◌<◌, ◌≤◌, Bool, false, List, [], ◌∷◌, ◌++◌, length, take, Option, Some, None, arith}
use Rattle.std.specs.Prelude.{◌&&◌, nat_lt}
use Rattle.std.proofs.lemmas.Bool.{and_right}
use Rattle.std.proofs.Math.Bool.{and-false}
use Rattle.std.proofs.lemmas.Bool.Decides.{nat_tests}
use Rattle.gang_types.specs.Lanes.{Lanes, and, lanes_from}
use Rattle.lane_counts.specs.declared.frames.LastStep.{LastStep}
use Rattle.lane_counts.specs.Steps.{Stand, active, depth, next_in_frame, one_if, parts}
use Rattle.lane_counts.specs.Pending.{IsQuiet, last_at, last_lanes, parting_of, pending}

-- ---- the lanes of two sets

module _ (f g : ℕ → Bool) where
  pub shorter_first : (k v w : ℕ) → v ≤ w → and (lanes_from k v f) (lanes_from k w g) ≡ and (lanes_from k v f) (lanes_from k v g)
  shorter_first k zero w h = refl
  shorter_first k (suc v) zero h = absurd (omega (arith, h))
  shorter_first k (suc v) (suc w) h = ap (λ lanes. (f k && g k) ∷ lanes) (shorter_first (suc k) v w (omega (arith, h)))

  pub shorter_next : (k v w : ℕ) → w ≤ v → and (lanes_from k v f) (lanes_from k w g) ≡ and (lanes_from k w f) (lanes_from k w g)
  shorter_next k zero zero h = refl
  shorter_next k zero (suc w) h = absurd (omega (arith, h))
  shorter_next k (suc v) zero h = refl
  shorter_next k (suc v) (suc w) h = ap (λ lanes. (f k && g k) ∷ lanes) (shorter_next (suc k) v w (omega (arith, h)))

-- ---- the next step in a frame

pub below : (deep : ℕ) (stand : Stand) (later : List Stand) → deep < depth stand → next_in_frame deep (stand ∷ later) ≡ next_in_frame deep later
below deep stand later h = grind (arith, nat_tests)

pub same : (deep : ℕ) (stand : Stand) (later : List Stand) → depth stand ≡ deep → next_in_frame deep (stand ∷ later) ≡ Some stand
same deep stand later h = grind (arith, nat_tests)

pub above : (deep : ℕ) (stand : Stand) (later : List Stand) → depth stand < deep → next_in_frame deep (stand ∷ later) ≡ None
above deep stand later h = grind (arith, nat_tests)

module _ (mine : LastStep → Bool) where
  -- a frame that goes on below others
  goes_on : (deep : ℕ) (last : Option LastStep) (stand : Stand) (later : List Stand) → deep < depth stand → parting_of mine deep last (stand ∷ later) ≡ parting_of mine deep last later
  goes_on deep None stand later h = refl
  goes_on deep (Some last) stand later h = ap (λ next. one_if (mine last && parts (last_lanes last) next)) (below deep stand later h)

  -- a frame that has been left
  is_left : (deep : ℕ) (last : Option LastStep) (stand : Stand) (later : List Stand) → depth stand < deep → parting_of mine deep last (stand ∷ later) ≡ 0
  is_left deep None stand later h = refl
  is_left deep (Some last) stand later h = ap (λ next. one_if (mine last && parts (last_lanes last) next)) (above deep stand later h) ∙ ap one_if (and-false (mine last))

  are_left : (deep : ℕ) (lasts : List (Option LastStep)) (stand : Stand) (later : List Stand) → depth stand < deep → pending mine deep lasts (stand ∷ later) ≡ 0
  are_left deep [] stand later h = refl
  are_left deep (last ∷ lasts) stand later h = omega (arith, is_left deep last stand later h, are_left (suc deep) lasts stand later (omega (arith, h)))

  -- the frames below the one of a step, and that one
  pub split : (deep n : ℕ) (lasts : List (Option LastStep)) (stand : Stand) (later : List Stand) → depth stand ≡ deep + n
      → pending mine deep lasts (stand ∷ later) ≡ pending mine deep (take n lasts) later + parting_of mine (deep + n) (last_at lasts n) (stand ∷ later)
  split deep zero [] stand later h = refl
  split deep (suc n) [] stand later h = refl
  split deep zero (last ∷ lasts) stand later h =
      let here : deep + 0 ≡ deep = omega arith in
      let gone = are_left (suc deep) lasts stand later (omega (arith, h)) in
      omega (arith, gone, ap (λ n. parting_of mine n last (stand ∷ later)) here)
  split deep (suc n) (last ∷ lasts) stand later h =
      let here : suc deep + n ≡ deep + suc n = omega arith in
      omega (arith, goes_on deep last stand later (omega (arith, h)), split (suc deep) n lasts stand later (omega (arith, h)), ap (λ m. parting_of mine m (last_at lasts n) (stand ∷ later)) here)

  -- one frame more
  pub behind : (deep : ℕ) (lasts : List (Option LastStep)) (last : Option LastStep) (later : List Stand)
      → pending mine deep (lasts ++ last ∷ []) later ≡ pending mine deep lasts later + parting_of mine (deep + length lasts) last later
  behind deep [] last later =
      let here : deep + 0 ≡ deep = omega arith in omega (arith, ap (λ n. parting_of mine n last later) here)
  behind deep (other ∷ lasts) last later =
      let here : suc deep + length lasts ≡ deep + suc (length lasts) = omega arith in
      omega (arith, behind (suc deep) lasts last later, ap (λ n. parting_of mine n last later) here)

  -- where no step follows, no lanes part
  none_left : (deep : ℕ) (last : Option LastStep) → parting_of mine deep last [] ≡ 0
  none_left deep None = refl
  none_left deep (Some last) = ap one_if (and-false (mine last))

  pub nothing_left : (deep : ℕ) (lasts : List (Option LastStep)) → pending mine deep lasts [] ≡ 0
  nothing_left deep [] = refl
  nothing_left deep (last ∷ lasts) = omega (arith, none_left deep last, nothing_left (suc deep) lasts)

-- ---- frames that stand where the counting begins

no_parts : (lanes : Lanes) (next : Option Stand) → active lanes ≡ 0 → parts lanes next ≡ false
no_parts lanes None e = refl
no_parts lanes (Some next) e =
    let none : nat_lt (active (and lanes next.lanes)) (active lanes) ≡ false = grind (arith, nat_tests, e) in
    and_right (nat_lt 0 (active (and lanes next.lanes))) (nat_lt (active (and lanes next.lanes)) (active lanes)) none

pub quiet_step : (lasts : List (Option LastStep)) (last : LastStep) → active (last_lanes last) ≡ 0 → IsQuiet lasts → IsQuiet (lasts ++ Some last ∷ [])
quiet_step lasts last none quiet mine later =
    let parts_none : parts (last_lanes last) (next_in_frame (1 + length lasts) later) ≡ false = no_parts (last_lanes last) (next_in_frame (1 + length lasts) later) none in
    let none_there : one_if (mine last && parts (last_lanes last) (next_in_frame (1 + length lasts) later)) ≡ 0 = ap one_if (and_right (mine last) (parts (last_lanes last) (next_in_frame (1 + length lasts) later)) parts_none) in
    omega (arith, behind mine 1 lasts (Some last) later, quiet mine later, none_there)
