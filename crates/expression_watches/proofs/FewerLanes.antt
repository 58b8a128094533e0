-- Lanes that are left out, one after another.
use Rattle.std.proofs.Common.{◌≡◌, refl, sym, ap, ◌∙◌, ℕ, suc, ◌<◌, ◌≤◌, Bool, true, false, List, [], length, Ok, Err, inl, inr, arith}
use Rattle.std.specs.Prelude.{◌⊎◌, ◌==◌, ◌&&◌, nat_eq, not, replicate, slice_set, if◌then◌else◌}
use Rattle.std.proofs.lemmas.Bool.{cases_eq, cases_lt, le-ltb, lt-ltb}
use Rattle.std.proofs.lemmas.Bool.Decides.{nat_tests}
use Rattle.std.proofs.lemmas.List.{get_or-replicate, get_or-set_other, get_or-set_same}
use Rattle.std.proofs.Math.Bool.{and-true}
use Rattle.gang_types.specs.Lanes.{Lanes, and, has, without}
use Rattle.gang_types.specs.LaneLaws.{has-and, has-lanes_where, has-without, has_past, length-and, length-lanes_where, same_lanes}
use Rattle.gang_types.specs.Masks.{lanes_of_word}
use Rattle.gang_types.specs.MaskLaws.{has-lanes_of_word, has-lanes_of_word_past, lanes_of_word_is, length-lanes_of_word}
use Rattle.gang_model.specs.Running.Lanes.{Fault}
use Rattle.gang_model.specs.Running.State.{State}
use Rattle.gang_model.specs.Running.Value.{value}
use Rattle.gang_model.specs.Types.Tree.{Expr}
use Rattle.expression_watches.specs.LaneSights.{lane_words, shown_by, shown_in, without_lane}
use Rattle.expression_watches.specs.Sights.{in_gang}

-- ---- one lane

same_is : (k lane : ℕ) → k ≡ lane → nat_eq k lane ≡ true
same_is k lane e = grind (arith, nat_tests, e)

other_is : (k lane : ℕ) → (k ≡ lane → ⊥) → nat_eq k lane ≡ false
other_is k lane e = grind (arith, nat_tests, e)

only_has : (k lane : ℕ) → k < 16 → lane < 16 → (c : (k ≡ lane) ⊎ (k ≡ lane → ⊥)) → has (slice_set (replicate 16 false) lane true) k ≡ (k == lane)
only_has k lane below inside (inl same) =
    ap (has (slice_set (replicate 16 false) lane true)) same ∙ get_or-set_same (replicate 16 false) lane true false inside ∙ sym (same_is k lane same)
only_has k lane below inside (inr other) = get_or-set_other (replicate 16 false) lane k true false other ∙ get_or-replicate 16 k false false below ∙ sym (other_is k lane other)

-- the mask of one lane is taken out
pub lane_out : (w lanes only lane result : ℕ) → w ≤ 16 → lane < 16 → lanes_of_word 16 only ≡ slice_set (replicate 16 false) lane true
    → lanes_of_word w result ≡ without (lanes_of_word w lanes) (lanes_of_word w only) → lanes_of_word w result ≡ without_lane lane (lanes_of_word w lanes)
lane_out w lanes only lane result within inside one is =
    let L = lanes_of_word w lanes in
    lanes_of_word_is w result (without_lane lane L) (length-lanes_where L (λ j. not (j == lane)) ∙ length-lanes_of_word w lanes)
    (λ k below.
    let wide : k < 16 = omega arith in
    sym (has-lanes_of_word w result k below) ∙ ap (λ all. has all k) is ∙ has-without L (lanes_of_word w only) k
    ∙ ap (λ b. has L k && not b) (has-lanes_of_word w only k below ∙ sym (has-lanes_of_word 16 only k wide) ∙ ap (λ all. has all k) one ∙ only_has k lane wide inside (cases_eq k lane))
    ∙ sym (has-lanes_where L (λ j. not (j == lane)) k))

past_one : (w lanes lane k : ℕ) → w ≤ 16 → 16 ≤ lane → (c : (k ≡ lane) ⊎ (k ≡ lane → ⊥)) → has (lanes_of_word w lanes) k ≡ (has (lanes_of_word w lanes) k && not (k == lane))
past_one w lanes lane k within past (inl same) =
    let none = has-lanes_of_word_past w lanes k (omega (arith, same)) in
    none ∙ sym (ap (λ b. b && not (k == lane)) none)
past_one w lanes lane k within past (inr other) =
    sym (and-true (has (lanes_of_word w lanes) k)) ∙ sym (ap (λ b. has (lanes_of_word w lanes) k && not b) (other_is k lane other))

-- a lane that no gang has is in none
pub none_out : (w lanes lane : ℕ) → w ≤ 16 → 16 ≤ lane → lanes_of_word w lanes ≡ without_lane lane (lanes_of_word w lanes)
none_out w lanes lane within past =
    let L = lanes_of_word w lanes in
    same_lanes L (without_lane lane L) (sym (length-lanes_where L (λ j. not (j == lane))))
    (λ k. past_one w lanes lane k within past (cases_eq k lane) ∙ sym (has-lanes_where L (λ j. not (j == lane)) k))

-- ---- the lanes that are chosen

module _ (made : Lanes) where
  by_place : (word k : ℕ) → length made ≤ 16 → lanes_of_word 16 word ≡ replicate 16 true → (c : (k < length made) ⊎ (length made ≤ k)) → (has made k && has (lanes_of_word (length made) word) k) ≡ has made k
  by_place word k within all (inl below) =
      let wide : k < 16 = omega (arith, within, below) in
      ap (λ b. has made k && b) (has-lanes_of_word (length made) word k below ∙ sym (has-lanes_of_word 16 word k wide) ∙ ap (λ lanes. has lanes k) all ∙ get_or-replicate 16 k true false wide)
      ∙ and-true (has made k)
  by_place word k within all (inr past) =
      let none = has_past made k past in
      ap (λ b. b && has (lanes_of_word (length made) word) k) none ∙ sym none

  -- all of them
  pub all_chosen : (word : ℕ) → length made ≤ 16 → lanes_of_word 16 word ≡ replicate 16 true → and made (lanes_of_word (length made) word) ≡ made
  all_chosen word within all =
      let others = lanes_of_word (length made) word in
      same_lanes (and made others) made (length-and made others (sym (length-lanes_of_word (length made) word)))
      (λ k. has-and made others k ∙ by_place word k within all (cases_lt k (length made)))

  three : (a b c : Bool) → (a && (b && c)) ≡ ((a && b) && c)
  three true b c = refl
  three false b c = refl

  -- but for one lane
  pub chosen_out : (others : Lanes) (lane : ℕ) → length made ≡ length others → and made (without_lane lane others) ≡ without_lane lane (and made others)
  chosen_out others lane long =
      let test = λ (j : ℕ). not (j == lane) in
      let fewer = length-lanes_where others test in
      same_lanes (and made (without_lane lane others)) (without_lane lane (and made others))
      (length-and made (without_lane lane others) (long ∙ sym fewer) ∙ sym (length-lanes_where (and made others) test ∙ length-and made others long))
      (λ k.
      has-and made (without_lane lane others) k ∙ ap (λ b. has made k && b) (has-lanes_where others test k) ∙ three (has made k) (has others k) (test k)
      ∙ ap (λ b. b && test k) (sym (has-and made others k)) ∙ sym (has-lanes_where (and made others) test k))

-- ---- what is shown

module _ (e : Expr) (state : State) where
  -- a fault: the same is shown without its lane
  pub faulted : (most rest : ℕ) (lanes fewer : Lanes) (fault : Fault) → most ≡ suc rest → value e lanes state ≡ Err fault → fewer ≡ without_lane fault.lane lanes → shown_in rest e fewer state ≡ shown_in most e lanes state
  faulted most rest lanes fewer fault is faults same =
      ap (λ x. shown_in rest e x state) same ∙ sym (ap (shown_by lanes (λ x. shown_in rest e x state)) faults) ∙ ap (λ n. shown_in n e lanes state) (sym is)

  -- a value
  pub valued : (most rest : ℕ) (lanes : Lanes) (words : List ℕ) → most ≡ suc rest → value e lanes state ≡ Ok words → lane_words lanes words ≡ shown_in most e lanes state
  valued most rest lanes words is has_value = sym (ap (shown_by lanes (λ x. shown_in rest e x state)) has_value) ∙ ap (λ n. shown_in n e lanes state) (sym is)

  -- in a gang
  pub within_gang : (made : Lanes) → length made ≤ 16 → shown_in 16 e made state ≡ in_gang e made state
  within_gang made within = sym (ap (λ (b : Bool). if b then [] else shown_in 16 e made state) (le-ltb 16 (length made) within))

  by_size : (made : Lanes) → (c : (16 < length made) ⊎ (length made ≤ 16)) → (length made ≤ 16 → [] ≡ shown_in 16 e made state) → [] ≡ in_gang e made state
  by_size made (inl many) none = sym (ap (λ (b : Bool). if b then [] else shown_in 16 e made state) (lt-ltb 16 (length made) many))
  by_size made (inr within) none = none within ∙ within_gang made within

  -- nothing is shown
  pub none_shown : (made : Lanes) → (length made ≤ 16 → [] ≡ shown_in 16 e made state) → [] ≡ in_gang e made state
  none_shown made none = by_size made (cases_lt 16 (length made)) none
