-- Lanes of a set, and how many lie below one.
use Rattle.std.proofs.Common.{ℕ, suc, ◌+◌, ◌<◌, ◌≤◌, Bool, true, false, cond, ◌≡◌, refl, sym, ◌∙◌, ap, arith, List, [], ◌∷◌, ◌++◌, length, slice_index, below_more, inl, inr}
use Rattle.std.specs.Prelude.{count_by, slice_set, take}
use Rattle.std.proofs.lemmas.Bool.{cases_lt}
use Rattle.std.proofs.lemmas.List.{get_or-set_same, get_or-set_other, length-append, length-set}
use Rattle.std.proofs.lemmas.List.Recursion.{is_count_by}
use Rattle.gang_types.specs.Lanes.{Lanes, has}
use Rattle.gang_types.specs.LaneLaws.{has_past}
use Rattle.gang_model.specs.Running.Lanes.{each, members, members_from}
use Rattle.gang_model.specs.Running.Library.{rank}
use Rattle.cross_lane.specs.EachLaws.{each_is}
use Rattle.cross_lane.proofs.Members.{members_more}

pub lane_within : (w : ℕ) (lanes : Lanes) (k : ℕ) → length lanes ≡ w → has lanes k ≡ true → k < w
lane_within w lanes k long here =
    elim (cases_lt k w) [
      | inl within ↦ within
      | inr past ↦ let none : has lanes k ≡ false = has_past lanes k (omega arith) in cc
    ]

same_count : (k j : ℕ) (lanes : Lanes) → length (members_from k lanes) ≡ length (members_from j lanes)
same_count k j [] = refl
same_count k j (true ∷ lanes) = ap suc (same_count (suc k) (suc j) lanes)
same_count k j (false ∷ lanes) = same_count (suc k) (suc j) lanes

one_lane_more : (b : Bool) (lanes : Lanes) → length (members (b ∷ lanes)) ≡ cond b (1 + length (members lanes)) (length (members lanes))
one_lane_more true lanes = ap suc (same_count 1 0 lanes) ∙ omega arith
one_lane_more false lanes = same_count 1 0 lanes

-- how many lanes a set has
pub count_members : (lanes : Lanes) → count_by (λ b. b) lanes ≡ length (members lanes)
count_members lanes = sym (is_count_by (λ ls. length (members ls)) (λ b. b) refl one_lane_more lanes)

rank_more : (lanes : Lanes) (n : ℕ) (b : Bool) → n < length lanes → has lanes n ≡ b → rank lanes (n + 1) ≡ rank lanes n + cond b 1 0
rank_more lanes n b h e =
    ap length (members_more lanes n h ∙ ap (λ c. members (take n lanes) ++ cond c (n ∷ []) []) e)
    ∙ length-append (members (take n lanes)) (cond b (n ∷ []) [])
    ∙ ap (λ m. rank lanes n + m) (one b)
  where
    one : (b : Bool) → length (cond b (n ∷ []) []) ≡ cond b 1 0
    one true = refl
    one false = refl

-- the lanes of the set below n have their ranks, and this many of them lie below n
pub record RanksTo (w : ℕ) (lanes : Lanes) (n below : ℕ) (ranks : List ℕ) : Type 0 where
  pub long : length ranks ≡ w
  pub below_is : below ≡ rank lanes n
  pub few : below ≤ n
  pub done : (k : ℕ) → k < n → slice_index ranks k ≡ cond (has lanes k) (rank lanes k) 0
  pub others : (k : ℕ) → n ≤ k → slice_index ranks k ≡ 0

module _ (w : ℕ) (lanes : Lanes) (n below : ℕ) (ranks : List ℕ) (long : length lanes ≡ w) (h : n < w) (so_far : RanksTo w lanes n below ranks) where
  pub lane_ranked : has lanes n ≡ true → RanksTo w lanes (n + 1) (below + 1) (slice_set ranks n below)
  lane_ranked here = record {
    long = length-set ranks n below ∙ so_far.long;
    below_is = ap (λ m. m + 1) so_far.below_is ∙ sym (rank_more lanes n true (omega (arith, h, long)) here);
    few = omega (arith, so_far.few);
    done = below_more _ _
        (λ k l. get_or-set_other ranks n k below 0 (omega (arith, l)) ∙ so_far.done k l)
        (get_or-set_same ranks n below 0 (omega (arith, h, so_far.long)) ∙ so_far.below_is ∙ sym (ap (λ b. cond b (rank lanes n) 0) here));
    others = λ k l. get_or-set_other ranks n k below 0 (omega (arith, l)) ∙ so_far.others k (omega (arith, l));
  }

  pub lane_passed : has lanes n ≡ false → RanksTo w lanes (n + 1) below ranks
  lane_passed none = record {
    long = so_far.long;
    below_is = so_far.below_is ∙ (let more = rank_more lanes n false (omega (arith, h, long)) none in omega (arith, more));
    few = omega (arith, so_far.few);
    done = below_more _ _ so_far.done (so_far.others n (omega arith) ∙ sym (ap (λ b. cond b (rank lanes n) 0) none));
    others = λ k l. so_far.others k (omega (arith, l));
  }

-- after the last lane each lane has its rank
pub all_ranked : (w : ℕ) (lanes : Lanes) (n below : ℕ) (ranks : List ℕ) → length lanes ≡ w → n ≡ w → RanksTo w lanes n below ranks → ranks ≡ each lanes (rank lanes)
all_ranked w lanes n below ranks long e all = each_is w lanes (rank lanes) ranks long all.long (λ k l. all.done k (omega (arith, l, e)))
