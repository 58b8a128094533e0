-- What follows from the definition of what is tried in each lane of a set.
use Rattle.std.proofs.Common.{ℕ, zero, suc, ◌+◌, ◌<◌, ◌≤◌, Bool, true, false, cond, ◌≡◌, refl, sym, ◌∙◌, ap, arith, List, [], ◌∷◌, length, slice_index}
use Rattle.std.specs.Prelude.{Result, Ok, Err, nat_lt}
use Rattle.std.proofs.lemmas.Bool.Decides.{nat_tests}
use Rattle.gang_types.specs.declared.faults.FaultName.{FaultName}
use Rattle.gang_types.specs.declared.faults.FaultName.TheVariants.{LaneIndex}
use Rattle.gang_model.specs.Running.Library.{lane_value}
use Rattle.gang_types.specs.Lanes.{Lanes, has, no_lane, lowest}
use Rattle.gang_types.specs.LaneLaws.{lowest_has, below_lowest}
use Rattle.gang_model.specs.Running.Lanes.{Fault, ◌>>=◌, words_from, each, one_lane, tried_from, try_each}

ok_from : (k : ℕ) (lanes : Lanes) (f : ℕ → Result ℕ FaultName) (g : ℕ → ℕ) → ((i : ℕ) → i < length lanes → has lanes i ≡ true → f (k + i) ≡ Ok (g (k + i)))
    → tried_from k lanes f ≡ Ok (words_from k lanes g)
ok_from k [] f g h = refl
ok_from k (b ∷ lanes) f g h =
    by_lane b (λ e. let s : k ≡ k + 0 = omega arith in ap f s ∙ h 0 (omega arith) e ∙ ap (λ i. Ok (g i)) (sym s))
    (ok_from (suc k) lanes f g (λ i l e. let s : suc k + i ≡ k + suc i = omega arith in ap f s ∙ h (suc i) (omega arith) e ∙ ap (λ j. Ok (g j)) (sym s)))
  where
    by_lane : (b : Bool) → (b ≡ true → f k ≡ Ok (g k)) → tried_from (suc k) lanes f ≡ Ok (words_from (suc k) lanes g) → tried_from k (b ∷ lanes) f ≡ Ok (words_from k (b ∷ lanes) g)
    by_lane true here rest =
        ap (λ r. one_lane true k (λ j. r) >>= λ x. tried_from (suc k) lanes f >>= λ xs. Ok (x ∷ xs)) (here refl)
        ∙ ap (λ r. r >>= λ xs. Ok (g k ∷ xs)) rest
    by_lane false here rest = ap (λ r. r >>= λ xs. Ok (0 ∷ xs)) rest

-- no lane of the set has a fault
pub all_ok : (w : ℕ) (lanes : Lanes) (f : ℕ → Result ℕ FaultName) (g : ℕ → ℕ) → length lanes ≡ w → ((i : ℕ) → i < w → has lanes i ≡ true → f i ≡ Ok (g i)) → try_each lanes f ≡ Ok (each lanes g)
all_ok w lanes f g long h = ok_from 0 lanes f g (λ i l e. let s : 0 + i ≡ i = omega arith in ap f s ∙ h i (omega arith) e ∙ ap (λ j. Ok (g j)) (sym s))

abbrev pub fault_at : ℕ → FaultName → Fault
fault_at lane name = record { name = name; lane = lane }

err_from : (k : ℕ) (lanes : Lanes) (f : ℕ → Result ℕ FaultName) (g : ℕ → ℕ) (n : ℕ) (name : FaultName) → has lanes n ≡ true → f (k + n) ≡ Err name
    → ((i : ℕ) → i < n → has lanes i ≡ true → f (k + i) ≡ Ok (g (k + i)))
    → tried_from k lanes f ≡ Err (fault_at (k + n) name)
err_from k [] f g n name here fault h = cc
err_from k (b ∷ lanes) f g zero name here fault h =
    let s : k ≡ k + 0 = omega arith in
    ap (λ c. tried_from k (c ∷ lanes) f) here
    ∙ ap (λ r. one_lane true k (λ j. r) >>= λ x. tried_from (suc k) lanes f >>= λ xs. Ok (x ∷ xs)) (ap f s ∙ fault)
    ∙ ap (λ i. Err (fault_at i name)) s
err_from k (b ∷ lanes) f g (suc n) name here fault h =
    by_lane b (λ e. let s : k ≡ k + 0 = omega arith in ap f s ∙ h 0 (omega arith) e ∙ ap (λ i. Ok (g i)) (sym s))
    (err_from (suc k) lanes f g n name here (let s : suc k + n ≡ k + suc n = omega arith in ap f s ∙ fault)
    (λ i l e. let s : suc k + i ≡ k + suc i = omega arith in ap f s ∙ h (suc i) (omega arith) e ∙ ap (λ j. Ok (g j)) (sym s))
    ∙ ap (λ i. Err (fault_at i name)) (omega arith))
  where
    by_lane : (b : Bool) → (b ≡ true → f k ≡ Ok (g k)) → tried_from (suc k) lanes f ≡ Err (fault_at (k + suc n) name) → tried_from k (b ∷ lanes) f ≡ Err (fault_at (k + suc n) name)
    by_lane true here rest =
        ap (λ r. one_lane true k (λ j. r) >>= λ x. tried_from (suc k) lanes f >>= λ xs. Ok (x ∷ xs)) (here refl)
        ∙ ap (λ r. r >>= λ xs. Ok (g k ∷ xs)) rest
    by_lane false here rest = ap (λ r. r >>= λ xs. Ok (0 ∷ xs)) rest

-- lane n of the set has a fault, and none below it
pub first_err : (lanes : Lanes) (f : ℕ → Result ℕ FaultName) (g : ℕ → ℕ) (n : ℕ) (name : FaultName) → has lanes n ≡ true → f n ≡ Err name → ((i : ℕ) → i < n → has lanes i ≡ true → f i ≡ Ok (g i))
    → try_each lanes f ≡ Err (fault_at n name)
first_err lanes f g n name here fault h =
    err_from 0 lanes f g n name here (let s : 0 + n ≡ n = omega arith in ap f s ∙ fault)
    (λ i l e. let s : 0 + i ≡ i = omega arith in ap f s ∙ h i l e ∙ ap (λ j. Ok (g j)) (sym s))
    ∙ ap (λ i. Err (fault_at i name)) (omega arith)

-- each lane of the set has the fault, so the lowest has
pub lowest_err : (lanes : Lanes) (f : ℕ → Result ℕ FaultName) (name : FaultName) → no_lane lanes ≡ false → ((i : ℕ) → f i ≡ Err name) → try_each lanes f ≡ Err (fault_at (lowest lanes) name)
lowest_err lanes f name some h =
    first_err lanes f (λ i. 0) (lowest lanes) name (lowest_has lanes some) (h (lowest lanes))
    (λ i l e. let none : has lanes i ≡ false = below_lowest lanes i l in cc)

same_from : (k : ℕ) (lanes : Lanes) (f g : ℕ → Result ℕ FaultName) → ((i : ℕ) → i < length lanes → has lanes i ≡ true → f (k + i) ≡ g (k + i)) → tried_from k lanes f ≡ tried_from k lanes g
same_from k [] f g h = refl
same_from k (b ∷ lanes) f g h =
    by_lane b (λ e. let s : k ≡ k + 0 = omega arith in ap f s ∙ h 0 (omega arith) e ∙ ap g (sym s))
    (same_from (suc k) lanes f g (λ i l e. let s : suc k + i ≡ k + suc i = omega arith in ap f s ∙ h (suc i) (omega arith) e ∙ ap g (sym s)))
  where
    by_lane : (b : Bool) → (b ≡ true → f k ≡ g k) → tried_from (suc k) lanes f ≡ tried_from (suc k) lanes g → tried_from k (b ∷ lanes) f ≡ tried_from k (b ∷ lanes) g
    by_lane true here rest =
        ap (λ r. one_lane true k (λ j. r) >>= λ x. tried_from (suc k) lanes f >>= λ xs. Ok (x ∷ xs)) (here refl)
        ∙ ap (λ r. one_lane true k g >>= λ x. r >>= λ xs. Ok (x ∷ xs)) rest
    by_lane false here rest = ap (λ r. r >>= λ xs. Ok (0 ∷ xs)) rest

-- only the lanes of the set count
pub attempts_same : (w : ℕ) (lanes : Lanes) (f g : ℕ → Result ℕ FaultName) → length lanes ≡ w → ((i : ℕ) → i < w → has lanes i ≡ true → f i ≡ g i) → try_each lanes f ≡ try_each lanes g
attempts_same w lanes f g long h = same_from 0 lanes f g (λ i l e. let s : 0 + i ≡ i = omega arith in ap f s ∙ h i (omega arith) e ∙ ap g (sym s))

-- ---- the lane that an index names
pub lane_found : (xs : List ℕ) (i : ℕ) → i < length xs → lane_value xs i ≡ Ok (slice_index xs i)
lane_found xs i h = ap (λ b. cond b (Ok (slice_index xs i)) (Err LaneIndex)) (below i (length xs) h)
  where
    below : (a b : ℕ) → a < b → nat_lt a b ≡ true
    below a b h = grind (arith, nat_tests)

pub lane_missing : (xs : List ℕ) (i : ℕ) → length xs ≤ i → lane_value xs i ≡ Err LaneIndex
lane_missing xs i h = ap (λ b. cond b (Ok (slice_index xs i)) (Err LaneIndex)) (not_below i (length xs) h)
  where
    not_below : (a b : ℕ) → b ≤ a → nat_lt a b ≡ false
    not_below a b h = grind (arith, nat_tests)
