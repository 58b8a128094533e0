-- The lanes of a set in ascending order.
use Rattle.std.proofs.Common.{ℕ, zero, suc, ◌+◌, ◌-◌, ◌<◌, ◌≤◌, Bool, true, false, cond, ◌≡◌, refl, sym, ◌∙◌, ap, arith, List, [], ◌∷◌, ◌++◌, length, take}
use Rattle.std.specs.Prelude.{replicate, slice_set}
use Rattle.std.proofs.lemmas.List.{append_assoc, append-nil, length-append}
use Rattle.std.proofs.Math.Seq.{take-length}
use Rattle.gang_types.specs.Lanes.{Lanes, has}
use Rattle.gang_model.specs.Running.Lanes.{members_from, members}

members_more_from : (k : ℕ) (lanes : Lanes) (n : ℕ) → n < length lanes → members_from k (take (suc n) lanes) ≡ members_from k (take n lanes) ++ cond (has lanes n) ((k + n) ∷ []) []
members_more_from k [] n h = absurd (omega arith)
members_more_from k (b ∷ lanes) zero h = first b
  where
    first : (b : Bool) → members_from k (b ∷ []) ≡ cond b ((k + 0) ∷ []) []
    first true = ap (λ i. i ∷ []) (omega arith)
    first false = refl
members_more_from k (b ∷ lanes) (suc n) h = by_lane b (members_more_from (suc k) lanes n (omega arith))
  where
    there : suc k + n ≡ k + suc n
    there = omega arith

    by_lane : (b : Bool) → members_from (suc k) (take (suc n) lanes) ≡ members_from (suc k) (take n lanes) ++ cond (has lanes n) ((suc k + n) ∷ []) []
        → members_from k (b ∷ take (suc n) lanes) ≡ members_from k (b ∷ take n lanes) ++ cond (has lanes n) ((k + suc n) ∷ []) []
    by_lane true rest = ap (λ xs. k ∷ xs) (rest ∙ ap (λ i. members_from (suc k) (take n lanes) ++ cond (has lanes n) (i ∷ []) []) there)
    by_lane false rest = rest ∙ ap (λ i. members_from (suc k) (take n lanes) ++ cond (has lanes n) (i ∷ []) []) there

-- the lanes below n + 1 are those below n, and n if it is in the set
pub members_more : (lanes : Lanes) (n : ℕ) → n < length lanes → members (take (n + 1) lanes) ≡ members (take n lanes) ++ cond (has lanes n) (n ∷ []) []
members_more lanes n h =
    let e : n + 1 ≡ suc n = omega arith in
    ap (λ i. members (take i lanes)) e
    ∙ members_more_from 0 lanes n h
    ∙ ap (λ i. members (take n lanes) ++ cond (has lanes n) (i ∷ []) []) (omega arith)

set_after : (xs : List ℕ) (y v : ℕ) (ys : List ℕ) → slice_set (xs ++ (y ∷ ys)) (length xs) v ≡ xs ++ (v ∷ ys)
set_after [] y v ys = refl
set_after (x ∷ xs) y v ys = ap (λ zs. x ∷ zs) (set_after xs y v ys)

-- one place more, behind the others
pub placed : (xs : List ℕ) (w n v : ℕ) → n ≡ length xs → n < w → slice_set (xs ++ replicate (w - n) 0) n v ≡ (xs ++ (v ∷ [])) ++ replicate (w - (n + 1)) 0
placed xs w n v e h =
    let more : w - n ≡ suc (w - (n + 1)) = omega arith in
    ap (λ m. slice_set (xs ++ replicate m 0) n v) more
    ∙ ap (λ i. slice_set (xs ++ (0 ∷ replicate (w - (n + 1)) 0)) i v) e
    ∙ set_after xs 0 v (replicate (w - (n + 1)) 0)
    ∙ sym (append_assoc xs (v ∷ []) (replicate (w - (n + 1)) 0))

pub take_whole : (w : ℕ) (lanes : Lanes) → length lanes ≡ w → take w lanes ≡ lanes
take_whole w lanes e = ap (λ n. take n lanes) (sym e) ∙ take-length lanes

-- the places of the lanes of the set below lane i, n of them, with 0 behind
abbrev pub PackedTo : ℕ → Lanes → ℕ → ℕ → List ℕ → Type 0
PackedTo w lanes i n places = (n ≡ length (members (take i lanes))) × (n ≤ i) × (places ≡ members (take i lanes) ++ replicate (w - n) 0)

pub one_more : (w : ℕ) (lanes : Lanes) (i n : ℕ) (places : List ℕ) → length lanes ≡ w → i < w → has lanes i ≡ true → PackedTo w lanes i n places → PackedTo w lanes (i + 1) (n + 1) (slice_set places n i)
one_more w lanes i n places long h e (number, within, are) =
    let more : members (take (i + 1) lanes) ≡ members (take i lanes) ++ (i ∷ []) = members_more lanes i (omega arith) ∙ ap (λ b. members (take i lanes) ++ cond b (i ∷ []) []) e in
    let count : length (members (take (i + 1) lanes)) ≡ length (members (take i lanes)) + 1 = ap length more ∙ length-append (members (take i lanes)) (i ∷ []) in (
      omega (arith, number, count),
      omega arith,
      ap (λ l. slice_set l n i) are
          ∙ placed (members (take i lanes)) w n i number (omega arith)
          ∙ ap (λ l. l ++ replicate (w - (n + 1)) 0) (sym more),
    )

pub no_more : (w : ℕ) (lanes : Lanes) (i n : ℕ) (places : List ℕ) → length lanes ≡ w → i < w → has lanes i ≡ false → PackedTo w lanes i n places → PackedTo w lanes (i + 1) n places
no_more w lanes i n places long h e (number, within, are) =
    let more : members (take (i + 1) lanes) ≡ members (take i lanes) = members_more lanes i (omega arith) ∙ ap (λ b. members (take i lanes) ++ cond b (i ∷ []) []) e ∙ append-nil (members (take i lanes)) in
    (number ∙ ap length (sym more), omega arith, are ∙ ap (λ l. l ++ replicate (w - n) 0) (sym more))

pub packed_all : (w : ℕ) (lanes : Lanes) (i n : ℕ) (places : List ℕ) → length lanes ≡ w → i ≡ w → PackedTo w lanes i n places
    → (places ≡ members lanes ++ replicate (w - length (members lanes)) 0) × (n ≡ length (members lanes))
packed_all w lanes i n places long e (number, within, are) =
    let whole : take i lanes ≡ lanes = ap (λ k. take k lanes) e ∙ take_whole w lanes long in
    let count : n ≡ length (members lanes) = number ∙ ap (λ t. length (members t)) whole in
    (are ∙ ap (λ t. members t ++ replicate (w - n) 0) whole ∙ ap (λ k. members lanes ++ replicate (w - k) 0) count, count)
