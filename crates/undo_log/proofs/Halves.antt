-- A list that lies in two parts, and its last items.
use Rattle.std.proofs.Common.{◌≡◌, refl, sym, ap, ap₂, ◌∙◌, ℕ, zero, suc, ◌+◌, ◌-◌, ◌≤◌, List, [], ◌∷◌, ◌++◌, length, take, drop, set, All, arith, subst}
use Rattle.std.specs.Prelude.{min, reverse}
use Rattle.std.proofs.lemmas.List.{drop_all, drop_min, length-append, length-drop, reverse-append, take_all}
use Rattle.std.proofs.lemmas.List.Elements.{All-drop, All-take}
use Rattle.circular_buffer.specs.Buffer.{keep_last}
use Rattle.undo_log.specs.declared.changes.Change.{Change}
use Rattle.undo_log.specs.DeltaRings.{taken_back}
use Rattle.undo_log.proofs.Newest.{oldest_gone}

-- from an item on to the end
pub last_ones : {X : Type 0} (k : ℕ) (xs : List X) → take (length xs - k) (drop k xs) ≡ drop k xs
last_ones k xs = take_all (length xs - k) (drop k xs) (omega (arith, length-drop k xs))

dropped : {X : Type 0} (k n : ℕ) (xs ys : List X) → n ≡ k - length xs → drop k (xs ++ ys) ≡ drop k xs ++ drop n ys
dropped k n [] ys e =
    let same : k ≡ n = omega (arith, e) in
    ap₂ (λ front back. front ++ back) (sym (drop_all k [] (omega arith))) (ap (λ i. drop i ys) same)
dropped zero n (x ∷ xs) ys e =
    let none : 0 ≡ n = omega (arith, e) in
    ap (λ i. (x ∷ xs) ++ drop i ys) none
dropped (suc k) n (x ∷ xs) ys e = dropped k n xs ys (omega (arith, e))

-- the last items: those of the second part, and those of the first part before them
pub last_of_both : {X : Type 0} (count first second : ℕ) (xs ys all : List X) → xs ++ ys ≡ all → first ≡ min (length all - count) (length xs) → second ≡ length ys - count
    → keep_last count all ≡ take (length xs - first) (drop first xs) ++ take (length ys - second) (drop second ys)
last_of_both count first second xs ys all whole f s =
    let long : length all ≡ length xs + length ys = ap length (sym whole) ∙ length-append xs ys in
    let behind : second ≡ (length all - count) - length xs = omega (arith, long, s) in
    ap (drop (length all - count)) (sym whole)
    ∙ (dropped (length all - count) second xs ys behind
    ∙ ap₂ (λ front back. front ++ back) (sym (drop_min (length all - count) xs) ∙ (ap (λ i. drop i xs) (sym f) ∙ sym (last_ones first xs))) (sym (last_ones second ys)))

taken_back_both : (newer older : List Change) (ws : List ℕ) → taken_back (newer ++ older) ws ≡ taken_back older (taken_back newer ws)
taken_back_both [] older ws = refl
taken_back_both (c ∷ cs) older ws = taken_back_both cs older (set ws c.index c.old)

-- the newest changes are taken back part by part
pub taken_back_parts : (count : ℕ) (older newer all : List Change) (ws : List ℕ) → count ≤ length all → keep_last count all ≡ older ++ newer
    → taken_back (reverse older) (taken_back (reverse newer) ws) ≡ taken_back (take count (reverse all)) ws
taken_back_parts count older newer all ws there parts =
    sym (taken_back_both (reverse newer) (reverse older) ws)
    ∙ (ap (λ cs. taken_back cs ws) (sym (reverse-append older newer)) ∙ (ap (λ cs. taken_back (reverse cs) ws) (sym parts) ∙ ap (λ cs. taken_back cs ws) (oldest_gone count all there)))

all_before : {X : Type 0} (xs ys : List X) → take (length xs) (xs ++ ys) ≡ xs
all_before [] ys = refl
all_before (x ∷ xs) ys = ap (λ zs. x ∷ zs) (all_before xs ys)

all_behind : {X : Type 0} (xs ys : List X) → drop (length xs) (xs ++ ys) ≡ ys
all_behind [] ys = refl
all_behind (x ∷ xs) ys = all_behind xs ys

-- what holds of all items holds of the last ones of either part
pub in_first_part : {X : Type 0} (P : X → Type 0) (k : ℕ) (xs ys all : List X) → xs ++ ys ≡ all → All P all → All P (take (length xs - k) (drop k xs))
in_first_part P k xs ys all whole h =
    subst (All P) (sym (last_ones k xs)) (All-drop P k xs (subst (All P) (all_before xs ys) (All-take P (length xs) (xs ++ ys) (subst (All P) (sym whole) h))))

pub in_second_part : {X : Type 0} (P : X → Type 0) (k : ℕ) (xs ys all : List X) → xs ++ ys ≡ all → All P all → All P (take (length ys - k) (drop k ys))
in_second_part P k xs ys all whole h =
    subst (All P) (sym (last_ones k ys)) (All-drop P k ys (subst (All P) (all_behind xs ys) (All-drop P (length xs) (xs ++ ys) (subst (All P) (sym whole) h))))
