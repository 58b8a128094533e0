-- What is told of words, one group after the other.
use Rattle.std.proofs.Common.{◌≡◌, ◌∙◌, ◌+◌, ◌-◌, ◌<◌, ◌≤◌, ℕ, zero, suc, Bool, true, false, List, [], ◌∷◌, ◌++◌, append-nil, append_assoc, drop, length, refl, ap, sym, take, arith, if◌then◌else◌}
use Rattle.std.specs.Prelude.{◌==◌, nat_lt, flat_map, replicate, slice_index}
use Rattle.std.specs.List.{prefix_len}
use Rattle.std.proofs.lemmas.Bool.Decides.{nat_tests}
use Rattle.std.proofs.lemmas.List.{length-drop, take_all}
use Rattle.prompt_texts.specs.declared.items.Item.{Item}
use Rattle.prompt_texts.specs.Items.{are_cut, element_item, groups, joined, kept, placed, runs, told, weight}

-- how many of a list are the same as a word
abbrev same_len : (word : ℕ) → List ℕ → ℕ
same_len word = prefix_len (λ other. other == word)

same_word : (x w : ℕ) → (x == w) ≡ true → x ≡ w
same_word x w is = grind (arith, nat_tests, is)

runs_step : (w : ℕ) (rest : List ℕ) → runs (w ∷ rest) ≡ (w, suc (same_len w rest)) ∷ runs (drop (same_len w rest) rest)
runs_step w [] = refl
runs_step w (x ∷ xs) = go (x == w) refl (runs_step x xs)
  where
    go : (b : Bool) → (x == w) ≡ b → runs (x ∷ xs) ≡ (x, suc (same_len x xs)) ∷ runs (drop (same_len x xs) xs) → runs (w ∷ x ∷ xs) ≡ (w, suc (same_len w (x ∷ xs))) ∷ runs (drop (same_len w (x ∷ xs)) (x ∷ xs))
    go true is others =
        let same : x ≡ w = same_word x w is in
        let more : same_len w (x ∷ xs) ≡ suc (same_len w xs) = ap (λ b. if b then 1 + same_len w xs else 0) is ∙ omega arith in
        ap (joined w) others ∙ ap (λ b. if b then (w, suc (suc (same_len x xs))) ∷ runs (drop (same_len x xs) xs) else (w, 1) ∷ (x, suc (same_len x xs)) ∷ runs (drop (same_len x xs) xs)) is
        ∙ ap (λ y. (w, suc (suc (same_len y xs))) ∷ runs (drop (same_len y xs) xs)) same ∙ ap (λ n. (w, suc n) ∷ runs (drop n (x ∷ xs))) (sym more)
    go false is others =
        let none : same_len w (x ∷ xs) ≡ 0 = ap (λ b. if b then 1 + same_len w xs else 0) is in
        ap (joined w) others ∙ ap (λ b. if b then (w, suc (suc (same_len x xs))) ∷ runs (drop (same_len x xs) xs) else (w, 1) ∷ (x, suc (same_len x xs)) ∷ runs (drop (same_len x xs) xs)) is
        ∙ ap (λ l. (w, 1) ∷ l) (sym others) ∙ ap (λ n. (w, suc n) ∷ runs (drop n (x ∷ xs))) (sym none)

groups_of_run : (r w : ℕ) (rest : List ℕ) → groups r (w ∷ rest)
    ≡ (if nat_lt r (suc (same_len w rest)) then (w, suc (same_len w rest)) ∷ [] else replicate (suc (same_len w rest)) (w, 1)) ++ groups r (drop (same_len w rest) rest)
groups_of_run r w rest = ap (flat_map (told r)) (runs_step w rest)

-- a run that is told once
pub group_folded : (r w : ℕ) (rest : List ℕ) → nat_lt r (suc (same_len w rest)) ≡ true
    → groups r (w ∷ rest) ≡ (w, suc (same_len w rest)) ∷ groups r (drop (same_len w rest) rest)
group_folded r w rest is =
    groups_of_run r w rest
    ∙ ap (λ b. (if b then (w, suc (same_len w rest)) ∷ [] else replicate (suc (same_len w rest)) (w, 1)) ++ groups r (drop (same_len w rest) rest)) is

-- the others of a run that is told word by word
others : (r w : ℕ) (rest : List ℕ) → nat_lt r (suc (same_len w rest)) ≡ false
    → replicate (same_len w rest) (w, 1) ++ groups r (drop (same_len w rest) rest) ≡ groups r rest
others r w [] short = refl
others r w (x ∷ xs) short = go (x == w) refl
  where
    go : (b : Bool) → (x == w) ≡ b → replicate (same_len w (x ∷ xs)) (w, 1) ++ groups r (drop (same_len w (x ∷ xs)) (x ∷ xs)) ≡ groups r (x ∷ xs)
    go true is =
        let more : same_len w (x ∷ xs) ≡ suc (same_len w xs) = ap (λ b. if b then 1 + same_len w xs else 0) is ∙ omega arith in
        let shorter : nat_lt r (suc (same_len w xs)) ≡ false = grind (arith, nat_tests, short, more) in
        ap (λ n. replicate n (w, 1) ++ groups r (drop n (x ∷ xs))) more
        ∙ ap (λ b. (if b then (w, suc (same_len w xs)) ∷ [] else replicate (suc (same_len w xs)) (w, 1)) ++ groups r (drop (same_len w xs) xs)) (sym shorter)
        ∙ sym (groups_of_run r w xs) ∙ ap (λ y. groups r (y ∷ xs)) (sym (same_word x w is))
    go false is =
        let none : same_len w (x ∷ xs) ≡ 0 = ap (λ b. if b then 1 + same_len w xs else 0) is in
        ap (λ n. replicate n (w, 1) ++ groups r (drop n (x ∷ xs))) none

-- a word that is told by itself
pub group_single : (r w : ℕ) (rest : List ℕ) → nat_lt r (suc (same_len w rest)) ≡ false → groups r (w ∷ rest) ≡ (w, 1) ∷ groups r rest
group_single r w rest short =
    groups_of_run r w rest
    ∙ ap (λ b. (if b then (w, suc (same_len w rest)) ∷ [] else replicate (suc (same_len w rest)) (w, 1)) ++ groups r (drop (same_len w rest) rest)) short
    ∙ ap (λ l. (w, 1) ∷ l) (others r w rest short)

-- what is left of a list from a place on
pub rest_from : (words : List ℕ) (at : ℕ) → take (length words - at) (drop at words) ≡ drop at words
rest_from words at = take_all (length words - at) (drop at words) (omega (arith, length-drop at words))

-- ---- the first group

pub first_folded : (r n : ℕ) (words : List ℕ) → 0 < length words → n ≡ same_len (slice_index words 0) (drop 1 words) → r < 1 + n
    → groups r words ≡ (slice_index words 0, 1 + n) ∷ groups r (drop (1 + n) words)
first_folded r n [] some same long = absurd (omega (arith, some))
first_folded r n (w ∷ rest) some same long =
    let test : nat_lt r (suc (same_len w rest)) ≡ true = grind (arith, nat_tests, same, long) in
    let all : suc (same_len w rest) ≡ 1 + n = omega (arith, same) in
    group_folded r w rest test ∙ ap (λ k. (w, k) ∷ groups r (drop k (w ∷ rest))) all

pub first_single : (r n : ℕ) (words : List ℕ) → 0 < length words → n ≡ same_len (slice_index words 0) (drop 1 words) → 1 + n ≤ r
    → groups r words ≡ (slice_index words 0, 1) ∷ groups r (drop 1 words)
first_single r n [] some same short = absurd (omega (arith, some))
first_single r n (w ∷ rest) some same short =
    let test : nat_lt r (suc (same_len w rest)) ≡ false = grind (arith, nat_tests, same, short) in
    group_single r w rest test

-- ---- what is told so far, and what is left

kept_none : (r : ℕ) (gs : List (ℕ × ℕ)) → kept r 0 gs ≡ []
kept_none r [] = refl
kept_none r (g ∷ gs) = refl

cut_some : (r : ℕ) (words : List ℕ) → 0 < length words → are_cut r 0 (groups r words) ≡ true
cut_some r [] some = absurd (omega (arith, some))
cut_some r (w ∷ rest) some = go (nat_lt r (suc (same_len w rest))) refl
  where
    go : (b : Bool) → nat_lt r (suc (same_len w rest)) ≡ b → are_cut r 0 (groups r (w ∷ rest)) ≡ true
    go true is = ap (are_cut r 0) (group_folded r w rest is)
    go false is = ap (are_cut r 0) (group_single r w rest is)

-- where no more are told
pub ends_cut : (r index left : ℕ) (items : List Item) (words : List ℕ) → left ≡ 0 → 0 < length words
    → (items ++ placed index (kept r left (groups r words)) ≡ items) × (are_cut r left (groups r words) ≡ true)
ends_cut r index left items words none some = (
  ap (λ l. items ++ placed index (kept r l (groups r words))) none ∙ ap (λ gs. items ++ placed index gs) (kept_none r (groups r words)) ∙ append-nil items,
  ap (λ l. are_cut r l (groups r words)) none ∙ cut_some r words some,
)

-- where none is left
pub ends_whole : (r index left : ℕ) (items : List Item) (words : List ℕ) → words ≡ []
    → (items ++ placed index (kept r left (groups r words)) ≡ items) × (are_cut r left (groups r words) ≡ false)
ends_whole r index left items words none = (
  ap (λ ws. items ++ placed index (kept r left (groups r ws))) none ∙ append-nil items,
  ap (λ ws. are_cut r left (groups r ws)) none,
)

-- one group more
pub goes_on : (r index count next left : ℕ) (w : ℕ) (items : List Item) (words rest : List ℕ) → (left ≡ 0 → ⊥) → index + count ≡ next
    → groups r words ≡ (w, count) ∷ groups r rest
    → (items ++ placed index (kept r left (groups r words)) ≡ (items ++ element_item index (w, count) ∷ []) ++ placed next (kept r (left - weight r (w, count)) (groups r rest)))
    × (are_cut r left (groups r words) ≡ are_cut r (left - weight r (w, count)) (groups r rest))
goes_on r index count next left w items words rest some on is =
    let test : (left == 0) ≡ false = grind (arith, nat_tests, some) in (
      ap (λ gs. items ++ placed index (kept r left gs)) is
          ∙ ap (λ b. items ++ placed index (if b then [] else (w, count) ∷ kept r (left - weight r (w, count)) (groups r rest))) test
          ∙ ap (λ k. items ++ element_item index (w, count) ∷ placed k (kept r (left - weight r (w, count)) (groups r rest))) on
          ∙ sym (append_assoc items (element_item index (w, count) ∷ []) _),
      ap (are_cut r left) is ∙ ap (λ b. if b then true else are_cut r (left - weight r (w, count)) (groups r rest)) test,
    )
