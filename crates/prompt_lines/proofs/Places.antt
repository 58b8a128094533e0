-- What is counted before a place, one place after another.
use Rattle.std.proofs.Common.{◌≡◌, ◌<◌, ◌≤◌, ◌+◌, ◌-◌, ℕ, suc, List, [], ◌∷◌, Bool, true, false, Some, length, get_or, refl, sym, ap, ◌∙◌, inl, inr, arith}
use Rattle.std.proofs.lemmas.Bool.{cases_Bool, true≢false}
use Rattle.std.proofs.lemmas.List.{length-drop}
use Rattle.std.proofs.lemmas.List.Sums.{count_by_more_no, count_by_more_yes}
use Rattle.std.specs.Prelude.{◌==◌, ◌&&◌, codes, drop, None, if◌then◌else◌}
use Rattle.gang_model.specs.Texts.Spellings.{behind}
use Rattle.prompt_lines.specs.Conditions.{begins, is_if}
use Rattle.prompt_lines.specs.Sources.{begins_word, count_before, first_place}

-- a byte is counted once or not
pub at_most_one : (b : Bool) → (if b then 1 else 0) ≤ 1
at_most_one true = omega arith
at_most_one false = omega arith

-- one place further
pub count_next : (byte : ℕ) (text : List ℕ) (i : ℕ) → i < length text → count_before byte text (i + 1) ≡ count_before byte text i + (if get_or text i 0 == byte then 1 else 0)
count_next byte text i inside = elim (cases_Bool (get_or text i 0 == byte)) [
  | inl e ↦ rw e (count_by_more_yes (λ b. b == byte) text i 0 inside e)
  | inr e ↦ rw e (omega (arith, count_by_more_no (λ b. b == byte) text i 0 inside e))
]

-- the place is passed
pub passed : (test : ℕ → Bool) (n i : ℕ) → i < n → test i ≡ false → first_place test (n - i) i ≡ first_place test (n - (i + 1)) (i + 1)
passed test n i inside none =
    let more : n - i ≡ suc (n - (i + 1)) = omega (arith, inside) in
    let next : suc i ≡ i + 1 = omega arith in
    ap (λ k. first_place test k i) more ∙ ap (λ b. if b then Some i else first_place test (n - (i + 1)) (suc i)) none ∙ ap (first_place test (n - (i + 1))) next

-- the place is found
pub reached : (test : ℕ → Bool) (n i : ℕ) → i < n → test i ≡ true → first_place test (n - i) i ≡ Some i
reached test n i inside here =
    let more : n - i ≡ suc (n - (i + 1)) = omega (arith, inside) in
    ap (λ k. first_place test k i) more ∙ ap (λ b. if b then Some i else first_place test (n - (i + 1)) (suc i)) here

-- ---- the word `if`

-- where it can be left out of a text, the text has two bytes at least
one_byte : (b : Bool) → begins (if b then None else None) ≡ false
one_byte true = refl
one_byte false = refl

two_bytes : (text : List ℕ) → begins (behind (codes "if") text) ≡ true → 2 ≤ length text
two_bytes [] begun = absurd (true≢false (sym begun))
two_bytes (a ∷ []) begun = absurd (true≢false (sym begun ∙ one_byte (105 == a)))
two_bytes (a ∷ b ∷ rest) begun = omega arith

-- both of a Bool
right_of : (a b : Bool) → (a && b) ≡ true → b ≡ true
right_of true b both = both
right_of false b both = absurd (true≢false (sym both))

-- two bytes stand at a place where the word does
pub if_inside : (text : List ℕ) (i : ℕ) → is_if text i ≡ true → i + 2 ≤ length text
if_inside text i here =
    let few : 2 ≤ length (drop i text) = two_bytes (drop i text) (right_of (begins_word text i) (begins (behind (codes "if") (drop i text))) here) in
    omega (arith, few, length-drop i text)
