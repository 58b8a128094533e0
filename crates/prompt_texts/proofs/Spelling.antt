-- The digits of a number, from the last one on.
use Rattle.std.proofs.Common.{◌≡◌, ℕ, zero, suc, ◌+◌, ◌-◌, ◌<◌, ◌≤◌, true, false, List, [], ◌∷◌, length, drop, refl, ap, ◌∙◌, arith}
use Rattle.std.specs.Prelude.{◌/◌, ◌%◌, ◌==◌, if◌then◌else◌}
use Rattle.std.specs.Fmt.{digit_glyph, digits, digits_onto}
use Rattle.std.proofs.Math.ListN.{set}
use Rattle.std.proofs.lemmas.Bool.Decides.{nat_tests}
use Rattle.std.proofs.lemmas.List.{drop-set}

pub digits_are : (base n : ℕ) → digits_onto 64 base false n [] ≡ digits base false n
unfolding digits
digits_are base n = refl

-- the last digit, with no other before it
pub last_digit : (k base n : ℕ) (behind : List ℕ) → 0 < k → n / base ≡ 0 → digits_onto k base false n behind ≡ digit_glyph false (n % base) ∷ behind
last_digit zero base n behind some none = absurd (omega (arith, some))
last_digit (suc k) base n behind some none =
    ap (λ b. if b then digit_glyph false (n % base) ∷ behind else digits_onto k base false (n / base) (digit_glyph false (n % base) ∷ behind)) (ap (λ m. m == 0) none)

-- the last digit, with others before it
pub further_digits : (k base n : ℕ) (behind : List ℕ) → 0 < k → (n / base ≡ 0 → ⊥) → digits_onto k base false n behind ≡ digits_onto (k - 1) base false (n / base) (digit_glyph false (n % base) ∷ behind)
further_digits zero base n behind some more = absurd (omega (arith, some))
further_digits (suc k) base n behind some more =
    let test : (n / base == 0) ≡ false = grind (arith, nat_tests, more) in
    let same : k ≡ suc k - 1 = omega arith in
    ap (λ b. if b then digit_glyph false (n % base) ∷ behind else digits_onto k base false (n / base) (digit_glyph false (n % base) ∷ behind)) test
    ∙ ap (λ j. digits_onto j base false (n / base) (digit_glyph false (n % base) ∷ behind)) same

-- a digit is written before those that stand there
pub spelled_before : (text : List ℕ) (first base n glyph : ℕ) → 0 < first → first ≤ length text → glyph ≡ digit_glyph false (n % base)
    → drop (first - 1) (set text (first - 1) glyph) ≡ digit_glyph false (n % base) ∷ drop first text
spelled_before text first base n glyph some within is =
    let at : first - 1 < length text = omega (arith, some, within) in
    let on : first - 1 + 1 ≡ first = omega (arith, some) in
    drop-set text (first - 1) glyph at ∙ ap (λ g. g ∷ drop (first - 1 + 1) text) is ∙ ap (λ k. digit_glyph false (n % base) ∷ drop k text) on
