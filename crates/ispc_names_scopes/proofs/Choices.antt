-- Choices between several values.
use Rattle.std.proofs.Common.{◌≡◌, Bool, true, false, refl, true≢false}
use Rattle.std.specs.Prelude.{if◌then◌else◌}

-- the last of three choices, where none of the tests holds
pub last_of_three : {A : Type 0} (p q r : Bool) (a b c d : A) → p ≡ false → q ≡ false → r ≡ false
    → d ≡ (if p then a else (if q then b else (if r then c else d)))
last_of_three true q r a b c d e f g = absurd (true≢false e)
last_of_three false true r a b c d e f g = absurd (true≢false f)
last_of_three false false true a b c d e f g = absurd (true≢false g)
last_of_three false false false a b c d e f g = refl
