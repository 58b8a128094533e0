-- Words set one after another from the first on.
use Rattle.std.proofs.Common.{ℕ, zero, suc, ◌+◌, ◌<◌, ◌≤◌, ◌≡◌, refl, ap, subst, arith, List, [], ◌∷◌, length, slice_index, take}
use Rattle.std.specs.Prelude.{slice_set}
use Rattle.gang_model.specs.Debugger.Events.{covered}

one_more : (words old : List ℕ) (i : ℕ) → i < length words → length words ≤ length old
    → slice_set (covered (take i words) old) i (slice_index words i) ≡ covered (take (suc i) words) old
one_more [] old i h l = absurd (omega arith)
one_more (x ∷ words) [] i h l = absurd (omega arith)
one_more (x ∷ words) (y ∷ old) zero h l = refl
one_more (x ∷ words) (y ∷ old) (suc i) h l = ap (λ ws. x ∷ ws) (one_more words old i (omega arith) (omega arith))

-- one word more
pub covered_more : (words old : List ℕ) (i : ℕ) → i < length words → length words ≤ length old
    → slice_set (covered (take i words) old) i (slice_index words i) ≡ covered (take (i + 1) words) old
covered_more words old i h l =
    let next : suc i ≡ i + 1 = omega arith in
    subst (λ n. slice_set (covered (take i words) old) i (slice_index words i) ≡ covered (take n words) old) next (one_more words old i h l)

-- they are as many words as before
pub length-covered : (words old : List ℕ) → length words ≤ length old → length (covered words old) ≡ length old
length-covered [] old h = refl
length-covered (x ∷ words) [] h = absurd (omega (arith, h))
length-covered (x ∷ words) (y ∷ old) h = ap suc (length-covered words old (omega (arith, h)))

pub length-taken : (words : List ℕ) (i n : ℕ) → length words ≤ n → length (take i words) ≤ n
length-taken [] zero n h = omega arith
length-taken [] (suc i) n h = omega arith
length-taken (x ∷ words) zero n h = omega arith
length-taken (x ∷ words) (suc i) n h = let rest = length-taken words i (length words) (omega arith) in omega (arith, rest, h)
