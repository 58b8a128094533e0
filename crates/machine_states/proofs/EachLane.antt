-- Lists with a value for each lane of a set.
use Rattle.std.proofs.Common.{◌≡◌, refl, sym, ap, ◌∙◌, ℕ, zero, suc, ◌+◌, ◌<◌, true, false, [], ◌∷◌, length, arith}
use Rattle.std.specs.Prelude.{if◌then◌else◌}
use Rattle.gang_types.specs.Lanes.{Lanes, has}
use Rattle.gang_model.specs.Running.Lanes.{words_from, each, at}
use Rattle.mask_states.proofs.OwnTasks.{none_true}

words_same : (k : ℕ) (lanes : Lanes) (f g : ℕ → ℕ) → ((i : ℕ) → i < length lanes → f (k + i) ≡ g (k + i)) → words_from k lanes f ≡ words_from k lanes g
words_same k [] f g same = refl
words_same k (b ∷ lanes) f g same =
    let first : f k ≡ g k = ap f (omega arith) ∙ same 0 (omega arith) ∙ ap g (omega arith) in
    ap (λ x. (if b then x else 0) ∷ words_from (suc k) lanes f) first
    ∙ ap (λ xs. (if b then g k else 0) ∷ xs) (words_same (suc k) lanes f g (λ i within. ap f (omega arith) ∙ same (suc i) (omega (arith, within)) ∙ ap g (omega arith)))

-- the same values give the same list
pub each_same : (lanes : Lanes) (f g : ℕ → ℕ) → ((i : ℕ) → i < length lanes → f i ≡ g i) → each lanes f ≡ each lanes g
each_same lanes f g same = words_same 0 lanes f g (λ i within. ap f (omega arith) ∙ same i within ∙ ap g (omega arith))

at-words_out : (m : ℕ) (lanes : Lanes) (f : ℕ → ℕ) (k : ℕ) → has lanes k ≡ false → at (words_from m lanes f) k ≡ 0
at-words_out m [] f k h = refl
at-words_out m (true ∷ lanes) f zero h = absurd (none_true (sym h))
at-words_out m (false ∷ lanes) f zero h = refl
at-words_out m (b ∷ lanes) f (suc k) h = at-words_out (suc m) lanes f k h

-- a lane that is not in the set has 0
pub at-each_out : (lanes : Lanes) (f : ℕ → ℕ) (k : ℕ) → has lanes k ≡ false → at (each lanes f) k ≡ 0
at-each_out lanes f k h = at-words_out 0 lanes f k h
