-- Words that are put back one by one.
use Rattle.std.proofs.Common.{◌≡◌, refl, ap, arith, ℕ, zero, suc, ◌<◌, List, [], ◌∷◌, ◌++◌, length, take, drop}
use Rattle.std.specs.Prelude.{slice_index, slice_set}

pub put_one : (cs ws : List ℕ) (i : ℕ) → length cs ≡ length ws → i < length cs → slice_set (take i cs ++ drop i ws) i (slice_index cs i) ≡ take (suc i) cs ++ drop (suc i) ws
put_one [] ws i long inside = absurd (none i inside)
  where
    none : (i : ℕ) → i < 0 → ⊥
    none i inside = omega arith
put_one (c ∷ cs) [] i long inside = absurd (none (length cs) long)
  where
    none : (n : ℕ) → suc n ≡ 0 → ⊥
    none n e = omega arith
put_one (c ∷ cs) (w ∷ ws) zero long inside = refl
put_one (c ∷ cs) (w ∷ ws) (suc i) long inside = ap (λ xs. c ∷ xs) (put_one cs ws i (omega (arith, long)) (omega (arith, inside)))
