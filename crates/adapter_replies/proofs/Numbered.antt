-- Variables by their numbers in a list.
use Rattle.std.proofs.Common.{◌≡◌, refl, ℕ, zero, suc, ◌<◌, ◌≤◌, List, [], ◌∷◌, drop, take, Some, None, arith}
use Rattle.std.specs.Prelude.{slice_get}

-- the one at the front of what is left behind so many is the one of that number
pub front_at : {X : Type 0} (all : List X) (n : ℕ) (x : X) (rest : List X) → drop n all ≡ x ∷ rest → slice_get all n ≡ Some x
front_at [] zero x rest is = absurd (cc)
front_at [] (suc n) x rest is = absurd (cc)
front_at (y ∷ all) zero x rest is = cc
front_at (y ∷ all) (suc n) x rest is = front_at all n x rest is

pub none_from : {X : Type 0} (all : List X) (n m : ℕ) → drop n all ≡ [] → n ≤ m → slice_get all m ≡ None
none_from [] n m is less = refl
none_from (y ∷ all) zero m is less = absurd (cc)
none_from (y ∷ all) (suc n) zero is less = absurd (omega (arith, less))
none_from (y ∷ all) (suc n) (suc m) is less = none_from all n m is (omega (arith, less))

-- behind it are those from the next number on
pub behind : {X : Type 0} (all : List X) (n : ℕ) (x : X) (rest : List X) → drop n all ≡ x ∷ rest → drop (suc n) all ≡ rest
behind [] zero x rest is = absurd (cc)
behind [] (suc n) x rest is = absurd (cc)
behind (y ∷ all) zero x rest is = cc
behind (y ∷ all) (suc n) x rest is = behind all n x rest is

-- of the first so many, those from a number on
pub taken_at : {X : Type 0} (all : List X) (n most : ℕ) (x : X) → slice_get all n ≡ Some x → n < most → drop n (take most all) ≡ x ∷ drop (suc n) (take most all)
taken_at [] n most x is less = absurd (cc)
taken_at (y ∷ all) zero zero x is less = absurd (omega (arith, less))
taken_at (y ∷ all) zero (suc most) x is less = cc
taken_at (y ∷ all) (suc n) zero x is less = absurd (omega (arith, less))
taken_at (y ∷ all) (suc n) (suc most) x is less = taken_at all n most x is (omega (arith, less))

pub taken_none : {X : Type 0} (all : List X) (n most : ℕ) → slice_get all n ≡ None → drop n (take most all) ≡ []
taken_none [] zero zero is = refl
taken_none [] zero (suc most) is = refl
taken_none [] (suc n) zero is = refl
taken_none [] (suc n) (suc most) is = refl
taken_none (y ∷ all) zero most is = absurd (cc)
taken_none (y ∷ all) (suc n) zero is = refl
taken_none (y ∷ all) (suc n) (suc most) is = taken_none all n most is

pub taken_all : {X : Type 0} (all : List X) (n most : ℕ) → most ≤ n → drop n (take most all) ≡ []
taken_all [] zero zero past = refl
taken_all [] zero (suc most) past = refl
taken_all [] (suc n) zero past = refl
taken_all [] (suc n) (suc most) past = refl
taken_all (y ∷ all) zero zero past = refl
taken_all (y ∷ all) zero (suc most) past = absurd (omega (arith, past))
taken_all (y ∷ all) (suc n) zero past = refl
taken_all (y ∷ all) (suc n) (suc most) past = taken_all all n most (omega (arith, past))
