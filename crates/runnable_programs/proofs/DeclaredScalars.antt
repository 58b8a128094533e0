-- What is declared before each step, where the parameters that are arrays are left out.
use Rattle.std.proofs.Common.{ℕ, zero, suc, ◌<◌, ◌==◌, Bool, true≢false, true, false, List, [], ◌∷◌, ◌++◌, ◌≡◌, refl, subst, inl, inr, arith}
use Rattle.std.proofs.lemmas.Bool.Decides.{nat_tests}
use Rattle.std.specs.Prelude.{slice_get, slice_index_or, if◌then◌else◌}
use Rattle.gang_model.specs.Types.Tree.{Stmt, Empty, Then, If, Loop, BodyFirst, Switch, Segment, ForEach, Variable}
use Rattle.machine_states.specs.Variables.{is_array_of}
use Rattle.machine_states.specs.Declared.{IsAmong, declared_by_form, declared_by, declared_at, scalars_below}

-- ---- parameters

-- the numbers below one
abbrev pub first_numbers : ℕ → List ℕ
first_numbers zero = []
first_numbers (suc n) = n ∷ first_numbers n

-- each number below one is among the first
pub first_has : (n k : ℕ) → k < n → IsAmong k (first_numbers n)
first_has zero k within = absurd (omega (arith, within))
first_has (suc n) k within = by (k == n) refl (first_has n k)
  where
    by : (b : Bool) → (k == n) ≡ b → (k < n → IsAmong k (first_numbers n)) → IsAmong k (first_numbers (suc n))
    by true e among = inl (grind (arith, nat_tests))
    by false e among = inr (among (grind (arith, nat_tests)))

module _ (own : List Variable) where
  abbrev IsScalarAt : ℕ → Type 0
  IsScalarAt k = is_array_of (slice_get own k) ≡ false

  -- the scalars among some are among others
  abbrev pub IsNear : List ℕ → List ℕ → Type 0
  IsNear d there = (k : ℕ) → IsAmong k d → IsScalarAt k → IsAmong k there

  skipped : (b : Bool) (n k : ℕ) (numbers : List ℕ) → IsAmong k numbers → IsAmong k (if b then numbers else n ∷ numbers)
  skipped true n k numbers h = h
  skipped false n k numbers h = inr h

  kept : (b : Bool) (n k : ℕ) (numbers : List ℕ) → b ≡ false → k ≡ n → IsAmong k (if b then numbers else n ∷ numbers)
  kept true n k numbers e same = absurd (true≢false e)
  kept false n k numbers e same = inl same

  -- the scalars among the first numbers
  pub first_near : (n : ℕ) → IsNear (first_numbers n) (scalars_below own n)
  first_near zero k h scalar = absurd h
  first_near (suc n) k (inl e) scalar =
      kept (is_array_of (slice_get own n)) n k (scalars_below own n) (subst (λ i. is_array_of (slice_get own i) ≡ false) e scalar) e
  first_near (suc n) k (inr h) scalar = skipped (is_array_of (slice_get own n)) n k (scalars_below own n) (first_near n k h scalar)

  -- each scalar below a number
  pub scalar_has : (n k : ℕ) → k < n → IsScalarAt k → IsAmong k (scalars_below own n)
  scalar_has n k within scalar = first_near n k (first_has n k within) scalar

  pub near_more : (more d there : List ℕ) → IsNear d there → IsNear (more ++ d) (more ++ there)
  near_more [] d there h k among scalar = h k among scalar
  near_more (m ∷ more) d there h k (inl e) scalar = inl e
  near_more (m ∷ more) d there h k (inr among) scalar = inr (near_more more d there h k among scalar)

  -- ---- steps

  abbrev pub AreNear : List (List ℕ) → List (List ℕ) → Type 0
  AreNear [] [] = Unit {0}
  AreNear [] (there ∷ others) = ⊥
  AreNear (d ∷ more) [] = ⊥
  AreNear (d ∷ more) (there ∷ others) = IsNear d there × AreNear more others

  near_join : (xs ys first later : List (List ℕ)) → AreNear xs first → AreNear ys later → AreNear (xs ++ ys) (first ++ later)
  near_join [] ys [] later p q = q
  near_join [] ys (there ∷ first) later p q = absurd p
  near_join (x ∷ xs) ys [] later p q = absurd p
  near_join (x ∷ xs) ys (there ∷ first) later p q = (p.0, near_join xs ys first later p.1 q)

  -- what is declared before the steps of a statement
  pub at_near : (s : Stmt) (d there : List ℕ) → IsNear d there → AreNear (declared_at d s) (declared_at there s)
  at_near Empty d there h = tt
  at_near (Then first rest) d there h =
      near_join (declared_at d first) (declared_at (declared_by first ++ d) rest) (declared_at there first) (declared_at (declared_by first ++ there) rest)
      (at_near first d there h) (at_near rest (declared_by first ++ d) (declared_by first ++ there) (near_more (declared_by first) d there h))
  at_near (If number test first other) d there h =
      (h, near_join (declared_at d first) (declared_at d other) (declared_at there first) (declared_at there other) (at_near first d there h) (at_near other d there h))
  at_near (Loop number test update body) d there h =
      near_join (declared_at d body) (declared_at d update ++ d ∷ []) (declared_at there body) (declared_at there update ++ there ∷ []) (at_near body d there h)
      (near_join (declared_at d update) (d ∷ []) (declared_at there update) (there ∷ []) (at_near update d there h) (h, tt))
  at_near (BodyFirst number test body) d there h = near_join (declared_at d body) (d ∷ []) (declared_at there body) (there ∷ []) (at_near body d there h) (h, tt)
  at_near (Switch number e segments) d there h = (h, at_near segments d there h)
  at_near (Segment label body rest) d there h =
      near_join (declared_at d body) (declared_at d rest) (declared_at there body) (declared_at there rest) (at_near body d there h) (at_near rest d there h)
  at_near (ForEach number form body) d there h =
      let inside = declared_by_form form in
      (h, near_join (declared_at (inside ++ d) body) (d ∷ []) (declared_at (inside ++ there) body) (there ∷ []) (at_near body (inside ++ d) (inside ++ there) (near_more inside d there h)) (h, tt))
  at_near s d there h = (h, tt)

  -- before the step with a number, or at the end
  pub near_at : (before others : List (List ℕ)) (end last : List ℕ) → AreNear before others → IsNear end last
      → (number : ℕ) → IsNear (slice_index_or before number end) (slice_index_or others number last)
  near_at [] [] end last p q number = q
  near_at [] (there ∷ others) end last p q number = absurd p
  near_at (d ∷ before) [] end last p q number = absurd p
  near_at (d ∷ before) (there ∷ others) end last p q zero = p.0
  near_at (d ∷ before) (there ∷ others) end last p q (suc number) = near_at before others end last p.1 q number
