-- The parameters that are listed at a step, one number after another.
use Rattle.std.proofs.Common.{◌≡◌, refl, sym, ap, ◌∙◌, ℕ, ◌+◌, ◌<◌, cond, Bool, true, false, List, [], ◌∷◌, ◌++◌, Some, None, append_assoc}
use Rattle.std.specs.Prelude.{map, filter, if◌then◌else◌}
use Rattle.gang_types.specs.declared.places.VarId.TheVariants.{Local}
use Rattle.gang_model.specs.Types.Resolved.{local_at}
use Rattle.gang_model.specs.Types.Tree.{Variable}
use Rattle.ispc_names_table.proofs.ListedNumbers.{front_number, passing}
use Rattle.machine_names.proofs.Listed.{from_number}
use Rattle.debug_inputs.specs.Parameters.{parameter_at}

-- the parameters that are listed from a number on
abbrev pub parameters_from : List Variable → (ℕ → Bool) → (a n : ℕ) → List Variable
parameters_from vs test a n = filter (λ v. v.is_parameter) (from_number vs test a n)

front_parameter : (vs : List Variable) (test : ℕ → Bool) (a n : ℕ) (t p : Bool) → a < n → test a ≡ t → (local_at vs (Local a)).is_parameter ≡ p
    → parameters_from vs test a n ≡ cond t (cond p (local_at vs (Local a) ∷ parameters_from vs test (a + 1) n) (parameters_from vs test (a + 1) n)) (parameters_from vs test (a + 1) n)
front_parameter vs test a n t p lt passes is = ap (λ js. filter (λ v. v.is_parameter) (map (λ j. local_at vs (Local j)) js)) (front_number test a n lt) ∙ ap pick passes ∙ chosen t
  where
    rest : List ℕ
    rest = passing test (a + 1) n

    pick : Bool → List Variable
    pick t = filter (λ v. v.is_parameter) (map (λ j. local_at vs (Local j)) (cond t (a ∷ rest) rest))

    chosen : (t : Bool) → pick t ≡ cond t (cond p (local_at vs (Local a) ∷ parameters_from vs test (a + 1) n) (parameters_from vs test (a + 1) n)) (parameters_from vs test (a + 1) n)
    chosen true = ap (λ p. cond p (local_at vs (Local a) ∷ parameters_from vs test (a + 1) n) (parameters_from vs test (a + 1) n)) is
    chosen false = refl

-- a variable that is a parameter, or none
parameter_is : (vs : List Variable) (a : ℕ) (v : Variable) → Some v ≡ parameter_at vs a → ((local_at vs (Local a)).is_parameter ≡ true) × (v ≡ local_at vs (Local a))
parameter_is vs a v e = by (local_at vs (Local a)).is_parameter refl e
  where
    by : (t : Bool) → (local_at vs (Local a)).is_parameter ≡ t → Some v ≡ (if t then Some (local_at vs (Local a)) else None)
        → ((local_at vs (Local a)).is_parameter ≡ true) × (v ≡ local_at vs (Local a))
    by true is e = (is, cc)
    by false is e = absurd cc

no_parameter : (vs : List Variable) (a : ℕ) → None ≡ parameter_at vs a → (local_at vs (Local a)).is_parameter ≡ false
no_parameter vs a e = by (local_at vs (Local a)).is_parameter refl e
  where
    by : (t : Bool) → (local_at vs (Local a)).is_parameter ≡ t → None ≡ (if t then Some (local_at vs (Local a)) else None) → (local_at vs (Local a)).is_parameter ≡ false
    by true is e = absurd cc
    by false is e = is

-- it is one more of them
pub parameter_listed : (vs : List Variable) (test : ℕ → Bool) (a n : ℕ) (v : Variable) (so_far : List Variable) → a < n → test a ≡ true → Some v ≡ parameter_at vs a
    → (so_far ++ v ∷ []) ++ parameters_from vs test (a + 1) n ≡ so_far ++ parameters_from vs test a n
parameter_listed vs test a n v so_far lt passes is =
    let there = parameter_is vs a v is in
    append_assoc so_far (v ∷ []) (parameters_from vs test (a + 1) n)
    ∙ ap (λ xs. so_far ++ xs) (ap (λ u. u ∷ parameters_from vs test (a + 1) n) there.1 ∙ sym (front_parameter vs test a n true true lt passes there.0))

-- it is none of them
pub no_parameter_listed : (vs : List Variable) (test : ℕ → Bool) (a n : ℕ) → a < n → test a ≡ true → None ≡ parameter_at vs a → parameters_from vs test (a + 1) n ≡ parameters_from vs test a n
no_parameter_listed vs test a n lt passes is = sym (front_parameter vs test a n true false lt passes (no_parameter vs a is))

-- it is not listed
pub parameter_hidden : (vs : List Variable) (test : ℕ → Bool) (a n : ℕ) → a < n → test a ≡ false → parameters_from vs test (a + 1) n ≡ parameters_from vs test a n
parameter_hidden vs test a n lt hidden = sym (front_parameter vs test a n false (local_at vs (Local a)).is_parameter lt hidden refl)
