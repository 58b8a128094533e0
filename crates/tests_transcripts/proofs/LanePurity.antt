-- Which functions are lane-pure: both of the recursion, and not the one that calls the library across lanes.
use Rattle.std.proofs.Common.{subst, ap}
use Rattle.std.specs.Prelude.{◌≡◌, refl, true, false, [], ◌∷◌, ℕ, zero, suc, Bool, ◌&&◌, List, Option, Some, None, slice_get, IsTrue}
use Rattle.gang_model.specs.Source.Parsed.{ParsedSource, ParsedFunction, functions_in}
use Rattle.gang_model.specs.Types.Tree.{Function, Program}
use Rattle.gang_model.specs.Types.Resolved.{program_of}
use Rattle.gang_model.specs.Running.LanePure.{is_pure_function, IsLanePure, itself}
use Rattle.tests_transcripts.proofs.Recursion.{source as recursion}
use Rattle.tests_transcripts.proofs.LibraryAcrossLanes.{source as across_lanes}

abbrev no_program : Program
no_program = record { functions = []; globals = [] }

abbrev program_or_none : Option Program → Program
program_or_none None = no_program
program_or_none (Some p) = p

abbrev program_in : ParsedSource → Program
program_in source = program_or_none (program_of source)

-- whether each function by itself is lane-pure
abbrev all_pure : List ParsedFunction → List Function → Bool
all_pure [] functions = true
all_pure (f ∷ written) [] = true
all_pure (f ∷ written) (g ∷ functions) = is_pure_function f g && all_pure written functions

-- a function is lane-pure where all functions are so by themselves
module _ where
  not_true : false ≡ true → ⊥
  not_true h = cc h

  first_is : (a b : Bool) → IsTrue (a && b) → IsTrue a
  first_is true b h = refl
  first_is false b h = absurd (not_true h)

  second_is : (a b : Bool) → IsTrue (a && b) → IsTrue b
  second_is true b h = h
  second_is false b h = absurd (not_true h)

  nothing : {A : Type 0} {x : A} → None ≡ Some x → ⊥
  nothing h = cc h

  value_or : {A : Type 0} → A → Option A → A
  value_or d None = d
  value_or d (Some x) = x

  same_some : {A : Type 0} {x y : A} → Some x ≡ Some y → x ≡ y
  unfolding value_or
  same_some {x = x} h = ap (value_or x) h

  every : (written : List ParsedFunction) (functions : List Function) → IsTrue (all_pure written functions) → (g : ℕ) (w : ParsedFunction) (f : Function) → slice_get written g ≡ Some w → slice_get functions g ≡ Some f → IsTrue (is_pure_function w f)
  every [] functions h g w f is_w is_f = absurd (nothing is_w)
  every (v ∷ written) [] h g w f is_w is_f = absurd (nothing is_f)
  every (v ∷ written) (e ∷ functions) h zero w f is_w is_f =
      subst (λ f. IsTrue (is_pure_function w f)) (same_some is_f) (subst (λ w. IsTrue (is_pure_function w e)) (same_some is_w) (first_is (is_pure_function v e) _ h))
  every (v ∷ written) (e ∷ functions) h (suc g) w f is_w is_f = every written functions (second_is (is_pure_function v e) _ h) g w f is_w is_f

recursion_is_pure : IsLanePure recursion (program_in recursion) 0
recursion_is_pure g w f reached is_w is_f = every (functions_in recursion) (program_in recursion).functions refl g w f is_w is_f

caller_is_pure : IsLanePure recursion (program_in recursion) 1
caller_is_pure g w f reached is_w is_f = every (functions_in recursion) (program_in recursion).functions refl g w f is_w is_f

across_lanes_is_not : IsLanePure across_lanes (program_in across_lanes) 0 → ⊥
across_lanes_is_not h = not_true (h 0 _ _ itself refl refl)
