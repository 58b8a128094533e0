-- Variables with numbers.
use Rattle.std.proofs.Common.{inl, inr, ◌≡◌, refl, sym, ap, ◌∙◌, ℕ, ◌<◌, Bool, List, [], ◌∷◌, ◌++◌, length, map, Some, arith}
use Rattle.std.specs.Prelude.{slice_get, Vec}
use Rattle.std.specs.declared.alloc.Global.{Global}
use Rattle.std.specs.Bool.{Decides}
use Rattle.std.proofs.lemmas.List.{append-nil, append_assoc, length-map, map-append}
use Rattle.std.proofs.lemmas.Option.{slice_get_within}
use Rattle.debug_traits.specs.declared.machine.NamedVariable.{NamedVariable}
use Rattle.run_page.specs.declared.variables.Variable.{Variable}
use Rattle.run_page.specs.Names.{GrowsNames, names_view}
use Rattle.run_page.specs.Sights.{Sight}
use Rattle.run_page.specs.Rows.{AreDistinct, Grows, named_sight, sight_view}
use Rattle.run_page.proofs.Places.{get_before, get_cases, get_last}

-- a variable of this depth with this shape is the one that was told, where it has its name
pub same_sight : (v : Variable) (deep : ℕ) (named : NamedVariable) (r : Bool) → v.depth ≡ deep → v.shown ≡ named.shown → Decides r (v.name.items ≡ named.name.now) → Decides r (sight_view v ≡ named_sight deep named)
same_sight v deep named r same_depth same_shown (to, back) = (λ is. let n = to is in rw (same_depth, same_shown, n) refl, λ same. back (ap (λ sight. sight.name) same))

-- no variable more
pub grows_none : (sights : List Sight) → Grows sights sights
grows_none sights = ([], sym (append-nil sights))

-- of none, none stands twice
pub distinct_none : (sights : List Sight) → sights ≡ [] → AreDistinct sights
distinct_none sights none i j sight at_i at_j = absurd (cc (ap (λ xs. slice_get xs i) none, at_i))

-- more, and then more
pub grows_on : (old middle new : List Sight) → Grows old middle → Grows middle new → Grows old new
grows_on old middle new (a, is_a) (b, is_b) = (a ++ b, is_b ∙ ap (λ xs. xs ++ b) is_a ∙ append_assoc old a b)

-- a variable keeps its number
pub stays : (old new : List Sight) → Grows old new → (k : ℕ) (sight : Sight) → slice_get old k ≡ Some sight → slice_get new k ≡ Some sight
stays old new (more, is) k sight here = ap (λ xs. slice_get xs k) is ∙ get_before old more k sight here

module _ (old new : List Variable) (v : Variable) (more : new ≡ old ++ v ∷ []) where
  behind : map sight_view new ≡ map sight_view old ++ sight_view v ∷ []
  behind = ap (map sight_view) more ∙ map-append sight_view old (v ∷ [])

  -- one variable more
  pub grows_one : Grows (map sight_view old) (map sight_view new)
  grows_one = (sight_view v ∷ [], behind)

  -- it has the last number
  pub number_last : (n : ℕ) → n ≡ length old → slice_get (map sight_view new) n ≡ Some (sight_view v)
  number_last n last = ap (slice_get (map sight_view new)) (last ∙ sym (length-map old sight_view)) ∙ ap (λ xs. slice_get xs (length (map sight_view old))) behind ∙ get_last (map sight_view old) (sight_view v)

  -- none stands twice where it was not there yet
  pub distinct_one : ((k : ℕ) → k < length old → slice_get (map sight_view old) k ≡ Some (sight_view v) → ⊥) → AreDistinct (map sight_view old) → AreDistinct (map sight_view new)
  distinct_one none distinct i j sight at_i at_j =
      let olds = map sight_view old in
      let cases_i = get_cases olds (sight_view v) i sight (ap (λ xs. slice_get xs i) (sym behind) ∙ at_i) in
      let cases_j = get_cases olds (sight_view v) j sight (ap (λ xs. slice_get xs j) (sym behind) ∙ at_j) in
      let within : (k : ℕ) (x : Sight) → slice_get olds k ≡ Some x → k < length old = λ k x is. omega (arith, slice_get_within olds k x is, length-map old sight_view) in
      elim cases_i [
        | inl a ↦ elim cases_j [ inl b ↦ distinct i j sight a b | inr b ↦ absurd (none i (within i sight a) (a ∙ ap Some (sym b.1))) ]
        | inr a ↦ elim cases_j [ inl b ↦ absurd (none j (within j sight b) (b ∙ ap Some (sym a.1))) | inr b ↦ a.0 ∙ sym b.0 ]
      ]

-- one name more
pub names_one : (old new : List (Vec ℕ Global)) (name : Vec ℕ Global) → new ≡ old ++ name ∷ [] → GrowsNames (names_view old) (names_view new)
names_one old new name more = (name.items ∷ [], ap names_view more ∙ map-append (λ name. name.items) old (name ∷ []))
