-- What is in scope at the steps of a function is among its own variables.
use Rattle.std.proofs.Common.{ℕ, zero, suc, List, [], ◌∷◌, ◌≡◌, refl, sym, ◌∙◌, ap, subst}
use Rattle.std.specs.Prelude.{All, map, Some, slice_get}
use Rattle.std.proofs.lemmas.List.Elements.{All-nil, All-cons}
use Rattle.std.proofs.lemmas.Option.{none-some, get_or_from_slice_get}
use Rattle.gang_model.specs.Types.Tree.{Variable, Standing}
use Rattle.gang_model.specs.Names.Bindings.{variable_bindings}
use Rattle.gang_model.specs.Names.Scope.{Binding, NameStanding}
use Rattle.gang_model.specs.Types.Resolved.{no_variable, local_at, standing_with}
use Rattle.gang_model.proofs.StandingLaws.{Each, Found, AllFound}
use Rattle.machine_states.proofs.Elements.{each_get, get_mapped}

-- the variable of a declaration, by its number
variable_of_binding : (variables : List Variable) (k : ℕ) (b : Binding) → slice_get (variable_bindings variables) k ≡ Some b → (v : Variable) × (slice_get variables k ≡ Some v)
variable_of_binding [] k b e = absurd (none-some b e)
variable_of_binding (v ∷ variables) zero b e = (v, refl)
variable_of_binding (v ∷ variables) (suc k) b e = variable_of_binding variables k b e

-- a variable is one of these
abbrev pub IsOneOf : List Variable → Variable → Type 0
IsOneOf own v = (k : ℕ) × (slice_get own k ≡ Some v)

name_own : (own : List Variable) (b : Binding) → Found (variable_bindings own) b → IsOneOf own (local_at own b.id)
name_own own b found =
    let k = found.0 in
    let v = variable_of_binding own k b found.2 in
    let same : local_at own b.id ≡ v.0 = ap (local_at own) found.1 ∙ get_or_from_slice_get own k v.0 no_variable v.1 in
    subst (IsOneOf own) (sym same) (k, v.1)

names_own : (own : List Variable) (names : List Binding) → Each (Found (variable_bindings own)) names → All (IsOneOf own) (map (λ b. local_at own b.id) names)
names_own own [] found = All-nil (IsOneOf own)
names_own own (b ∷ names) found =
    All-cons (IsOneOf own) (local_at own b.id) (map (λ c. local_at own c.id) names) (name_own own b found.0) (names_own own names found.1)

pub scopes_own : (own : List Variable) (standings : List NameStanding) → Each (AllFound (variable_bindings own)) standings → (number : ℕ) (there : Standing)
    → slice_get (map (standing_with own) standings) number ≡ Some there → All (IsOneOf own) there.scope
scopes_own own standings found number there e =
    let named = get_mapped (standing_with own) standings number there e in
    subst (λ s. All (IsOneOf own) s.scope) named.2 (names_own own named.0.names (each_get (AllFound (variable_bindings own)) standings number named.0 found named.1))
