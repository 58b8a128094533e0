-- The variables of a function that are listed at a step, from a number on.
use Rattle.std.specs.Prelude.{◌≡◌, ℕ, Bool, false, not, nat_le, List, [], ◌∷◌, filter, map, slice_get, Option, Some, None}
use Rattle.gang_types.specs.declared.places.VarId.{VarId}
use Rattle.gang_types.specs.declared.places.VarId.TheVariants.{File, Local}
use Rattle.gang_model.specs.Names.Scope.{Binding, names_at}
use Rattle.gang_model.specs.Types.Resolved.{local_at}
use Rattle.gang_model.specs.Types.Tree.{Variable}
use Rattle.debug_traits.specs.declared.machine.NextLocal.{NextLocal}
use Rattle.ispc_names_table.specs.Scopes.{standings_view}
use Rattle.typed_tree.specs.declared.program.Function.{Function}
use Rattle.typed_tree.specs.Views.{variable_view}
use Rattle.machine_names.specs.declared.listing.ListedKind.{ListedKind}
use Rattle.machine_names.specs.declared.listing.ListedKind.TheVariants.{Locals, Parameters}
use Rattle.machine_names.specs.Found.{IsNamed}

-- whether a variable is a function's, and its number at least this one
abbrev pub is_from : ℕ → VarId → Bool
is_from from (Local number) = nat_le from number
is_from from (File number) = false

-- whether a variable is one of those that are listed: of the parameters, or of all others
abbrev pub is_of : ListedKind → Variable → Bool
is_of Locals v = not v.is_parameter
is_of Parameters v = v.is_parameter

-- those of the variables in scope at a step whose numbers are at least this one
abbrev pub listed_from : ListedKind → Function → (step from : ℕ) → List Variable
listed_from kind f step from =
    filter (λ v. is_of kind v)
    (map (λ b. local_at (map variable_view f.variables.items) b.id) (filter (λ (b : Binding). is_from from b.id) (names_at (slice_get (standings_view f.scopes) step))))

-- the first of the variables from a number on is given by its name, with the number from which on the others are; or there is none
abbrev pub SeesNext : (width : ℕ) → (from : ℕ → List Variable) → (number : ℕ) → Option NextLocal → Type 0
SeesNext width from number None = from number ≡ []
SeesNext width from number (Some local) = (v : Variable) × (from number ≡ v ∷ from local.next) × IsNamed width v local.variable
