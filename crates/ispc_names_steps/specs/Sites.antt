-- What the variables declared so far and the steps passed so far say of a place in a function.
use Rattle.std.specs.Prelude.{ℕ, suc, ◌<◌, ◌≡◌, List, [], ◌∷◌, ◌++◌, filter, length, map, Option, Some, None}
use Rattle.std.specs.List.{All}
use Rattle.gang_types.specs.declared.places.VarId.TheVariants.{Local}
use Rattle.gang_model.specs.Source.Parsed.{ParsedStmt}
use Rattle.gang_model.specs.Names.Scope.{Binding, bound, Environment, NameStanding, Site, after, is_local, standings_in}
use Rattle.ispc_names_table.specs.declared.table.Declaration.{Declaration}
use Rattle.ispc_names_table.specs.declared.table.Standing.{Standing}
use Rattle.ispc_names_table.specs.Scopes.{in_scope, standing_view}
use Rattle.ispc_names_steps.specs.declared.declared.Declared.{Declared}

-- the variables with their numbers, from k on
abbrev pub numbered : ℕ → List Declaration → List Binding
numbered k [] = []
numbered k (d ∷ ds) = bound d.name.items (Local k) ∷ numbered (suc k) ds

-- these variables were declared, behind those before
pub record Declares (before after : List Declaration) (bindings : List Binding) : Type 0 where
  pub added : List Declaration
  pub behind : after ≡ before ++ added
  pub named : numbered (length before) added ≡ bindings

-- a link leads nowhere, or to one of so many variables
abbrev pub LeadsBelow : ℕ → Option ℕ → Type 0
LeadsBelow n None = Unit {0}
LeadsBelow n (Some k) = k < n

-- from a variable on, these local variables are in scope
pub record Reaches (ds : List Declaration) (innermost : Option ℕ) (environment : Environment) : Type 0 where
  pub below : LeadsBelow (length ds) innermost
  pub local : filter (λ b. is_local b.id) environment ≡ in_scope ds innermost

-- these are the steps, with what is listed at each
pub record Lists (ds : List Declaration) (standings : List Standing) (steps : List NameStanding) : Type 0 where
  pub below : All (λ s. LeadsBelow (length ds) s.innermost) standings
  pub names : map (standing_view ds) standings ≡ steps

-- so far has the function been passed through: what a statement finds here, and the steps before it
pub record StandsIn (ds : List Declaration) (innermost : Option ℕ) (standings : List Standing) (environment : Environment) (next : ℕ) (steps : List NameStanding) : Type 0 where
  pub reaches : Reaches ds innermost environment
  pub numbers : next ≡ length ds
  pub lists : Lists ds standings steps

-- so far has the function been passed through: what a statement finds here, and the steps before it
abbrev pub Stands : Declared → List Standing → Site → List NameStanding → Type 0
Stands declared standings site steps = StandsIn declared.declarations.items declared.innermost standings site.environment site.next steps

-- from before a statement to behind it
abbrev pub Passes : ParsedStmt → (before after : Declared) → (ss ts : List Standing) → Type 0
Passes s old new ss ts = (site : Site) (steps : List NameStanding) → Stands old ss site steps → Stands new ts (after s site) (steps ++ standings_in s site)
