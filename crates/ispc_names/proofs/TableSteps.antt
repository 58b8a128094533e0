-- What is read in the tables of functions.
use Rattle.std.proofs.Common.{ℕ, ◌<◌, ◌≤◌, ◌≡◌, List, [], Option, Some, None, refl, sym, ap, ◌∙◌, length, get_or}
use Rattle.std.specs.Prelude.{option_map, slice_get}
use Rattle.std.proofs.lemmas.Option.{slice_get-map, slice_get-get_or, slice_get_past}
use Rattle.gang_types.specs.declared.places.Spot.{Spot}
use Rattle.gang_types.specs.declared.places.VarId.TheVariants.{Local}
use Rattle.gang_model.specs.Source.Parsed.{Name, ParsedFunction, ParsedSource, functions_in}
use Rattle.gang_model.specs.Names.Scope.{NameStanding, declaration, found_at, file_scope, scope_at, standings_at, standings_of}
use Rattle.ispc_names_table.specs.declared.table.StepScopes.{StepScopes}
use Rattle.ispc_names_table.specs.Scopes.{standings_view}
use Rattle.ispc_names_table.proofs.InnerNames.{or_else, declaration-append}
use Rattle.ispc_names.specs.Tables.{AreTablesOf}

abbrev standings_or_none : Option (List NameStanding) → List NameStanding
standings_or_none None = []
standings_or_none (Some ss) = ss

read_standings : (source : ParsedSource) (o : Option ParsedFunction) → standings_at source o ≡ standings_or_none (option_map (standings_of (file_scope source)) o)
read_standings source None = refl
read_standings source (Some f) = refl

module _ (source : ParsedSource) (tables : List StepScopes) (are : AreTablesOf source tables) (n : ℕ) where
  standings_read : standings_at source (slice_get (functions_in source) n) ≡ standings_or_none (option_map standings_view (slice_get tables n))
  standings_read =
      read_standings source (slice_get (functions_in source) n)
      ∙ ap standings_or_none (sym (slice_get-map (standings_of (file_scope source)) (functions_in source) n) ∙ ap (λ ss. slice_get ss n) (sym are) ∙ slice_get-map standings_view tables n)

  -- a function's steps are those of its table
  pub scope-in : (t : StepScopes) → n < length tables → t ≡ get_or tables n t → standings_at source (slice_get (functions_in source) n) ≡ standings_view t
  scope-in t lt is = standings_read ∙ ap (λ o. standings_or_none (option_map standings_view o)) (slice_get-get_or tables n t lt ∙ ap (λ x. Some x) (sym is))

  -- there is no such function
  pub scope-past : length tables ≤ n → standings_at source (slice_get (functions_in source) n) ≡ []
  scope-past le = standings_read ∙ ap (λ o. standings_or_none (option_map standings_view o)) (slice_get_past tables n le)

-- ---- names

-- a name that stands for a local variable, or for none, and then for one of the file
pub found-local : (source : ParsedSource) (spot : Option Spot) (s : Spot) (name : Name) (local : Option ℕ) → spot ≡ Some s → option_map Local local ≡ declaration (scope_at source s) name
    → found_at source spot name ≡ or_else (option_map Local local) (declaration (file_scope source) name)
found-local source spot s name local e h =
    ap (λ o. found_at source o name) e ∙ declaration-append (scope_at source s) (file_scope source) name ∙ ap (λ o. or_else o (declaration (file_scope source) name)) (sym h)

-- no local variable is found
pub found-outside : (source : ParsedSource) (spot : Option Spot) (s : Spot) (name : Name) (local : Option ℕ) → spot ≡ Some s → option_map Local local ≡ declaration (scope_at source s) name → local ≡ None
    → declaration (file_scope source) name ≡ found_at source spot name
found-outside source spot s name local e h none = sym (found-local source spot s name local e h ∙ ap (λ o. or_else (option_map Local o) (declaration (file_scope source) name)) none)

-- no step is given
pub found-nowhere : (source : ParsedSource) (spot : Option Spot) (name : Name) → spot ≡ None → declaration (file_scope source) name ≡ found_at source spot name
found-nowhere source spot name e = sym (ap (λ o. found_at source o name) e)
