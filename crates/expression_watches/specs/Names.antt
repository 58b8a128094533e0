-- What the names of a text stand for at two steps of a program.
use Rattle.std.specs.Prelude.{ℕ, ◌==◌, ◌&&◌, Bool, true, false, List, Option, Some, None, option_map}
use Rattle.std.specs.List.{list_all}
use Rattle.gang_types.specs.declared.places.Spot.{Spot}
use Rattle.gang_types.specs.declared.places.VarId.{VarId}
use Rattle.gang_model.specs.Source.Names.{named}
use Rattle.gang_model.specs.Source.Tokens as token
use Rattle.gang_model.specs.Source.Tokens.{Lexeme, Sort}
use Rattle.gang_model.specs.Running.State.{same_id}
use Rattle.gang_model.specs.Types.Tree.{Program}
use Rattle.gang_model.specs.Debugger.Positions.{scope_of, standing_at}

-- whether two variables that may be there are one
abbrev pub same_found : Option VarId → Option VarId → Bool
same_found None None = true
same_found None (Some b) = false
same_found (Some a) None = false
same_found (Some a) (Some b) = same_id a b

-- the variable of a function that a name stands for at a step; where it is none of these, the name stands for the same at each step
abbrev pub local_at : Program → Spot → List ℕ → Option VarId
local_at p spot name = option_map (λ v. v.id) (named name (scope_of (standing_at p spot)))

-- whether what a token spells stands for the same at both steps
abbrev pub same_at : Program → (one other : Spot) → Sort → Bool
same_at p one other (token.named name) = same_found (local_at p one name) (local_at p other name)
same_at p one other (token.numbered value is_unsigned is_long) = true
same_at p one other (token.marked mark) = true

-- whether each token does, at two steps of one function
abbrev pub same_names : Program → (one other : Spot) → List Lexeme → Bool
same_names p one other tokens = (one.function.0 == other.function.0) && list_all (λ t. same_at p one other t.sort) tokens
