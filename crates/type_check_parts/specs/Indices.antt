-- Index variables of which only the first are declared, since memory was refused for the next.
use Rattle.std.specs.Prelude.{◌≡◌, List, ◌++◌, length}
use Rattle.gang_model.specs.Source.Parsed.{ParsedDim}
use Rattle.gang_model.specs.Types.Tree.{Variable}
use Rattle.gang_model.specs.Types.Typing.{Scope}
use Rattle.gang_model.specs.Types.Statements.{index_entries, index_variables}

-- What stood before, and the index variables of the first of some dimensions after it.
pub record FirstDeclared (dims : List ParsedDim) (outer entries : Scope) (before locals : List Variable) : Type 0 where
  pub first : List ParsedDim
  pub later : List ParsedDim
  pub dims_are : dims ≡ first ++ later
  pub entries_are : entries ≡ index_entries (length before) first outer
  pub locals_are : locals ≡ before ++ index_variables (length before) first
