-- Rows of an input, as the definitions have them.
use Rattle.std.specs.Prelude.{◌≡◌, ℕ, List, map}
use Rattle.gang_types.specs.declared.places.VarId.{VarId}
use Rattle.gang_model.specs.Debugger.Events.{Row}
use Rattle.input_rows.specs.declared.row.InputRow.{InputRow}

-- a row by its variable's number, and its words
abbrev pub numbered : Row → VarId × List ℕ
numbered row = (row.variable.id, row.words)

-- an input row by its variable's number, and its words
abbrev pub row_view : InputRow → VarId × List ℕ
row_view row = (row.var, row.values.items)

-- input rows are these rows, one by one
abbrev pub AreRows : List Row → List InputRow → Type 0
AreRows rows inputs = map numbered rows ≡ map row_view inputs
