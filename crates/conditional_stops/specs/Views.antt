-- The table that conditions and counts are kept as, and the numbers of what is disabled.
use Rattle.std.specs.Prelude.{ℕ, List, map}
use Rattle.conditional_stops.specs.Tables.{Table}
use Rattle.conditional_stops.specs.declared.table.Condition.{Condition}
use Rattle.conditional_stops.specs.declared.table.Count.{Count}
use Rattle.conditional_stops.specs.declared.table.Conditions.{Conditions}

-- a condition by its number
abbrev pub condition_view : Condition → ℕ × List ℕ
condition_view condition = (condition.number, condition.text.items)

-- a count by its number
abbrev pub count_view : Count → ℕ × ℕ
count_view count = (count.number, count.left)

-- the table of the definitions
abbrev pub table_of : Conditions → Table
table_of c = record { conditions = map condition_view c.conditions.items; counts = map count_view c.counts.items; disabled = c.disabled.items }
