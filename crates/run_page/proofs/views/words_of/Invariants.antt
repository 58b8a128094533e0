-- the rows before this one are not of the variable
use Rattle.std.proofs.Common.{◌≡◌, ℕ, ◌<◌, get_or}
use Rattle.run_page.specs.declared.views.Row.{Row}
use Rattle.run_page.proofs.views.words_of.Given as goal

abbrev pub invariant-loop-row : goal.invariant-loop-row
invariant-loop-row l = (k : ℕ) (d : Row) → k < l.row-index → (get_or l.rows k d).variable ≡ l.variable → ⊥
