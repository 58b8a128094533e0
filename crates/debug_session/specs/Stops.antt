-- What a contract sees of the table of breakpoints and watches.
use Rattle.std.specs.Prelude.{ℕ, List}
use Rattle.debug_answers.specs.declared.stops.NumberedStop.{NumberedStop}

-- the breakpoints and watches in the order of their numbers, and the next number
pub record Table : Type 0 where
  pub items : List NumberedStop
  pub next : ℕ
