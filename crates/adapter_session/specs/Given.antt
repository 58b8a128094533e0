-- Breakpoints and watches as a session has them.
use Rattle.std.specs.Prelude.{ℕ, Bool, true, false, not, ◌&&◌, List, [], ◌∷◌, map, if◌then◌else◌}
use Rattle.debug_answers.specs.declared.stops.Stop.{Stop}
use Rattle.debug_answers.specs.declared.stops.Stop.TheVariants as stop
use Rattle.debug_answers.specs.declared.stops.NumberedStop.{NumberedStop}
use Rattle.adapter_session.specs.declared.lines.Kind.{Kind}
use Rattle.adapter_session.specs.declared.lines.Kind.TheVariants.{Functions, Lines, Watches}
use Rattle.adapter_session.specs.Requested.{is_in}

-- whether a stop is a breakpoint
abbrev pub is_on_line : Stop → Bool
is_on_line (stop.Line line) = true
is_on_line (stop.Watch variable at) = false

-- whether a stop is of a kind, where the breakpoints of functions have these numbers
abbrev pub is_of : Kind → (functions : List ℕ) → NumberedStop → Bool
is_of Lines functions entry = is_on_line entry.stop && not (is_in functions entry.number)
is_of Functions functions entry = is_on_line entry.stop && is_in functions entry.number
is_of Watches functions entry = not (is_on_line entry.stop)

-- the numbers of the stops of a kind
abbrev pub given_numbers : Kind → (functions : List ℕ) → List NumberedStop → List ℕ
given_numbers kind functions [] = []
given_numbers kind functions (entry ∷ stops) = if is_of kind functions entry then entry.number ∷ given_numbers kind functions stops else given_numbers kind functions stops

-- the numbers of breakpoints and watches
abbrev pub all_numbers : List NumberedStop → List ℕ
all_numbers stops = map (λ entry. entry.number) stops
