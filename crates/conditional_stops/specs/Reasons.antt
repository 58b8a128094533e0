-- Breakpoints and watches at which a command stopped, and which of them count.
use Rattle.std.specs.Prelude.{◌≡◌, ℕ, ◌-◌, ◌==◌, Bool, true, false, List, [], ◌∷◌, ◌++◌, filter, map, Option, Some, None, if◌then◌else◌}
use Rattle.gang_model.specs.Debugger.Debugger.{Debugger, Setting, Stop, differs, now, on_line}
use Rattle.gang_model.specs.Debugger.Positions.{line_now}
use Rattle.conditional_stops.specs.declared.judging.Verdict.{Verdict}
use Rattle.conditional_stops.specs.declared.judging.Verdict.TheVariants as verdict
use Rattle.conditional_stops.specs.declared.reasons.CountedStop.{CountedStop}
use Rattle.conditional_stops.specs.declared.reasons.Reason.{Reason}
use Rattle.conditional_stops.specs.declared.reasons.Reason.TheVariants as reason
use Rattle.conditional_stops.specs.declared.asking.Taking.{Taking}
use Rattle.conditional_stops.specs.declared.asking.Taking.TheVariants as taking
use Rattle.conditional_stops.specs.Tables.{Table, asked_condition, is_disabled, passes_of, with_passes}
use Rattle.conditional_stops.specs.Verdicts.{IsJudged}

-- the number of a breakpoint or watch
abbrev pub number_of : Reason → ℕ
number_of (reason.Breakpoint n) = n
number_of (reason.Watch n) = n

-- the breakpoints on the line where the debugger stands, in the order of their numbers
abbrev pub breakpoints_here : Setting → Debugger → List (ℕ × Stop) → List Reason
breakpoints_here s d stops = map (λ entry. reason.Breakpoint entry.0) (filter (λ entry. on_line (line_now s.program (now s d)) entry.1) stops)

-- the watches that show another value than where the command began, in the order of their numbers
abbrev pub changed_watches : Setting → (began d : Debugger) → List (ℕ × Stop) → List Reason
changed_watches s began d stops = map (λ entry. reason.Watch entry.0) (filter (λ entry. differs (now s began) (now s d) entry.1) stops)

-- all at which a command stopped that began there
abbrev pub reasons : Setting → (began d : Debugger) → List Reason
reasons s began d = breakpoints_here s d d.stops ++ changed_watches s began d d.stops

-- ---- which of them count

-- a stop that is still to be passed uses the count, any other counts
abbrev pub taken_by : (passes : ℕ) → Taking
taken_by passes = if passes == 0 then taking.Counts else taking.Passes

-- what a breakpoint or watch makes of a stop, by how many are still to be passed and by what its condition comes to; where that has no value, the stop counts
abbrev pub taking_of : (passes : ℕ) → Option Verdict → Taking
taking_of passes None = taken_by passes
taking_of passes (Some (verdict.Holds lanes)) = taken_by passes
taking_of passes (Some verdict.Fails) = taking.Fails
taking_of passes (Some (verdict.NoValue why)) = taking.Counts

-- the table then: a count goes down by one where it was used
abbrev pub table_after : Taking → ℕ → Table → Table
table_after taking.Counts number table = table
table_after taking.Passes number table = with_passes number (passes_of number table - 1) table
table_after taking.Fails number table = table

-- the stop, if it counts
abbrev pub counted_by : Taking → Reason → Option Verdict → Option CountedStop
counted_by taking.Counts asked told = Some (record { reason = asked; verdict = told })
counted_by taking.Passes asked told = None
counted_by taking.Fails asked told = None

-- the same of one that may be disabled: then no stop counts, and none is passed
abbrev pub taking_by : (disabled : Bool) → (passes : ℕ) → Option Verdict → Taking
taking_by true passes told = taking.Fails
taking_by false passes told = taking_of passes told

-- what a breakpoint or watch makes of a stop, by the table
abbrev pub taken : Table → Reason → Option Verdict → Taking
taken table asked told = taking_by (is_disabled (number_of asked) table) (passes_of (number_of asked) table) told

-- a breakpoint or watch is asked where the debugger stands: what its condition comes to, whether the stop counts by that, and the table then
pub record AsksOne (s : Setting) (d : Debugger) (asked : Reason) (table : Table) (counted : Option CountedStop) (new : Table) : Type 0 where
  pub told : Option Verdict
  pub judged : IsJudged (asked_condition (number_of asked) table) s d told
  pub counts : counted ≡ counted_by (taken table asked told) asked told
  pub table_is : new ≡ table_after (taken table asked told) (number_of asked) table

-- the first of two, if it is there
abbrev pub first_of : Option CountedStop → Option CountedStop → Option CountedStop
first_of None later = later
first_of (Some counted) later = Some counted

-- all are asked, one after another: the first that counts, if one does, and the table then
abbrev pub Asks : Setting → Debugger → List Reason → Table → (first : Option CountedStop) → (new : Table) → Type 0
Asks s d [] table first new = (first ≡ None) × (new ≡ table)
Asks s d (asked ∷ others) table first new =
    (counted : Option CountedStop) × (middle : Table) × (later : Option CountedStop) × AsksOne s d asked table counted middle × Asks s d others middle later new × (first ≡ first_of counted later)
