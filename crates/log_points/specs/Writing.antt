-- The texts that are written at a place.
use Rattle.std.specs.Prelude.{◌≡◌, ℕ, ◌-◌, ◌==◌, ◌&&◌, Bool, true, false, List, [], ◌∷◌, Option, Some, None, is_none, if◌then◌else◌}
use Rattle.std.specs.List.{list_any}
use Rattle.gang_model.specs.Debugger.Debugger.{Debugger, Setting, now, on_line}
use Rattle.gang_model.specs.Debugger.Positions.{line_now}
use Rattle.debug_answers.specs.declared.stops.NumberedStop.{NumberedStop}
use Rattle.debug_answers.specs.declared.stops.Stop.{Stop}
use Rattle.debug_answers.specs.declared.stops.Stop.TheVariants as stop
use Rattle.conditional_stops.specs.declared.judging.Verdict.{Verdict}
use Rattle.conditional_stops.specs.declared.judging.Verdict.TheVariants as verdict
use Rattle.conditional_stops.specs.Tables.{Table, condition_of, count_refusal, passes_of, with_passes}
use Rattle.conditional_stops.specs.Verdicts.{IsJudged}
use Rattle.log_points.specs.Points.{Log, Written}
use Rattle.log_points.specs.Texts.{Adds}

-- whether the breakpoint of a number is on the line where the debugger stands
abbrev pub is_here : Setting → Debugger → (number : ℕ) → Bool
is_here s d number = list_any (λ entry. (entry.0 == number) && on_line (line_now s.program (now s d)) entry.1) d.stops

-- the same of breakpoints as they are given, and a line
abbrev pub is_line : (line : ℕ) → Stop → Bool
is_line line (stop.Line own) = line == own
is_line line (stop.Watch variable at) = false

abbrev pub is_on : (number line : ℕ) → NumberedStop → Bool
is_on number line entry = (entry.number == number) && is_line line entry.stop

abbrev pub is_among : (number line : ℕ) → List NumberedStop → Bool
is_among number line stops = list_any (is_on number line) stops

-- ---- whether it counts

-- so many stops are to be passed, where there is room
abbrev pub put_passes : (number passes : ℕ) → Table → Table
put_passes number passes table = if is_none (count_refusal number passes table) then with_passes number passes table else table

-- one stop more was passed
abbrev pub one_passed : (number : ℕ) → Table → Table
one_passed number table = put_passes number (passes_of number table - 1) table

-- whether no stop is still to be passed
abbrev pub is_reached : (number : ℕ) → Table → Bool
is_reached number table = passes_of number table == 0

-- by what the condition comes to, where there is one: a place counts where it has no value; where it holds, or there is none, the place
-- counts if no stop is still to be passed, and is passed if one is
abbrev pub CountsBy : Option Verdict → (number : ℕ) → Table → (counts : Bool) → (new : Table) → Type 0
CountsBy (Some (verdict.NoValue why)) number table counts new = (counts ≡ true) × (new ≡ table)
CountsBy (Some verdict.Fails) number table counts new = (counts ≡ false) × (new ≡ table)
CountsBy (Some (verdict.Holds lanes)) number table counts new = (counts ≡ is_reached number table) × (new ≡ one_passed number table)
CountsBy None number table counts new = (counts ≡ is_reached number table) × (new ≡ one_passed number table)

-- whether a breakpoint counts where the debugger stands, and the table then
pub record CountsHere (s : Setting) (d : Debugger) (number : ℕ) (table : Table) (counts : Bool) (new : Table) : Type 0 where
  pub told : Option Verdict
  pub judged : IsJudged (condition_of number table) s d told
  pub by : CountsBy told number table counts new

-- ---- what is written

-- what a breakpoint that counts writes, or one that does not
abbrev pub WritesBy : (counts : Bool) → Setting → Debugger → Log → (old new : Written) → Type 0
WritesBy false s d log old new = new ≡ old
WritesBy true s d log old new = Adds s d log.message old new

-- what a breakpoint writes that is here, or not
abbrev pub WritesIf : (is_here : Bool) → Setting → Debugger → Log → (table : Table) → (old : Written) → (new_table : Table) → (new : Written) → Type 0
WritesIf false s d log table old new_table new = (new_table ≡ table) × (new ≡ old)
WritesIf true s d log table old new_table new = (counts : Bool) × CountsHere s d log.number table counts new_table × WritesBy counts s d log old new

abbrev pub WritesOne : Setting → Debugger → Log → (table : Table) → (old : Written) → (new_table : Table) → (new : Written) → Type 0
WritesOne s d log table old new_table new = WritesIf (is_here s d log.number) s d log table old new_table new

-- what all write where the debugger stands, one after another
abbrev pub WritesHere : Setting → Debugger → List Log → (table : Table) → (old : Written) → (new_table : Table) → (new : Written) → Type 0
WritesHere s d [] table old new_table new = (new_table ≡ table) × (new ≡ old)
WritesHere s d (log ∷ logs) table old new_table new =
    (middle_table : Table) × (middle : Written) × WritesOne s d log table old middle_table middle × WritesHere s d logs middle_table middle new_table new

-- the same of places, one after another
abbrev pub WritesAlong : Setting → List Debugger → List Log → (table : Table) → (old : Written) → (new_table : Table) → (new : Written) → Type 0
WritesAlong s [] logs table old new_table new = (new_table ≡ table) × (new ≡ old)
WritesAlong s (d ∷ places) logs table old new_table new =
    (middle_table : Table) × (middle : Written) × WritesHere s d logs table old middle_table middle × WritesAlong s places logs middle_table middle new_table new
