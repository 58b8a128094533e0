-- A program that goes on to a stop that counts, and writes texts on the way.
use Rattle.std.specs.Prelude.{ℕ, zero, suc, Bool, true, false, List, [], ◌∷◌, Option, Some, None}
use Rattle.gang_model.specs.Debugger.Debugger.{Command, Debugger, Setting, do_command}
use Rattle.debug_session.specs.declared.session.Session.{Session}
use Rattle.conditional_stops.specs.declared.going.Direction.{Direction}
use Rattle.conditional_stops.specs.declared.going.MoveEnd.{MoveEnd}
use Rattle.conditional_stops.specs.declared.going.MoveEnd.TheVariants as end
use Rattle.conditional_stops.specs.Going.{GoesOn, GoesOnce, command_of}
use Rattle.conditional_stops.specs.Tables.{Table}
use Rattle.log_points.specs.declared.going.WroteOn.{WroteOn}
use Rattle.log_points.specs.Points.{Log, Written, no_text, silenced, written_of}
use Rattle.log_points.specs.Writing.{WritesAlong}

-- where a command led that was done so often, each time from where it led before
abbrev pub places : ℕ → Setting → Command → Debugger → List Debugger
places zero s command d = []
places (suc n) s command d = (do_command s command d).next ∷ places n s command (do_command s command d).next

-- how often a move stopped at a breakpoint or watch: at those that were passed, and at the one that counts
abbrev pub stops_of : (passed : ℕ) → MoveEnd → ℕ
stops_of passed (end.Stopped counted) = suc passed
stops_of passed ended = passed

-- A session that stood for a debugger has gone on to a stop that counts, or to what else ended that, and at each place where it stopped
-- those that write a text and count there have written it.
pub record GoesWriting {M : Type 0} (stands : M → Setting → Debugger → Type 0) (s : Setting) (way : Direction) (most : ℕ) (d : Debugger) (logs : List Log) (table log_table : Table) (wrote : WroteOn) (session : Session M) (new log_new : Table) : Type 0 where
  pub goes : GoesOn stands s way most d table wrote.moved session new
  pub writes : WritesAlong s (places (stops_of wrote.moved.passed wrote.moved.end) s (command_of way) d) logs log_table no_text log_new (written_of wrote.written)

-- the same where those that write a text are disabled: none of them stops it
abbrev pub WritesOn : {M : Type 0} → (M → Setting → Debugger → Type 0) → Setting → Direction → (most : ℕ) → Debugger → List Log → (table log_table : Table) → WroteOn → Session M → (new log_new : Table) → Type 0
WritesOn stands s way most d logs table log_table wrote session new log_new = GoesWriting stands s way most d logs (silenced logs table) log_table wrote session new log_new

-- ---- the command once

-- the end of a move of one command, unless it stopped where nothing counts
abbrev pub end_of : MoveEnd → Option MoveEnd
end_of end.MostPassed = None
end_of ended = Some ended

-- whether the command stopped at a breakpoint or a watch
abbrev pub is_at_stop : Option MoveEnd → Bool
is_at_stop None = true
is_at_stop (Some (end.Stopped counted)) = true
is_at_stop (Some ended) = false

abbrev pub stops_once : (is_at_stop : Bool) → ℕ
stops_once true = 1
stops_once false = 0

-- what doing the command once comes to, and the texts of the place where it stopped
pub record WritesOnce {M : Type 0} (stands : M → Setting → Debugger → Type 0) (s : Setting) (command : Command) (d : Debugger) (logs : List Log) (table log_table : Table) (old : Written) (ended : Option MoveEnd) (session : Session M) (new log_new : Table) (written : Written) : Type 0 where
  pub goes : GoesOnce stands s command d table ended session new
  pub writes : WritesAlong s (places (stops_once (is_at_stop ended)) s command d) logs log_table old log_new written
