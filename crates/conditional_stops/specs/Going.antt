-- A program that goes on to a stop that counts.
use Rattle.std.specs.Prelude.{◌≡◌, ℕ, zero, suc, ◌<◌, Bool, true, false, replicate, Option, Some, None}
use Rattle.std.specs.List.{list_any}
use Rattle.gang_model.specs.Debugger.Debugger as model
use Rattle.gang_model.specs.Debugger.Debugger.{AtBreakpoint, AtWatch, Command, Debugger, DoContinue, DoReverseContinue, Setting, do_command}
use Rattle.debug_answers.specs.declared.answer.Answer.{Answer}
use Rattle.debug_answers.specs.declared.answer.Answer.TheVariants as answer
use Rattle.debug_answers.specs.declared.answer.Refusal.TheVariants as refusal
use Rattle.debug_answers.specs.Meanings.{Means}
use Rattle.debug_session.specs.declared.session.Session.{Session}
use Rattle.debug_session.specs.Sessions.{StandsFor}
use Rattle.command_lists.specs.Lists.{HasDone}
use Rattle.conditional_stops.specs.declared.going.Direction.{Direction}
use Rattle.conditional_stops.specs.declared.going.Direction.TheVariants as direction
use Rattle.conditional_stops.specs.declared.going.MoveEnd.{MoveEnd}
use Rattle.conditional_stops.specs.declared.going.MoveEnd.TheVariants as end
use Rattle.conditional_stops.specs.declared.going.Moved.{Moved}
use Rattle.conditional_stops.specs.declared.reasons.CountedStop.{CountedStop}
use Rattle.conditional_stops.specs.declared.reasons.Reason.{Reason}
use Rattle.conditional_stops.specs.declared.reasons.Reason.TheVariants as reason
use Rattle.conditional_stops.specs.Reasons.{Asks, reasons}
use Rattle.conditional_stops.specs.Tables.{Table}
use Rattle.conditional_stops.specs.Watching.{is_watch}

-- the command that goes on
abbrev pub command_of : Direction → Command
command_of direction.Forward = DoContinue
command_of direction.Backward = DoReverseContinue

-- whether a command stopped at a breakpoint or a watch
abbrev pub is_stop : model.Answer → Bool
is_stop (AtBreakpoint n) = true
is_stop (AtWatch n) = true
is_stop other = false

-- the same of what the debugger answered
abbrev pub tells_stop : Answer → Bool
tells_stop (answer.AtBreakpoint n) = true
tells_stop (answer.AtWatch n) = true
tells_stop other = false

-- the answer of the debugger for a breakpoint or watch
abbrev pub answer_at : Reason → Answer
answer_at (reason.Breakpoint n) = answer.AtBreakpoint n
answer_at (reason.Watch n) = answer.AtWatch n

-- the answer of the debugger that tells what ended a move
abbrev pub answer_of : MoveEnd → Answer
answer_of (end.Stopped counted) = answer_at counted.reason
answer_of (end.Answered given) = given
answer_of end.MostPassed = answer.StepLimit
answer_of end.NoMemory = answer.Refused refusal.Memory

-- the end of a move at a stop, if it counts
abbrev pub end_at : Option CountedStop → Option MoveEnd
end_at None = None
end_at (Some counted) = Some (end.Stopped counted)

-- the command stops where nothing counts, and the table is this one then
pub record PassesOne (s : Setting) (command : Command) (d : Debugger) (table new : Table) : Type 0 where
  pub stops : is_stop (do_command s command d).answer ≡ true
  pub none : Asks s (do_command s command d).next (reasons s d (do_command s command d).next) table None new

-- from a debugger and a table the command so often stops where nothing counts, one time after another, and leads to these
abbrev pub Passes : ℕ → Setting → Command → (d : Debugger) → Table → (at : Debugger) → (new : Table) → Type 0
Passes zero s command d table at new = (at ≡ d) × (new ≡ table)
Passes (suc n) s command d table at new = (middle : Table) × PassesOne s command d table middle × Passes n s command (do_command s command d).next middle at new

-- the command was done once more, and ended the move: it stopped where this is the first that counts, or was answered otherwise and the table stays
abbrev pub Ends : Setting → Command → (d : Debugger) → Table → MoveEnd → (new : Table) → Type 0
Ends s command d table (end.Stopped counted) new =
    (is_stop (do_command s command d).answer ≡ true) × Asks s (do_command s command d).next (reasons s d (do_command s command d).next) table (Some counted) new
Ends s command d table (end.Answered given) new =
    (is_stop (do_command s command d).answer ≡ false) × Means s (do_command s command d).next given (do_command s command d).answer × (new ≡ table)
Ends s command d table end.MostPassed new = ⊥
Ends s command d table end.NoMemory new = ⊥

-- what ended a move, from the debugger and the table where nothing counted before; or there was no memory to note what the watches show,
-- the command was not done once more, and nothing changed
abbrev pub EndsBy : {M : Type 0} → (M → Setting → Debugger → Type 0) → Setting → Command → (d : Debugger) → Table → MoveEnd → Session M → (new : Table) → Type 0
EndsBy stands s command d table end.NoMemory session new = StandsFor stands session s d × (list_any is_watch session.stops.items ≡ true) × (new ≡ table)
EndsBy stands s command d table ended session new = StandsFor stands session s (do_command s command d).next × Ends s command d table ended new

-- what doing the command once comes to: it ended the move, or stopped where nothing counts
abbrev pub GoesOnce : {M : Type 0} → (M → Setting → Debugger → Type 0) → Setting → Command → (d : Debugger) → Table → Option MoveEnd → Session M → (new : Table) → Type 0
GoesOnce stands s command d table None session new = StandsFor stands session s (do_command s command d).next × PassesOne s command d table new
GoesOnce stands s command d table (Some ended) session new = EndsBy stands s command d table ended session new

-- the same of a move: so often as can be the command stopped where nothing counts, or less often, and then the move was ended
abbrev pub EndsMove : {M : Type 0} → (M → Setting → Debugger → Type 0) → Setting → Command → (most passed : ℕ) → (at : Debugger) → Table → MoveEnd → Session M → (new : Table) → Type 0
EndsMove stands s command most passed at table end.MostPassed session new = (passed ≡ most) × StandsFor stands session s at × (new ≡ table)
EndsMove stands s command most passed at table ended session new = (passed < most) × EndsBy stands s command at table ended session new

-- how often the command was done
abbrev pub times : (passed : ℕ) → MoveEnd → ℕ
times passed (end.Stopped counted) = suc passed
times passed (end.Answered given) = suc passed
times passed end.MostPassed = passed
times passed end.NoMemory = passed

-- A session that stood for a debugger has gone on, with this table before and that one then: it has done the command some times and nothing else;
-- each time but the last it stopped where nothing counts, and the last time that ended the move which is told.
pub record GoesOn {M : Type 0} (stands : M → Setting → Debugger → Type 0) (s : Setting) (way : Direction) (most : ℕ) (d : Debugger) (table : Table) (moved : Moved) (session : Session M) (new : Table) : Type 0 where
  pub at : Debugger
  pub before : Table
  pub passes : Passes moved.passed s (command_of way) d table at before
  pub ends : EndsMove stands s (command_of way) most moved.passed at before moved.end session new
  pub done : HasDone stands s (replicate (times moved.passed moved.end) (command_of way)) d session
