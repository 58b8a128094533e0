-- A program that goes on by single steps to a stop that counts, where it is watched what frames show.
use Rattle.std.specs.Prelude.{◌≡◌, ◌⊎◌, ℕ, zero, suc, ◌<◌, ◌==◌, Bool, true, false, List, ◌++◌, replicate, Option, Some, None, if◌then◌else◌}
use Rattle.std.specs.List.{list_any}
use Rattle.gang_model.specs.Debugger.Debugger as model
use Rattle.gang_model.specs.Debugger.Debugger.{Command, Debugger, DoReverseStep, DoStep, Here, Setting, depth, do_command, has_ended, kept_steps, now}
use Rattle.debug_answers.specs.declared.answer.Answer.{Answer}
use Rattle.debug_answers.specs.declared.answer.Answer.TheVariants as answer
use Rattle.debug_answers.specs.declared.answer.Refusal.TheVariants as refusal
use Rattle.debug_answers.specs.Meanings.{Means}
use Rattle.debug_session.specs.declared.session.Session.{Session}
use Rattle.debug_session.specs.Sessions.{StandsFor}
use Rattle.command_lists.specs.Lists.{HasDone}
use Rattle.conditional_stops.specs.declared.going.Direction.{Direction}
use Rattle.conditional_stops.specs.declared.going.Direction.TheVariants as direction
use Rattle.conditional_stops.specs.declared.going.MoveEnd.{MoveEnd}
use Rattle.conditional_stops.specs.declared.going.MoveEnd.TheVariants as end
use Rattle.conditional_stops.specs.declared.going.Moved.{Moved}
use Rattle.conditional_stops.specs.declared.watches.Watch.{Watch}
use Rattle.conditional_stops.specs.Going.{times}
use Rattle.conditional_stops.specs.Reasons.{Asks, reasons}
use Rattle.conditional_stops.specs.declared.reasons.Reason.{Reason}
use Rattle.conditional_stops.specs.Tables.{Table}
use Rattle.conditional_stops.specs.Watches.{changed_frames, is_away}

-- one step
abbrev pub step_of : Direction → Command
step_of direction.Forward = DoStep 1
step_of direction.Backward = DoReverseStep 1

-- whether a step was made
abbrev pub is_here : model.Answer → Bool
is_here Here = true
is_here other = false

-- the same of what the debugger answered
abbrev pub tells_here : Answer → Bool
tells_here answer.Here = true
tells_here other = false

-- all at which a step stops: the breakpoints and watches of the debugger, and then the watches of frames
abbrev pub reasons_on : Direction → Setting → (began d : Debugger) → List Watch → List Reason
reasons_on way s began d watches = reasons s began d ++ changed_frames way s began d watches

-- the answer where no step is left: the program has ended, or the history goes back no further
abbrev pub no_step : Direction → Setting → Debugger → Option Answer
no_step direction.Forward s d = if has_ended (now s d) then Some answer.Here else None
no_step direction.Backward s d = if kept_steps d == 0 then Some answer.HistoryEnd else None

-- the answer after a step that ends a move though nothing counts: the frame of a watch is not there, or no step is left
abbrev pub last_answer : Direction → Setting → Debugger → List Watch → Option Answer
last_answer way s d watches = if list_any (is_away (depth (now s d))) watches then Some answer.Here else no_step way s d

-- a step is made, nothing counts, and the next one can be made; the table is this one then
pub record PassesStep (s : Setting) (way : Direction) (watches : List Watch) (d : Debugger) (table new : Table) : Type 0 where
  pub made : is_here (do_command s (step_of way) d).answer ≡ true
  pub none : Asks s (do_command s (step_of way) d).next (reasons_on way s d (do_command s (step_of way) d).next watches) table None new
  pub more : last_answer way s (do_command s (step_of way) d).next watches ≡ None

-- so many such steps, one after another, lead from a debugger and a table to these
abbrev pub PassesSteps : ℕ → Setting → Direction → List Watch → (d : Debugger) → Table → (at : Debugger) → (new : Table) → Type 0
PassesSteps zero s way watches d table at new = (at ≡ d) × (new ≡ table)
PassesSteps (suc n) s way watches d table at new =
    (middle : Table) × PassesStep s way watches d table middle × PassesSteps n s way watches (do_command s (step_of way) d).next middle at new

-- a step was made, and there was no memory to see what is watched there: nothing was asked, and the table stays
abbrev pub SeesNothing : Setting → Direction → (d : Debugger) → Table → Answer → (new : Table) → Type 0
SeesNothing s way d table given new = (is_here (do_command s (step_of way) d).answer ≡ true) × (given ≡ answer.Refused refusal.Memory) × (new ≡ table)

-- a step was answered so: it was not made, and the table stays; or it was made, nothing counts, and it is the last one; or nothing could be seen
abbrev pub AnswersStep : Setting → Direction → List Watch → (d : Debugger) → Table → Answer → (new : Table) → Type 0
AnswersStep s way watches d table given new =
    ((is_here (do_command s (step_of way) d).answer ≡ false) × Means s (do_command s (step_of way) d).next given (do_command s (step_of way) d).answer × (new ≡ table))
    ⊎ (((is_here (do_command s (step_of way) d).answer ≡ true)
    × Asks s (do_command s (step_of way) d).next (reasons_on way s d (do_command s (step_of way) d).next watches) table None new
    × (last_answer way s (do_command s (step_of way) d).next watches ≡ Some given))
    ⊎ SeesNothing s way d table given new)

-- the step that ended a move: it was made, and this is the first that counts; or it was answered otherwise
abbrev pub EndsStep : Setting → Direction → List Watch → (d : Debugger) → Table → MoveEnd → (new : Table) → Type 0
EndsStep s way watches d table (end.Stopped counted) new =
    (is_here (do_command s (step_of way) d).answer ≡ true)
    × Asks s (do_command s (step_of way) d).next (reasons_on way s d (do_command s (step_of way) d).next watches) table (Some counted) new
EndsStep s way watches d table (end.Answered given) new = AnswersStep s way watches d table given new
EndsStep s way watches d table end.MostPassed new = ⊥
EndsStep s way watches d table end.NoMemory new = ⊥

-- what ends a move behind a step that was made, from one debugger to another: the first that counts, or that it is the last one
abbrev pub EndsHere : Setting → Direction → List Watch → (began d : Debugger) → Table → Option MoveEnd → (new : Table) → Type 0
EndsHere s way watches began d table None new = Asks s d (reasons_on way s began d watches) table None new × (last_answer way s d watches ≡ None)
EndsHere s way watches began d table (Some (end.Stopped counted)) new = Asks s d (reasons_on way s began d watches) table (Some counted) new
EndsHere s way watches began d table (Some (end.Answered given)) new = Asks s d (reasons_on way s began d watches) table None new × (last_answer way s d watches ≡ Some given)
EndsHere s way watches began d table ended new = ⊥

-- what ended a move; or there was no memory to note what is watched, no step was made, and nothing changed
abbrev pub EndsStepBy : {M : Type 0} → (M → Setting → Debugger → Type 0) → Setting → Direction → List Watch → (d : Debugger) → Table → MoveEnd → Session M → (new : Table) → Type 0
EndsStepBy stands s way watches d table end.NoMemory session new = StandsFor stands session s d × (new ≡ table)
EndsStepBy stands s way watches d table ended session new = StandsFor stands session s (do_command s (step_of way) d).next × EndsStep s way watches d table ended new

-- what one step comes to: it ended the move, or the next one can be made
abbrev pub StepsOnce : {M : Type 0} → (M → Setting → Debugger → Type 0) → Setting → Direction → List Watch → (d : Debugger) → Table → Option MoveEnd → Session M → (new : Table) → Type 0
StepsOnce stands s way watches d table None session new = StandsFor stands session s (do_command s (step_of way) d).next × PassesStep s way watches d table new
StepsOnce stands s way watches d table (Some ended) session new = EndsStepBy stands s way watches d table ended session new

-- what ends a move for which there was no memory to note what is watched: no step was to be made, or there was no memory
abbrev pub end_without_memory : (most : ℕ) → MoveEnd
end_without_memory zero = end.MostPassed
end_without_memory (suc n) = end.NoMemory

-- the same of a move: so many steps as can be were made, or fewer, and then the move was ended
abbrev pub EndsWalk : {M : Type 0} → (M → Setting → Debugger → Type 0) → Setting → Direction → List Watch → (most passed : ℕ) → (at : Debugger) → Table → MoveEnd → Session M → (new : Table) → Type 0
EndsWalk stands s way watches most passed at table end.MostPassed session new = (passed ≡ most) × StandsFor stands session s at × (new ≡ table)
EndsWalk stands s way watches most passed at table ended session new = (passed < most) × EndsStepBy stands s way watches at table ended session new

-- A session that stood for a debugger has gone on by single steps, with this table before and that one then: it has made the steps and done
-- nothing else; after each but the last nothing counts, and the last one ended the move as is told.
pub record WalksOn {M : Type 0} (stands : M → Setting → Debugger → Type 0) (s : Setting) (way : Direction) (watches : List Watch) (most : ℕ) (d : Debugger) (table : Table) (moved : Moved) (session : Session M) (new : Table) : Type 0 where
  pub at : Debugger
  pub before : Table
  pub passes : PassesSteps moved.passed s way watches d table at before
  pub ends : EndsWalk stands s way watches most moved.passed at before moved.end session new
  pub done : HasDone stands s (replicate (times moved.passed moved.end) (step_of way)) d session
