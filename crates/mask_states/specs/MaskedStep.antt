-- One step of a program whose lanes have numbers: the values are those of the source meaning, and the points say where lanes go on.
use Rattle.std.specs.Prelude.{ℕ, true, List, [], ◌∷◌, ◌++◌, map, replicate, Option, Some, None, slice_get, slice_index_or, Result, Ok, Err, if◌then◌else◌}
use Rattle.gang_types.specs.Lanes.{Lanes}
use Rattle.gang_model.specs.Running.Lanes.{Fault, ◌>>=◌, at, holds}
use Rattle.gang_model.specs.Types.Tree.{StepNumber, Stmt, Call, Function, Program}
use Rattle.gang_model.specs.Running.State.{Store, Frame, State}
use Rattle.gang_model.specs.Running.Rounds.{Turn, rounds}
use Rattle.gang_model.specs.Running.Value.{value}
use Rattle.gang_model.specs.Running.Step.{or_default, labelled, default_of, leave, run, with_store}
use Rattle.gang_model.specs.Debugger.Events.{Event, Step, Poke, Row, start, poked}
use Rattle.mask_states.specs.Points.{Point, Put, Go, Branch, Choose, Begin, Turn as TakeTurn, Enter, points_in}
use Rattle.mask_states.specs.Masked.{Level, Masked, next_in, next_waiting, sent, sent_in, closed, begun, entered_body}

-- a frame without its tasks
abbrev pub untasked_frame : Frame → Frame
untasked_frame frame = record frame { tasks = [] }

-- a state without its tasks
abbrev pub untasked : State → State
untasked state = record state { frames = map untasked_frame state.frames }

-- the points of a program's function, none where there is no such function
abbrev pub points_at : Option Function → List Point
points_at None = []
points_at (Some f) = points_in f

abbrev pub points_for : Program → (function : ℕ) → List Point
points_for p function = points_at (slice_get p.functions function)

-- what a step leads to: a state, and the levels of the frame that did it, behind those of a frame that it entered
pub record Acted : Type 0 where
  pub state : State
  pub levels : List (List Level)

-- the segment of a switch at which a lane with this value enters, if it enters any
abbrev pub segment_of : Stmt → ℕ → Option ℕ
segment_of segments word = or_default (labelled 0 segments word) (default_of 0 segments)

-- where the segment begins; what follows the switch where there is none
abbrev pub chosen : List StepNumber → (next : StepNumber) → Option ℕ → StepNumber
chosen entries next None = next
chosen entries next (Some i) = slice_index_or entries i next

-- the levels of a frame that a call of f by these lanes enters
abbrev pub entered_levels : Option Function → Lanes → List (List Level)
entered_levels None lanes = []
entered_levels (Some f) lanes = (entered_body f lanes ∷ []) ∷ []

-- the next round begins: its lanes go to the body, and its index variables have their words
abbrev pub turn_taken : StepNumber → List Turn → State → Level → List Level → Acted
turn_taken body [] state level below = record { state = state; levels = (level ∷ below) ∷ [] }
turn_taken body (turn ∷ turns) state level below = record {
  state = with_store turn.indices state;
  levels = closed (record level { turns = turns; numbers = sent turn.lanes (λ k. body) level.numbers } ∷ below) ∷ [];
}

-- what a point does for its lanes, in the innermost level and those below
abbrev pub act : Program → StepNumber → Point → Lanes → State → Level → List Level → Result Acted Fault
act p number (Put s next) lanes state level below = do
  after ← run p s lanes state
  Ok (record { state = after; levels = closed (sent_in lanes (λ k. next) level ∷ below) ∷ [] })
act p number (Go next) lanes state level below =
    Ok (record { state = state; levels = closed (sent_in lanes (λ k. next) level ∷ below) ∷ [] })
act p number (Branch test yes' no') lanes state level below = do
  c ← value test lanes state
  Ok (record { state = state; levels = closed (sent_in lanes (λ k. if holds c k then yes' else no') level ∷ below) ∷ [] })
act p number (Choose e segments entries next) lanes state level below = do
  x ← value e lanes state
  Ok (record { state = state; levels = closed (sent_in lanes (λ k. chosen entries next (segment_of segments (at x k))) level ∷ below) ∷ [] })
act p number (Begin form rounds' next) lanes state level below = do
  turns ← rounds form lanes state
  Ok (record { state = state; levels = closed (begun rounds' turns level.numbers ∷ sent_in lanes (λ k. next) level ∷ below) ∷ [] })
act p number (TakeTurn body) lanes state level below = Ok (turn_taken body level.turns state level below)
act p number (Enter n args result_for next) lanes state level below = do
  after ← run p (Call number n args result_for) lanes state
  Ok (record { state = untasked after; levels = entered_levels (slice_get p.functions n) lanes ++ (level ∷ below) ∷ [] })

-- the lanes that wait at a call go on
abbrev pub past_point : Option Point → Level → List Level → List Level
past_point (Some (Enter n args result_for next)) level below = closed (sent_in (next_waiting level) (λ k. next) level ∷ below)
past_point other level below = level ∷ below

abbrev pub past_call : List Point → List Level → List Level
past_call points [] = []
past_call points (level ∷ below) = past_point (slice_get points (next_in level)) level below

-- the levels of the frames below one that is left: the top one's lanes go on past their call
abbrev pub past_calls : Program → List Frame → List (List Level) → List (List Level)
past_calls p [] levels = levels
past_calls p (frame ∷ frames) [] = []
past_calls p (frame ∷ frames) (levels ∷ rest) = past_call (points_for p frame.function) levels ∷ rest

-- how a step ends
pub data MaskedStepped : Type 0 where
  Goes : Masked → MaskedStepped
  Fails : Fault → MaskedStepped
  Over : MaskedStepped

abbrev pub acted : Result Acted Fault → List (List Level) → MaskedStepped
acted (Ok a) rest = Goes (record { state = a.state; levels = a.levels ++ rest })
acted (Err fault) rest = Fails fault

-- the step of a frame at a point; past the last point the frame is left
abbrev pub step_point : Program → Store → List Frame → Frame → Option Point → Level → List Level → List (List Level) → MaskedStepped
step_point p memory frames frame None level below rest =
    Goes (record { state = leave p frame (record { memory = memory; frames = frames }); levels = past_calls p frames rest })
step_point p memory frames frame (Some point) level below rest =
    acted (act p (next_in level) point (next_waiting level) (record { memory = memory; frames = frame ∷ frames }) level below) rest

abbrev pub step_levels : Program → Store → List Frame → List (List Level) → MaskedStepped
step_levels p memory [] levels = Over
step_levels p memory (frame ∷ frames) [] = Over
step_levels p memory (frame ∷ frames) ([] ∷ rest) = Over
step_levels p memory (frame ∷ frames) ((level ∷ below) ∷ rest) =
    step_point p memory frames frame (slice_get (points_for p frame.function) (next_in level)) level below rest

-- one step: the least number of the top frame's innermost level runs
abbrev pub masked_step : Program → Masked → MaskedStepped
masked_step p masked = step_levels p masked.state.memory masked.state.frames masked.levels

-- ---- from the start

-- the first state of a run: that of the source without its tasks, with all lanes at the entry's first step
abbrev pub masked_start : Program → (entry : ℕ) → List Row → (width : ℕ) → Masked
masked_start p entry rows width =
    record { state = untasked (start p entry rows width); levels = entered_levels (slice_get p.functions entry) (replicate width true) }

abbrev pub masked_gone : MaskedStepped → Masked → Masked
masked_gone (Goes masked) old = masked
masked_gone (Fails fault) old = old
masked_gone Over old = old

-- after one event
abbrev pub masked_happen : Program → Event → Masked → Masked
masked_happen p Step masked = masked_gone (masked_step p masked) masked
masked_happen p (Poke what word) masked = record masked { state = poked what word masked.state }

-- after the events, the newest of which comes first
abbrev pub masked_after : Program → Masked → List Event → Masked
masked_after p first [] = first
masked_after p first (event ∷ events) = masked_happen p event (masked_after p first events)
