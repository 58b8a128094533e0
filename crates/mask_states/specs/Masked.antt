-- A running program with a number for each lane in place of lists of tasks: the step that the lane waits for. The least number runs
-- next, by the lanes that wait for it (ISPC User's Guide, "Control Flow"; the numbers are a choice of this project).
use Rattle.std.specs.Prelude.{ℕ, Bool, true, false, not, ◌==◌, ◌&&◌, min, List, [], ◌∷◌, map, filter, Option, Some, None, if◌then◌else◌}
use Rattle.gang_types.specs.declared.places.Spot.{Spot}
use Rattle.gang_types.specs.Lanes.{Lanes, no_lane}
use Rattle.gang_model.specs.Types.Tree.{StepNumber, Function}
use Rattle.gang_model.specs.Running.Lanes.{each, merged}
use Rattle.gang_model.specs.Running.State.{Frame, State}
use Rattle.gang_model.specs.Running.Rounds.{Turn}
use Rattle.gang_model.specs.Debugger.Positions.{spot_in}
use Rattle.mask_states.specs.Points.{entry_of, closing_number}

-- a function's body, or a foreach form under way: the number above all its steps, its rounds still to come, and what each lane of
-- the gang waits for in it. The rounds of a form have the number above its body's steps; so has a function's closing brace.
pub record Level : Type 0 where
  pub end : StepNumber
  pub turns : List Turn
  pub numbers : List StepNumber

-- a state in which no frame has a task, and of each frame its levels: the innermost form under way first, the function's body last
pub record Masked : Type 0 where
  pub state : State
  pub levels : List (List Level)

-- ---- numbers

-- the least of the numbers, at most this one
abbrev pub least : StepNumber → List StepNumber → StepNumber
least end [] = end
least end (n ∷ numbers) = min n (least end numbers)

-- the lanes that wait for a step
abbrev pub waiting_for : StepNumber → List StepNumber → Lanes
waiting_for number numbers = map (λ n. n == number) numbers

-- the lanes of the set wait for another step now, which may be another one for each
abbrev pub sent : Lanes → (ℕ → StepNumber) → List StepNumber → List StepNumber
sent lanes target numbers = merged lanes (each lanes target) numbers

-- ---- levels

-- the number of the step that comes next in a level
abbrev pub next_in : Level → StepNumber
next_in level = least level.end level.numbers

-- the lanes that wait for it
abbrev pub next_waiting : Level → Lanes
next_waiting level = waiting_for (next_in level) level.numbers

-- the level with lanes sent on
abbrev pub sent_in : Lanes → (ℕ → StepNumber) → Level → Level
sent_in lanes target level = record level { numbers = sent lanes target level.numbers }

-- whether no round is to come
abbrev pub no_turn : List Turn → Bool
no_turn [] = true
no_turn (turn ∷ turns) = false

-- whether a form has nothing more to do
abbrev pub is_over : Level → Bool
is_over level = no_turn level.turns && (next_in level == level.end)

-- the levels without the forms that are over, down to the function's body
abbrev pub closed : List Level → List Level
closed [] = []
closed (level ∷ []) = level ∷ []
closed (level ∷ next ∷ below) = if is_over level then closed (next ∷ below) else level ∷ next ∷ below

-- the rounds in which a lane takes part
abbrev pub turns_taken : List Turn → List Turn
turns_taken turns = filter (λ turn. not (no_lane turn.lanes)) turns

-- a form that begins, of a gang with as many lanes as there are numbers
abbrev pub begun : StepNumber → List Turn → List StepNumber → Level
begun rounds turns numbers = record { end = rounds; turns = turns_taken turns; numbers = map (λ n. rounds) numbers }

-- a function's body that begins for lanes; the others wait for its closing brace
abbrev pub entered_body : Function → Lanes → Level
entered_body f lanes = record {
  end = closing_number f;
  turns = [];
  numbers = sent lanes (λ k. entry_of f.body (closing_number f)) (map (λ b. closing_number f) lanes);
}

-- ---- what a debugger shows

-- the lanes of the step that comes next in a frame: those of the round that begins, those of the call at its closing brace
abbrev pub at_end : Frame → List Turn → Lanes
at_end frame [] = frame.lanes
at_end frame (turn ∷ turns) = turn.lanes

abbrev pub level_lanes : Frame → Level → Lanes
level_lanes frame level = if next_in level == level.end then at_end frame level.turns else next_waiting level

-- where the top frame stands
abbrev pub spot_of_levels : Frame → List Level → Option Spot
spot_of_levels frame [] = None
spot_of_levels frame (level ∷ below) = Some (spot_in frame.function (next_in level))

abbrev pub top_spot : List Frame → List (List Level) → Option Spot
top_spot [] levels = None
top_spot (frame ∷ frames) [] = None
top_spot (frame ∷ frames) (levels ∷ rest) = spot_of_levels frame levels

abbrev pub masked_spot : Masked → Option Spot
masked_spot masked = top_spot masked.state.frames masked.levels

-- the lanes of the step that comes next
abbrev pub lanes_of_levels : Frame → List Level → Lanes
lanes_of_levels frame [] = []
lanes_of_levels frame (level ∷ below) = level_lanes frame level

abbrev pub top_lanes : List Frame → List (List Level) → Lanes
top_lanes [] levels = []
top_lanes (frame ∷ frames) [] = []
top_lanes (frame ∷ frames) (levels ∷ rest) = lanes_of_levels frame levels

abbrev pub masked_lanes : Masked → Lanes
masked_lanes masked = top_lanes masked.state.frames masked.levels
