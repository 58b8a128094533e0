-- Where the steps of a run stand.
use Rattle.std.specs.Prelude.{ℕ, zero, suc, List, [], ◌∷◌, map, Option, Some, None, slice_get, unwrap_or}
use Rattle.gang_model.specs.Types.Tree.{Function, Program}
use Rattle.gang_model.specs.Running.State.{Frame, State}
use Rattle.gang_model.specs.Running.Step.{Stepped, Goes, Fails, Over, step}
use Rattle.gang_model.specs.Debugger.Positions.{lanes_now, line_now, spot_in, spot_now}
use Rattle.gang_model.specs.Texts.Text.{Bytes}
use Rattle.lane_counts.specs.Steps.{Stand}

-- the states at which steps are tried, the first of which came to this: a fault is the last one
abbrev pub tried_at : Stepped → State → (State → List State) → List State
tried_at Over state next = []
tried_at (Fails fault) state next = state ∷ []
tried_at (Goes new) state next = state ∷ next new

-- the states at which a run of a state tries its steps, so many at most
abbrev pub states_tried : Program → (most : ℕ) → State → List State
states_tried p zero state = []
states_tried p (suc most) state = tried_at (step p state) state (states_tried p most)

-- the states whose steps are done, the first of which came to this: a step that faults is not
abbrev pub done_at : Stepped → State → (State → List State) → List State
done_at Over state next = []
done_at (Fails fault) state next = []
done_at (Goes new) state next = state ∷ next new

-- the states of a run whose steps are done, so many at most
abbrev pub states_done : Program → (most : ℕ) → State → List State
states_done p zero state = []
states_done p (suc most) state = done_at (step p state) state (states_done p most)

-- the name of a function, if there is one
abbrev pub name_of : Option Function → Bytes
name_of None = []
name_of (Some f) = f.name

-- the names of the functions of frames
abbrev pub functions_of : Program → List Frame → List Bytes
functions_of p frames = map (λ frame. name_of (slice_get p.functions frame.function)) frames

-- where the step of a state stands
abbrev pub stand_of : Program → State → Stand
stand_of p state = record {
  line = unwrap_or (line_now p state) 0;
  spot = unwrap_or (spot_now p state) (spot_in 0 0);
  functions = functions_of p state.frames;
  lanes = lanes_now state;
}

-- where the steps of a run stand
abbrev pub stands_of : Program → (most : ℕ) → State → List Stand
stands_of p most state = map (stand_of p) (states_tried p most state)
