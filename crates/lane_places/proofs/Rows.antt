-- Worked examples of where lanes wait, by computing.
use Rattle.std.proofs.Common.{◌≡◌, ℕ, List, [], ◌∷◌, Option, Some, None, true, false, refl}
use Rattle.gang_types.specs.Lanes.{Lanes}
use Rattle.gang_model.specs.Types.Tree.{Empty, Then, Break, Nothing, Program, StepNumber}
use Rattle.gang_model.specs.Debugger.Positions.{spot_in}
use Rattle.gang_model.specs.Running.State.{Doing, Run, Round, RoundEnd, Frame, State, Task}
use Rattle.lane_places.specs.Places.{lane_spot_at, number_ahead}

abbrev task : Doing → Lanes → Task
task doing lanes = record { doing = doing; lanes = lanes }

-- ---- tasks of four lanes: the first does a branch, the second the other one, the third what follows both, and the fourth has returned

abbrev parted : List Task
parted = task (Run (Break 3)) (true ∷ false ∷ false ∷ false ∷ [])
    ∷ task (Run (Then Empty (Break 5))) (false ∷ true ∷ false ∷ false ∷ [])
    ∷ task (Run (Break 7)) (true ∷ true ∷ true ∷ false ∷ []) ∷ []

the_branch_of_the_first : number_ahead None 0 parted ≡ 3
the_branch_of_the_first = refl

the_other_branch_begins_behind_what_is_no_step : number_ahead None 1 parted ≡ 5
the_other_branch_begins_behind_what_is_no_step = refl

what_follows_both : number_ahead None 2 parted ≡ 7
what_follows_both = refl

the_closing_brace : number_ahead None 3 parted ≡ 0
the_closing_brace = refl

-- ---- a round of a foreach form by the first lane, with a round to come by the first two, and what follows the form by all

abbrev rounds : (last : Lanes) → List Task
rounds last = task (Run (Break 3)) (true ∷ false ∷ false ∷ []) ∷ task RoundEnd (true ∷ false ∷ false ∷ [])
    ∷ task (Round 4 [] Empty) last ∷ task (Run (Break 7)) (true ∷ true ∷ true ∷ []) ∷ []

the_step_of_the_round : number_ahead None 0 (rounds (true ∷ true ∷ false ∷ [])) ≡ 3
the_step_of_the_round = refl

the_round_to_come : number_ahead None 1 (rounds (true ∷ true ∷ false ∷ [])) ≡ 4
the_round_to_come = refl

a_lane_without_a_part_waits_for_it_too : number_ahead None 2 (rounds (true ∷ true ∷ false ∷ [])) ≡ 4
a_lane_without_a_part_waits_for_it_too = refl

a_round_of_no_lane_is_none : number_ahead None 2 (rounds (false ∷ false ∷ false ∷ [])) ≡ 7
a_round_of_no_lane_is_none = refl

-- ---- frames

abbrev frame : (function : ℕ) → Option StepNumber → Lanes → List Task → Frame
frame function call lanes tasks = record { function = function; lanes = lanes; call = call; result_for = Nothing; views = []; vars = []; result = []; tasks = tasks }

-- the second lane has called function 1 in a step 5 of the entry, where the first waits for step 7
abbrev called : State
called = record {
  memory = [];
  frames = frame 1 (Some 5) (false ∷ true ∷ []) (task (Run (Break 2)) (false ∷ true ∷ []) ∷ [])
      ∷ frame 0 None (true ∷ true ∷ []) (task (Run (Break 7)) (true ∷ true ∷ []) ∷ []) ∷ [];
}

abbrev program : Program
program = record { functions = []; globals = [] }

in_the_called_function : lane_spot_at program 2 1 called ≡ Some (spot_in 1 2)
in_the_called_function = refl

deeper_is_the_top_frame : lane_spot_at program 9 1 called ≡ Some (spot_in 1 2)
deeper_is_the_top_frame = refl

at_its_call : lane_spot_at program 1 1 called ≡ Some (spot_in 0 5)
at_its_call = refl

behind_the_call_of_others : lane_spot_at program 1 0 called ≡ Some (spot_in 0 7)
behind_the_call_of_others = refl

no_frame_at_depth_0 : lane_spot_at program 0 0 called ≡ None
no_frame_at_depth_0 = refl
