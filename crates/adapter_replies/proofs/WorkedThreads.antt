-- Worked rows of lanes as threads.
use Rattle.std.proofs.Common.{◌≡◌, refl, ℕ, true, false, List, [], ◌∷◌, Some, None, codes}
use Rattle.std.specs.Fmt.{digits}
use Rattle.std.specs.Prelude.{Option}
use Rattle.gang_types.specs.declared.faults.FaultName.{FaultName}
use Rattle.gang_types.specs.declared.types.IntType.TheVariants.{Int32}
use Rattle.gang_types.specs.declared.types.Rate.TheVariants.{Uniform}
use Rattle.gang_types.specs.Lanes.{Lanes}
use Rattle.gang_model.specs.Types.Tree.{Break, Empty, Function, Nothing, Program, Standing, StepNumber}
use Rattle.gang_model.specs.Running.State.{Frame, Round, Run, State, Task}
use Rattle.adapter_requests.specs.declared.reply.StopReason.TheVariants as reason
use Rattle.adapter_replies.specs.declared.threads.Threads.TheVariants as threads
use Rattle.adapter_replies.specs.Frames.{ToldFrame}
use Rattle.adapter_replies.specs.Threads.{is_in, lane_frames, lane_of, lane_threads, own_frame, stop_thread}

-- ---- threads

two_wait : lane_threads (false ∷ true ∷ false ∷ true ∷ []) 4
    ≡ (1, codes "lane 0 (waits)") ∷ (2, codes "lane 1") ∷ (3, codes "lane 2 (waits)") ∷ (4, codes "lane 3") ∷ []
unfolding digits
two_wait = refl

-- once the program has ended none waits
at_the_end : lane_threads [] 2 ≡ (1, codes "lane 0") ∷ (2, codes "lane 1") ∷ []
unfolding digits
at_the_end = refl

last_lane : lane_of 4 (Some 4) ≡ Some 3
last_lane = refl

no_lane_past_the_last : lane_of 4 (Some 5) ≡ None
no_lane_past_the_last = refl

no_lane_of_thread_0 : lane_of 4 (Some 0) ≡ None
no_lane_of_thread_0 = refl

-- ---- the frames of a lane

-- where the lanes 1 and 3 of four have made a call, lane 1 is in its frame, and lane 2 is not
of_a_caller : (state : State) (inner entry : Frame)
    → is_in (record state { frames = record inner { call = Some 5; lanes = false ∷ true ∷ false ∷ true ∷ [] } ∷ entry ∷ [] }) 2 1 ≡ true
of_a_caller state inner entry = refl

of_another : (state : State) (inner entry : Frame)
    → is_in (record state { frames = record inner { call = Some 5; lanes = false ∷ true ∷ false ∷ true ∷ [] } ∷ entry ∷ [] }) 2 2 ≡ false
of_another state inner entry = refl

-- each lane is in the entry's frame
of_the_entry : (state : State) (lane : ℕ) → is_in state 1 lane ≡ true
of_the_entry state lane = refl

-- ---- where a lane waits

-- a program of one function, whose steps 0, 1 and 2 stand on the lines 3, 5 and 7, and whose closing brace has the number 3
abbrev standing : (line column : ℕ) → Standing
standing line column = record { place = record { line = line; col = column }; scope = [] }

abbrev function : Function
function = record {
  name = codes "go";
  result = Uniform;
  result_type = Int32;
  body = Empty;
  standings = standing 3 9 ∷ standing 5 9 ∷ standing 7 5 ∷ standing 12 1 ∷ [];
}

abbrev program : Program
program = record { functions = function ∷ []; globals = [] }

-- a step that is to be done by some lanes, and a round with this number
abbrev step : StepNumber → Lanes → Task
step number lanes = record { doing = Run (Break number); lanes = lanes }

abbrev round : StepNumber → Lanes → Task
round number lanes = record { doing = Round number [] Empty; lanes = lanes }

-- a frame of the function, made by a call or by none, for these lanes, with these tasks
abbrev frame : (number : ℕ) → Option StepNumber → Lanes → List Task → Frame
frame number call lanes tasks = record { function = number; lanes = lanes; call = call; result_for = Nothing; views = []; vars = []; result = []; tasks = tasks }

abbrev state : List Frame → State
state frames = record { memory = []; frames = frames }

abbrev told : (depth : ℕ) → (name place : List ℕ) → ToldFrame
told deep name place = record { depth = deep; name = name; place = place }

-- the first of three lanes does step 0, the second step 1, and the third has nothing to do
abbrev parted : State
parted = state (frame 0 None (true ∷ true ∷ true ∷ []) (step 0 (true ∷ false ∷ false ∷ []) ∷ step 1 (false ∷ true ∷ false ∷ []) ∷ []) ∷ [])

abbrev of_gang : ToldFrame
of_gang = told 1 (codes "go [100]") (codes "3:9")

what_the_gang_does : own_frame program parted 0 of_gang ≡ of_gang
unfolding digits
what_the_gang_does = refl

another_branch : own_frame program parted 1 of_gang ≡ told 1 (codes "go [100] (waits)") (codes "5:9")
unfolding digits
another_branch = refl

the_closing_brace : own_frame program parted 2 of_gang ≡ told 1 (codes "go [100] (waits)") (codes "12:1")
unfolding digits
the_closing_brace = refl

-- in a round of the first lane, where one of the second is to come, the third waits for that too
abbrev in_rounds : State
in_rounds = state (frame 0 None (true ∷ true ∷ true ∷ []) (step 0 (true ∷ false ∷ false ∷ []) ∷ round 1 (false ∷ true ∷ false ∷ []) ∷ step 2 (true ∷ true ∷ true ∷ []) ∷ []) ∷ [])

the_head_of_a_form : own_frame program in_rounds 2 of_gang ≡ told 1 (codes "go [100] (waits)") (codes "5:9")
unfolding digits
the_head_of_a_form = refl

-- the second of two lanes has called the function anew in step 1, where the first goes on at step 2
abbrev called : State
called = state (frame 0 (Some 1) (false ∷ true ∷ []) (step 0 (false ∷ true ∷ []) ∷ []) ∷ frame 0 None (true ∷ true ∷ []) (step 2 (true ∷ true ∷ []) ∷ []) ∷ [])

abbrev of_both : List ToldFrame
of_both = told 2 (codes "go [01]") (codes "3:9") ∷ told 1 (codes "go [01]") (codes "5:9") ∷ []

behind_the_call : lane_frames program called 0 of_both ≡ told 1 (codes "go [01] (waits)") (codes "7:5") ∷ []
unfolding digits
behind_the_call = refl

at_the_call : lane_frames program called 1 of_both ≡ of_both
unfolding digits
at_the_call = refl

-- in a function that the program does not have the place is the frame's
no_standing : own_frame program (state (frame 4 None (true ∷ []) [] ∷ [])) 0 (told 1 (codes "go [1]") (codes "3:9")) ≡ told 1 (codes "go [1]") (codes "3:9")
no_standing = refl

-- ---- the thread of a stop

lowest_that_is_active : stop_thread (threads.Lanes 4) (false ∷ true ∷ false ∷ true ∷ []) reason.Step ≡ 2
lowest_that_is_active = refl

lane_that_faults : (name : FaultName) → stop_thread (threads.Lanes 4) (true ∷ true ∷ true ∷ true ∷ []) (reason.Exception name 2) ≡ 3
lane_that_faults name = refl

of_the_end : stop_thread (threads.Lanes 4) [] reason.Step ≡ 1
of_the_end = refl

of_no_lane : stop_thread (threads.Lanes 4) (false ∷ false ∷ false ∷ false ∷ []) reason.Step ≡ 1
of_no_lane = refl

of_the_gang : (lanes : Lanes) (name : FaultName) → stop_thread threads.Gang lanes (reason.Exception name 2) ≡ 1
of_the_gang lanes name = refl
