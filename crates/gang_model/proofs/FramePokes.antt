-- Worked rows of values that are set in one of two frames.
use Rattle.std.proofs.Common.{◌≡◌, refl, ℕ, true, List, [], ◌∷◌, None}
use Rattle.std.specs.Prelude.{map}
use Rattle.gang_types.specs.declared.places.VarId.TheVariants.{File, Local}
use Rattle.gang_model.specs.Types.Tree.{Nothing}
use Rattle.gang_model.specs.Running.State.{Frame, State, words_of}
use Rattle.gang_model.specs.Debugger.Events.{Poked, WholeOf, LaneOf, ElementAt, InFrame, poked}

-- a frame of two lanes whose first variable has these words, and whose second one is a part of an array of the file
abbrev frame_with : List ℕ → Frame
frame_with words = record {
  function = 0;
  lanes = true ∷ true ∷ [];
  call = None;
  result_for = Nothing;
  views = (Local 1, record { array = File 1; first = 1; len = 2 }) ∷ [];
  vars = (Local 0, words) ∷ [];
  result = [];
  tasks = [];
}

-- the entry's frame has 3 and 4, the one that it called has 1 and 2; the file has 5 and an array of three
abbrev called : State
called = record { memory = (File 0, 5 ∷ []) ∷ (File 1, 0 ∷ 0 ∷ 0 ∷ []) ∷ []; frames = frame_with (1 ∷ 2 ∷ []) ∷ frame_with (3 ∷ 4 ∷ []) ∷ [] }

-- the words of the first variable of each frame, the top one first
abbrev locals : State → List (List ℕ)
locals state = map (λ frame. words_of frame.vars (Local 0)) state.frames

-- a lane of the outer frame, at depth 1
outer_lane : locals (poked (InFrame 1 (LaneOf (Local 0) 1)) 9 called) ≡ (1 ∷ 2 ∷ []) ∷ (3 ∷ 9 ∷ []) ∷ []
outer_lane = refl

-- all lanes of the top frame, at depth 2
top_whole : locals (poked (InFrame 2 (WholeOf (Local 0))) 7 called) ≡ (7 ∷ 7 ∷ []) ∷ (3 ∷ 4 ∷ []) ∷ []
top_whole = refl

-- where there is no frame so deep, it is the top one
too_deep : poked (InFrame 3 (WholeOf (Local 0))) 7 called ≡ poked (WholeOf (Local 0)) 7 called
too_deep = refl

-- at depth 0 there are the variables of the file alone
no_frame : poked (InFrame 0 (WholeOf (Local 0))) 7 called ≡ called
no_frame = refl

of_the_file : words_of (poked (InFrame 0 (WholeOf (File 0))) 7 called).memory (File 0) ≡ 7 ∷ []
of_the_file = refl

-- an element of a parameter of the outer frame is one of the array of the file
outer_element : words_of (poked (InFrame 1 (ElementAt (Local 1) 1)) 8 called).memory (File 1) ≡ 0 ∷ 0 ∷ 8 ∷ []
outer_element = refl
