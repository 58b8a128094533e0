-- What it means that the words of a machine show a masked state: each part of it stands in its region. Words of variables that are not
-- declared, and of frames that were left, show nothing.
use Rattle.std.specs.Prelude.{◌≡◌, ℕ, ◌<◌, ◌≤◌, true, false, List, [], ◌∷◌, length, take, Some, None, slice_get, if◌then◌else◌}
use Rattle.gang_types.specs.declared.types.Rate.{Rate}
use Rattle.gang_types.specs.declared.types.Rate.TheVariants.{Uniform, Varying}
use Rattle.gang_types.specs.declared.places.VarId.{VarId}
use Rattle.gang_types.specs.declared.places.VarId.TheVariants.{Local}
use Rattle.gang_types.specs.Lanes.{Lanes, no_lane}
use Rattle.gang_model.specs.Running.Lanes.{at, each}
use Rattle.gang_model.specs.Running.State.{Frame, View, view_in, words_of, words_for}
use Rattle.gang_model.specs.Running.Step.{result_rate}
use Rattle.gang_model.specs.Types.Tree.{StepNumber, Arg, Nothing, Variable, Function, Program}
use Rattle.mask_states.specs.Points.{Enter, closing_number, points_in}
use Rattle.mask_states.specs.Placed.{HasPoint}
use Rattle.mask_states.specs.Masked.{Level, Masked, next_in}
use Rattle.mask_states.specs.MaskedStep.{points_for}
use Rattle.machine_states.specs.Variables.{Variables, is_array_of, own_of, rate_of}
use Rattle.machine_states.specs.Declared.{has_entry}
use Rattle.machine_states.specs.ArrayParts.{AreMemory, view_at}
use Rattle.machine_states.specs.Regions.{FunctionOf, LanesOf, ReturnedOf, ResultOf, OpenOf, NumbersOf, EndOf, CountersOf, ValuesOf, OfFile, Depth, OfHead, OfLevel, OfLocal, Regions, lanes_in}
use Rattle.machine_states.specs.Levels.{LevelsWords, ShowsLevels}

-- a scalar's words are the first ones of its region
pub record IsScalarIn (width : ℕ) (rate : Rate) (words region : List ℕ) : Type 0 where
  pub long : length words ≡ words_for width rate
  pub stands : words ≡ take (words_for width rate) region

-- each variable has words enough: a scalar of the file its own, one of a frame a word for each lane, whatever its rate
pub record AreSized (variables : Variables) (width : ℕ) (regions : Regions) : Type 0 where
  pub file : (k : ℕ) (v : Variable) → slice_get variables.file k ≡ Some v → v.is_array ≡ false → length (regions (OfFile k)) ≡ words_for width v.rate
  pub own : (index n k : ℕ) (v : Variable) → index < 64 → slice_get (own_of variables n) k ≡ Some v → length (regions (OfLocal index k)) ≡ width

-- the k-th variable of a frame stands in its region, if it is declared
abbrev pub ShowsLocal : Variables → (width : ℕ) → Regions → (index : ℕ) → Frame → ℕ → Type 0
ShowsLocal variables width regions index frame k = has_entry frame.vars (Local k) ≡ true
    → IsScalarIn width (rate_of (slice_get (own_of variables frame.function) k)) (words_of frame.vars (Local k)) (regions (OfLocal index k))

-- the k-th variable of a frame that runs a function, if it is an array, stands for the part of an array that its region keeps
abbrev pub ShowsView : Variables → Regions → (index function : ℕ) → List (VarId × View) → ℕ → Type 0
ShowsView variables regions index function views k =
    is_array_of (slice_get (own_of variables function) k) ≡ true → view_in views (Local k) ≡ view_at regions index (Local k)

-- a result has the words of the lanes that have returned, and 0 in the others; a uniform one has one word
abbrev pub result_of : Rate → (returned : Lanes) → List ℕ → List ℕ
result_of Uniform returned region = (if no_lane returned then 0 else at region 0) ∷ []
result_of Varying returned region = each returned (λ k. at region k)

-- the words of each level of a frame
abbrev pub level_words : Regions → (index : ℕ) → LevelsWords
level_words regions index level = record {
  end = regions (OfLevel index level EndOf);
  numbers = regions (OfLevel index level NumbersOf);
  counters = regions (OfLevel index level CountersOf);
  values = regions (OfLevel index level ValuesOf);
}

-- a frame stands in the regions of its number
pub record ShowsFrame (p : Program) (variables : Variables) (width : ℕ) (regions : Regions) (index : ℕ) (frame : Frame) (levels : List Level) : Type 0 where
  pub function : Function
  pub is_function : slice_get p.functions frame.function ≡ Some function
  pub number : regions (OfHead index FunctionOf) ≡ frame.function ∷ []
  pub lanes : frame.lanes ≡ lanes_in width regions (OfHead index LanesOf)
  pub waits : ShowsLevels (points_in function) width (level_words regions index) (regions (OfHead index OpenOf)) (closing_number function) levels
  pub untasked : frame.tasks ≡ []
  pub views : (k : ℕ) → ShowsView variables regions index frame.function frame.views k
  pub locals : (k : ℕ) → ShowsLocal variables width regions index frame k
  pub result : frame.result ≡ result_of (result_rate p frame) (lanes_in width regions (OfHead index ReturnedOf)) (regions (OfHead index ResultOf))
  pub result_sized : length (regions (OfHead index ResultOf)) ≡ width

-- the call that made a frame is the step that the lanes of the frame below wait for; the entry's was made by none
abbrev pub ShowsCall : Program → Frame → List Frame → List (List Level) → Type 0
ShowsCall p frame [] levels = (frame.call ≡ None) × (frame.result_for ≡ Nothing)
ShowsCall p frame (below ∷ frames) [] = ⊥
ShowsCall p frame (below ∷ frames) ([] ∷ rest) = ⊥
ShowsCall p frame (below ∷ frames) ((level ∷ levels) ∷ rest) =
    (next : StepNumber) × (args : List Arg) × (frame.call ≡ Some (next_in level))
    × HasPoint (points_for p below.function) (next_in level) (Enter frame.function args frame.result_for next)

-- the frames, the top one first
abbrev pub ShowsFrames : Program → Variables → (width : ℕ) → Regions → List Frame → List (List Level) → Type 0
ShowsFrames p variables width regions [] [] = Unit {0}
ShowsFrames p variables width regions [] (levels ∷ rest) = ⊥
ShowsFrames p variables width regions (frame ∷ frames) [] = ⊥
ShowsFrames p variables width regions (frame ∷ frames) (levels ∷ rest) =
    ShowsFrame p variables width regions (length frames) frame levels × ShowsCall p frame frames rest
    × ShowsFrames p variables width regions frames rest

-- the regions show a masked state: the file's variables and all arrays, how many frames there are, and the frames
pub record Shows (p : Program) (variables : Variables) (width : ℕ) (regions : Regions) (masked : Masked) : Type 0 where
  pub memory : AreMemory regions masked.state.memory
  pub depth : regions Depth ≡ length masked.state.frames ∷ []
  pub few : length masked.state.frames ≤ 64
  pub frames : ShowsFrames p variables width regions masked.state.frames masked.levels
