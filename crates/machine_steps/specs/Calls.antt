-- What a call passes and writes: the values of its arguments, the words of its parameters, and the head of the frame that begins.
use Rattle.std.specs.Prelude.{◌≡◌, ◌≢◌, ℕ, suc, ◌+◌, ◌*◌, ◌<◌, ◌≤◌, Bool, false, ◌==◌, ◌&&◌, nat_lt, List, [], ◌∷◌, length, replicate, Some, Result, Ok, Err, slice_get}
use Rattle.arrayvec.specs.ArrayVec.{ArrayVec}
use Rattle.gang_types.specs.Lanes.{Lanes}
use Rattle.gang_model.specs.Types.Tree.{Arg, Value, Array, Function}
use Rattle.gang_model.specs.Running.Lanes.{Fault as ModelFault}
use Rattle.gang_model.specs.Running.State.{State, view_of}
use Rattle.gang_model.specs.Running.Value.{value}
use Rattle.gang_model.specs.Running.Step.{part, passed}
use Rattle.typed_tree.specs.Views.{var_view}
use Rattle.undo_log.specs.History.{History}
use Rattle.debug_traits.specs.declared.machine.Fault.{Fault}
use Rattle.debug_traits.specs.Machines.{fault_view}
use Rattle.gang_memory.specs.Recorded.{without_words}
use Rattle.machine_states.specs.ArrayParts.{IsInside, view_of_words}
use Rattle.machine_states.specs.Effects.{declared_region}
use Rattle.machine_states.specs.Regions.{OpenOf, Head, FunctionOf, LanesOf, ReturnedOf, NumbersOf, ResultOf, Depth, OfEntry, OfFile, OfHead, OfLocal, Region, Regions, lanes_in, OfLevel}
use Rattle.mask_states.specs.Masked.{entered_body}
use Rattle.machine_states.specs.Variables.{IsArray}
use Rattle.codegen.specs.Codes.{Fit}
use Rattle.codegen.specs.declared.code.ArgCode.{ArgCode}
use Rattle.codegen.specs.declared.code.ArgCode.TheVariants as arg
use Rattle.machine_words.specs.declared.words.MachineWords.{MachineWords}
use Rattle.machine_words.specs.Words.{AreLaid, left_of, regions_in}
use Rattle.frame_steps.specs.declared.active.Active.{Active}
use Rattle.frame_steps.specs.declared.compiled.CompiledProgram.{CompiledProgram}
use Rattle.frame_steps.specs.Compiled.{variables_of}
use Rattle.frame_steps.specs.Parts.{IsIndexAt}
use Rattle.frame_steps.specs.Standing.{IsValueAt}

-- ---- arguments

-- the code computes an argument that the next step may have: the value of a parameter, or a part of one of its arrays
abbrev pub IsArgumentAt : (width : ℕ) → CompiledProgram → Regions → Active → ArgCode → Arg → Type 0
IsArgumentAt width compiled regions active (arg.Value parameter code) (Value x e) = (x ≡ var_view parameter) × IsValueAt width compiled regions active e code.items
IsArgumentAt width compiled regions active (arg.Array array from) (Array parameter named index) =
    (named ≡ array) × IsArray (variables_of compiled) active.function array × IsIndexAt width compiled regions active index from
IsArgumentAt width compiled regions active made y = ⊥

-- a word for each lane, of which the first four keep a part of an array, which lies in it
pub record KeepPart (width : ℕ) (regions : Regions) (words : List ℕ) : Type 0 where
  pub long : length words ≡ width
  pub inside : IsInside regions (view_of_words words)

-- the words of an argument: the values of a parameter, or those that keep the part of an array that is passed
abbrev pub AreArgumentWords : (width : ℕ) → Regions → Lanes → State → Arg → List ℕ → Type 0
AreArgumentWords width regions lanes state (Value x e) words = value e lanes state ≡ Ok words
AreArgumentWords width regions lanes state (Array parameter array from) words =
    (part from (view_of state array) lanes state ≡ Ok (view_of_words words)) × KeepPart width regions words

-- the first fault of an argument
abbrev pub IsArgumentFault : Lanes → State → Arg → ModelFault → Type 0
IsArgumentFault lanes state (Value x e) fault = value e lanes state ≡ Err fault
IsArgumentFault lanes state (Array parameter array from) fault = part from (view_of state array) lanes state ≡ Err fault

-- the answer is the words of an argument, or its first fault
abbrev pub IsArgumentAnswer : (width : ℕ) → Regions → Lanes → State → Arg → Result (List ℕ) Fault → Type 0
IsArgumentAnswer width regions lanes state y (Ok words) = AreArgumentWords width regions lanes state y words
IsArgumentAnswer width regions lanes state y (Err fault) = IsArgumentFault lanes state y (fault_view fault)

-- the answer is the words of each argument, in order, or the first fault
abbrev pub ArePassed : (width : ℕ) → Regions → List Arg → Lanes → State → Result (ArrayVec (List ℕ)) Fault → Type 0
ArePassed width regions meant lanes state (Ok given) = Fit (AreArgumentWords width regions lanes state) meant given.items
ArePassed width regions meant lanes state (Err fault) = passed meant lanes state ≡ Err (fault_view fault)

-- ---- parameters

-- the region of a parameter once it is declared: of a scalar as any scalar's, of an array the words that keep the part it stands for
abbrev pub parameter_region : ArgCode → Lanes → (words old : List ℕ) → List ℕ
parameter_region (arg.Value parameter code) lanes words old = declared_region parameter.rate lanes words old
parameter_region (arg.Array array from) lanes words old = words

-- whether a region is that of one of the first so many variables of a frame
abbrev pub is_parameter : (frame count : ℕ) → Region → Bool
is_parameter frame count (OfLocal i k) = (i == frame) && nat_lt k count
is_parameter frame count other = false

-- The first so many parameters of a frame are declared with their words, and nothing else is changed. At most w words were set for each.
pub record AreParametersDeclared {T : Type 0} (history : T → History) (left : T → ℕ) (width frame count : ℕ) (args : List ArgCode) (given : List (List ℕ)) (lanes : Lanes) (old new : MachineWords T) : Type 0 where
  pub own : (k : ℕ) (made : ArgCode) (words : List ℕ) → k < count → slice_get args k ≡ Some made → slice_get given k ≡ Some words
      → regions_in history width new (OfLocal frame k) ≡ parameter_region made lanes words (regions_in history width old (OfLocal frame k))
  pub others : (r : Region) → is_parameter frame count r ≡ false → regions_in history width new r ≡ regions_in history width old r
  pub layout : new.layout ≡ old.layout
  pub laid : AreLaid history width new
  pub rest : without_words (history new.store.timeline) ≡ without_words (history old.store.timeline)
  pub few : left_of history left old ≤ left_of history left new + count * width

-- ---- the frame

-- what a frame that begins leaves as it was: all but its own head without its result, and how many frames there are
pub record IsKeptBesideHead (frame : ℕ) (old new : Regions) : Type 0 where
  pub file : (k : ℕ) → new (OfFile k) ≡ old (OfFile k)
  pub entry : (k : ℕ) → new (OfEntry k) ≡ old (OfEntry k)
  pub heads : (i : ℕ) (part : Head) → i ≢ frame → new (OfHead i part) ≡ old (OfHead i part)
  pub result : new (OfHead frame ResultOf) ≡ old (OfHead frame ResultOf)
  pub locals : (i k : ℕ) → new (OfLocal i k) ≡ old (OfLocal i k)

-- the head of a frame that runs f, begun for these lanes: none has returned, no foreach form has begun, and all wait for its first step or its closing brace
pub record IsHeadBegun (width : ℕ) (regions : Regions) (index n : ℕ) (f : Function) (lanes : Lanes) : Type 0 where
  pub depth : regions Depth ≡ suc index ∷ []
  pub function : regions (OfHead index FunctionOf) ≡ n ∷ []
  pub lanes_are : lanes_in width regions (OfHead index LanesOf) ≡ lanes
  pub none_returned : lanes_in width regions (OfHead index ReturnedOf) ≡ replicate width false
  pub none_open : regions (OfHead index OpenOf) ≡ 0 ∷ []
  pub numbers : regions (OfLevel index 0 NumbersOf) ≡ (entered_body f lanes).numbers
  pub result_sized : length (regions (OfHead index ResultOf)) ≡ width

-- A frame has begun for these lanes, and nothing else is changed. At most w + 5 words were set.
pub record BeginsFrame {T : Type 0} (history : T → History) (left : T → ℕ) (width frame n : ℕ) (f : Function) (lanes : Lanes) (old new : MachineWords T) : Type 0 where
  pub begun : IsHeadBegun width (regions_in history width new) frame n f lanes
  pub kept : IsKeptBesideHead frame (regions_in history width old) (regions_in history width new)
  pub layout : new.layout ≡ old.layout
  pub laid : AreLaid history width new
  pub rest : without_words (history new.store.timeline) ≡ without_words (history old.store.timeline)
  pub few : left_of history left old ≤ left_of history left new + (width + 5)
