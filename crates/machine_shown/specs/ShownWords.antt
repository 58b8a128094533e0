-- The words of a variable that a debugger reads and sets: those of a scalar, or the elements of a part of an array.
use Rattle.std.specs.Prelude.{◌≡◌, ◌⊎◌, ℕ, ◌+◌, ◌≤◌, Bool, true, false, nat_lt, List, [], ◌∷◌, length, drop, take, Option, Some, None, slice_get, slice_index, slice_set, if◌then◌else◌}
use Rattle.gang_types.specs.declared.places.VarId.{VarId}
use Rattle.gang_types.specs.declared.places.VarId.TheVariants.{File, Local}
use Rattle.gang_types.specs.declared.types.Rate.{Rate}
use Rattle.gang_types.specs.declared.types.Rate.TheVariants.{Uniform, Varying}
use Rattle.gang_model.specs.Types.Tree.{Variable, Function}
use Rattle.gang_model.specs.Running.State.{View, words_for}
use Rattle.mask_states.specs.Points.{points_in}
use Rattle.machine_states.specs.ArrayParts.{IsInside, array_region, view_at}
use Rattle.machine_states.specs.Effects.{region_of}
use Rattle.machine_states.specs.Regions.{Depth, Region, Regions, with_region}
use Rattle.machine_states.specs.Steps.{poked_region}
use Rattle.machine_states.specs.Variables.{own_of}
use Rattle.machine_words.specs.Views.{region_view, view_view}
use Rattle.frame_steps.specs.declared.active.Active.{Active}
use Rattle.frame_steps.specs.declared.compiled.CompiledProgram.{CompiledProgram}
use Rattle.frame_steps.specs.Compiled.{variables_of}
use Rattle.frame_steps.specs.Standing.{IsActive}
use Rattle.machine_shown.specs.Frames.{regions_up_to}
use Rattle.machine_shown.specs.declared.found.ShownWords.{ShownWords}
use Rattle.machine_shown.specs.declared.found.ShownWords.TheVariants.{Scalar, Elements}

-- a scalar's words are the first of a region, by its rate; an array's are the elements of a part of one
pub data WordsShown : Type 0 where
  OfScalar : Region → Rate → WordsShown
  OfElements : View → WordsShown

abbrev pub shown_view : ShownWords → WordsShown
shown_view (Scalar region rate) = OfScalar (region_view region) rate
shown_view (Elements view) = OfElements (view_view view)

-- the region that has them, where in it they begin, and how many they are
abbrev pub region_shown : WordsShown → Region
region_shown (OfScalar region rate) = region
region_shown (OfElements view) = array_region view.array

abbrev pub first_shown : WordsShown → ℕ
first_shown (OfScalar region rate) = 0
first_shown (OfElements view) = view.first

abbrev pub count_shown : (width : ℕ) → WordsShown → ℕ
count_shown width (OfScalar region rate) = words_for width rate
count_shown width (OfElements view) = view.len

-- the words
abbrev pub words_shown : (width : ℕ) → Regions → WordsShown → List ℕ
words_shown width regions shown = take (count_shown width shown) (drop (first_shown shown) (regions (region_shown shown)))

-- they lie in their region, and a scalar's has at most a word for each lane
abbrev pub AreInRegion : (width : ℕ) → Regions → WordsShown → Type 0
AreInRegion width regions (OfScalar region rate) = (words_for width rate ≤ length (regions region)) × (length (regions region) ≤ width)
AreInRegion width regions (OfElements view) = IsInside regions view

-- ---- those of a variable

-- those of a variable of a frame, or of the file
abbrev pub shown_of : Regions → (frame : ℕ) → VarId → Variable → WordsShown
shown_of regions frame id v = if v.is_array then OfElements (view_at regions frame id) else OfScalar (region_of frame id) v.rate

-- those of a variable of the top frame's function, of those frames that the regions count
pub record HasLocalWords (width : ℕ) (compiled : CompiledProgram) (regions : Regions) (number : ℕ) (shown : WordsShown) : Type 0 where
  pub active : Active
  pub f : Function
  pub active_is : IsActive width compiled regions active f (slice_get (points_in f) active.step)
  pub variable : Variable
  pub is_variable : slice_get (own_of (variables_of compiled) active.function) number ≡ Some variable
  pub shown_is : shown ≡ shown_of regions active.frame (Local number) variable

-- those of a variable of the file, which are the same in each frame, or of the top frame's function
abbrev pub HasWords : (width : ℕ) → CompiledProgram → Regions → VarId → WordsShown → Type 0
HasWords width compiled regions (File k) shown = (v : Variable) × (slice_get (variables_of compiled).file k ≡ Some v) × (shown ≡ shown_of regions 0 (File k) v)
HasWords width compiled regions (Local k) shown = HasLocalWords width compiled regions k shown

-- the top frame's function has no variable of this number
pub record HasNoLocal (width : ℕ) (compiled : CompiledProgram) (regions : Regions) (number : ℕ) (active : Active) : Type 0 where
  pub f : Function
  pub active_is : IsActive width compiled regions active f (slice_get (points_in f) active.step)
  pub none : slice_get (own_of (variables_of compiled) active.function) number ≡ None

-- neither the file nor the top frame's function has such a variable, or no frame is left
abbrev pub HasNoWords : (width : ℕ) → CompiledProgram → Regions → VarId → Type 0
HasNoWords width compiled regions (File k) = slice_get (variables_of compiled).file k ≡ None
HasNoWords width compiled regions (Local k) = (regions Depth ≡ 0 ∷ []) ⊎ ((active : Active) × HasNoLocal width compiled regions k active)

-- ---- what is read

-- a word of this index among those of a variable: 0 behind them, and where there is no such variable
pub record IsWordOf (width : ℕ) (compiled : CompiledProgram) (regions : Regions) (id : VarId) (index word : ℕ) : Type 0 where
  pub there : (shown : WordsShown) → HasWords width compiled regions id shown → word ≡ slice_index (words_shown width regions shown) index
  pub none : HasNoWords width compiled regions id → word ≡ 0

-- how many words a variable has: none where there is no such variable
pub record IsCountOf (width : ℕ) (compiled : CompiledProgram) (regions : Regions) (id : VarId) (count : ℕ) : Type 0 where
  pub there : (shown : WordsShown) → HasWords width compiled regions id shown → count ≡ length (words_shown width regions shown)
  pub none : HasNoWords width compiled regions id → count ≡ 0

-- ---- what is set

-- whether there is this part: a whole scalar, a lane of a varying one, or an element
abbrev pub has_part : (width : ℕ) → WordsShown → Option ℕ → Bool
has_part width (OfScalar region rate) None = true
has_part width (OfScalar region Uniform) (Some lane) = false
has_part width (OfScalar region Varying) (Some lane) = nat_lt lane width
has_part width (OfElements view) None = false
has_part width (OfElements view) (Some k) = nat_lt k view.len

-- the words of the region once that part is set
abbrev pub part_set : WordsShown → Option ℕ → (word : ℕ) → List ℕ → List ℕ
part_set (OfScalar region rate) part word words = poked_region rate part word words
part_set (OfElements view) None word words = words
part_set (OfElements view) (Some k) word words = slice_set words (view.first + k) word

-- the regions once a part is set; the same where there is no such part
abbrev pub set_in : (width : ℕ) → WordsShown → Option ℕ → (word : ℕ) → Regions → Regions
set_in width shown part word regions =
    if has_part width shown part then with_region (region_shown shown) (part_set shown part word (regions (region_shown shown))) regions else regions

-- a part of a variable is set and no other word; none where there is no such variable
pub record IsSetIn (width : ℕ) (compiled : CompiledProgram) (id : VarId) (part : Option ℕ) (word : ℕ) (old new : Regions) : Type 0 where
  pub there : (shown : WordsShown) → HasWords width compiled old id shown → (r : Region) → new r ≡ set_in width shown part word old r
  pub none : HasNoWords width compiled old id → (r : Region) → new r ≡ old r

-- the same of a variable of the frame at a depth: no word of another frame is set
pub record IsSetAt (width : ℕ) (compiled : CompiledProgram) (deep : ℕ) (id : VarId) (part : Option ℕ) (word : ℕ) (old new : Regions) : Type 0 where
  pub there : (shown : WordsShown) → HasWords width compiled (regions_up_to deep old) id shown → (r : Region) → new r ≡ set_in width shown part word old r
  pub none : HasNoWords width compiled (regions_up_to deep old) id → (r : Region) → new r ≡ old r
