-- What the words of a machine become by a step, so that they show the masked state after it.
use Rattle.std.specs.Prelude.{◌≡◌, ℕ, zero, suc, ◌<◌, true, false, ◌||◌, List, [], ◌∷◌, length, replicate, Option, Some, None, slice_get, slice_set, map}
use Rattle.gang_types.specs.declared.types.IntType.{IntType}
use Rattle.gang_types.specs.declared.types.Rate.{Rate}
use Rattle.gang_types.specs.declared.types.Rate.TheVariants.{Uniform, Varying}
use Rattle.gang_types.specs.declared.places.VarId.TheVariants.{Local}
use Rattle.gang_types.specs.Lanes.{Lanes, has}
use Rattle.gang_types.specs.Masks.{lanes_of_word}
use Rattle.gang_types.specs.Values.{converted}
use Rattle.gang_model.specs.Running.Lanes.{Fault, at, each}
use Rattle.gang_model.specs.Running.State.{words_of}
use Rattle.gang_model.specs.Running.Step.{Passed}
use Rattle.gang_model.specs.Types.Tree.{StepNumber, ResultFor, Nothing, Declares, Assigns, Returns, Function, Program}
use Rattle.mask_states.specs.Points.{Point, points_in, closing_number}
use Rattle.mask_states.specs.Masked.{Masked, least, waiting_for, entered_body}
use Rattle.mask_states.specs.MaskedStep.{Goes, Fails, masked_step}
use Rattle.machine_states.specs.Variables.{Variables, own_of, rate_of}
use Rattle.machine_states.specs.Declared.{has_entry}
use Rattle.machine_states.specs.Regions.{FunctionOf, LanesOf, ReturnedOf, ResultOf, OpenOf, NumbersOf, EndOf, Head, OfFile, OfEntry, Depth, OfHead, OfLevel, OfLocal, Regions, lanes_in}
use Rattle.machine_states.specs.Levels.{Forms, AreForms, Innermost}
use Rattle.machine_states.specs.Shows.{IsScalarIn, ShowsView, Shows, level_words}
use Rattle.machine_states.specs.Effects.{declared_in, assigned_in, returned_in}

-- the innermost form of a frame that is not over has this level; where all are over, it is level 0, the function's body
abbrev pub IsInnermost : (width : ℕ) → Regions → (index : ℕ) → Function → (level : ℕ) → Type 0
IsInnermost width regions index f level =
    (forms : Forms) → AreForms (points_in f) width (level_words regions index) forms → regions (OfHead index OpenOf) ≡ length forms ∷ []
    → (i : Innermost width (level_words regions index) (closing_number f) forms) × (length i.live ≡ level)

-- the number above all steps of a level
abbrev pub end_in : Regions → (index : ℕ) → Function → (level : ℕ) → StepNumber
end_in regions index f zero = closing_number f
end_in regions index f (suc level) = at (regions (OfLevel index (suc level) EndOf)) 0

-- the least number that a lane waits for in a level of a frame
abbrev pub least_in : Regions → (index : ℕ) → Function → (level : ℕ) → StepNumber
least_in regions index f level = least (end_in regions index f level) (regions (OfLevel index level NumbersOf))

-- the step that comes next is that of the top frame, of this index and function, with the least number that a lane of it waits for in this
-- level, the innermost one; it has a point, or is the function's closing brace
pub record IsNext (p : Program) (width : ℕ) (regions : Regions) (index level n : ℕ) (f : Function) (number : StepNumber) (point : Option Point) : Type 0 where
  pub depth : regions Depth ≡ suc index ∷ []
  pub function : regions (OfHead index FunctionOf) ≡ n ∷ []
  pub is_function : slice_get p.functions n ≡ Some f
  pub innermost : IsInnermost width regions index f level
  pub least_number : number ≡ least (end_in regions index f level) (regions (OfLevel index level NumbersOf))
  pub is_point : slice_get (points_in f) number ≡ point

-- the lanes of a level of a frame that wait for a step
abbrev pub waiting_in : Regions → (index level : ℕ) → StepNumber → Lanes
waiting_in regions index level number = waiting_for number (regions (OfLevel index level NumbersOf))

-- the step is done, and these regions show the masked state after it
abbrev pub GoesTo : Program → Variables → (width : ℕ) → Masked → Regions → Type 0
GoesTo p variables width masked regions = (next : Masked) × (masked_step p masked ≡ Goes next) × Shows p variables width regions next

-- the step has a fault
abbrev pub FailsWith : Program → Masked → Fault → Type 0
FailsWith p masked fault = masked_step p masked ≡ Fails fault

-- a word keeps the lanes of both sets
abbrev pub KeepsBoth : (width : ℕ) → Lanes → Lanes → (word : ℕ) → Type 0
KeepsBoth width some others word = (k : ℕ) → k < width → has (lanes_of_word width word) k ≡ (has some k || has others k)

-- ---- calls

-- a frame has begun for these lanes, with no form under way, these variables declared and these parts of arrays
pub record IsBegun (variables : Variables) (width : ℕ) (regions : Regions) (index n : ℕ) (f : Function) (lanes : Lanes) (given : Passed) : Type 0 where
  pub depth : regions Depth ≡ suc index ∷ []
  pub function : regions (OfHead index FunctionOf) ≡ n ∷ []
  pub lanes_are : lanes_in width regions (OfHead index LanesOf) ≡ lanes
  pub none_returned : lanes_in width regions (OfHead index ReturnedOf) ≡ replicate width false
  pub none_open : regions (OfHead index OpenOf) ≡ 0 ∷ []
  pub numbers : regions (OfLevel index 0 NumbersOf) ≡ (entered_body f lanes).numbers
  pub result_sized : length (regions (OfHead index ResultOf)) ≡ width
  pub declared : (k : ℕ) → has_entry given.vars (Local k) ≡ true
      → IsScalarIn width (rate_of (slice_get (own_of variables n) k)) (words_of given.vars (Local k)) (regions (OfLocal index k))
  pub views : (k : ℕ) → ShowsView variables regions index n given.views k

-- the words of the file, of the entry's arrays, and of the frames below this index, are the same
pub record AreSameBelow (index : ℕ) (old new : Regions) : Type 0 where
  pub file : (k : ℕ) → new (OfFile k) ≡ old (OfFile k)
  pub entry : (k : ℕ) → new (OfEntry k) ≡ old (OfEntry k)
  pub heads : (i : ℕ) (part : Head) → i < index → new (OfHead i part) ≡ old (OfHead i part)
  pub locals : (i k : ℕ) → i < index → new (OfLocal i k) ≡ old (OfLocal i k)

-- ---- results

-- values converted in these lanes
abbrev pub converted_values : (from to : IntType) → Lanes → List ℕ → List ℕ
converted_values from to lanes values = each lanes (λ k. converted from to (at values k))

-- A result of this type is given to what it is for: to a variable of the frame of this index, which runs f, or of the file, or as the
-- result of that frame.
abbrev pub Delivers : (width index : ℕ) → (f : Function) → ResultFor → IntType → Lanes → (values : List ℕ) → (old new : Regions) → Type 0
Delivers width index f Nothing type lanes values old new = new ≡ old
Delivers width index f (Declares x) type lanes values old new = new ≡ declared_in index x.id x.rate lanes (converted_values type x.type lanes values) old
Delivers width index f (Assigns x) type lanes values old new = new ≡ assigned_in index x.id x.rate lanes (converted_values type x.type lanes values) old
Delivers width index f Returns type lanes values old new =
    (word : ℕ) × KeepsBoth width lanes (lanes_in width old (OfHead index ReturnedOf)) word
    × (new ≡ returned_in index f.result lanes (converted_values type f.result_type lanes values) word old)

-- ---- pokes

-- all words of a scalar's region are set, or one lane's
abbrev pub poked_region : Rate → (lane : Option ℕ) → (word : ℕ) → List ℕ → List ℕ
poked_region Uniform None word old = slice_set old 0 word
poked_region Varying None word old = map (λ x. word) old
poked_region rate (Some lane) word old = slice_set old lane word
