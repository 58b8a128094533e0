-- What the machine writes to its regions.
use Rattle.std.specs.Prelude.{ℕ, suc, ◌+◌, List, [], ◌∷◌, slice_set}
use Rattle.gang_types.specs.declared.types.Rate.{Rate}
use Rattle.gang_types.specs.declared.types.Rate.TheVariants.{Uniform, Varying}
use Rattle.gang_types.specs.declared.places.VarId.{VarId}
use Rattle.gang_types.specs.declared.places.VarId.TheVariants.{File, Local}
use Rattle.gang_types.specs.Lanes.{Lanes, lowest}
use Rattle.gang_model.specs.Running.Lanes.{at, each, merged}
use Rattle.gang_model.specs.Running.State.{View}
use Rattle.gang_model.specs.Running.Step.{scattered_from}
use Rattle.gang_model.specs.Types.Tree.{StepNumber, Var}
use Rattle.mask_states.specs.Masked.{sent}
use Rattle.machine_states.specs.ArrayParts.{array_region}
use Rattle.machine_states.specs.Regions.{ReturnedOf, OpenOf, NumbersOf, EndOf, CountersOf, ValuesOf, ResultOf, OfFile, OfHead, OfLevel, OfLocal, Region, Regions, with_region}

-- lanes of a level of a frame wait for other steps
abbrev pub sent_on : (frame level : ℕ) → Lanes → (target : ℕ → StepNumber) → Regions → Regions
sent_on frame level lanes target regions = with_region (OfLevel frame level NumbersOf) (sent lanes target (regions (OfLevel frame level NumbersOf))) regions

-- a foreach form begins above a level of a frame: how many forms have begun, and all words of its own level
abbrev pub begun_in : (frame level : ℕ) → (rounds : StepNumber) → (numbers counters values : List ℕ) → Regions → Regions
begun_in frame level rounds numbers counters values regions =
    with_region (OfHead frame OpenOf) (suc level ∷ [])
    (with_region (OfLevel frame (suc level) ValuesOf) values
    (with_region (OfLevel frame (suc level) CountersOf) counters
    (with_region (OfLevel frame (suc level) NumbersOf) numbers
    (with_region (OfLevel frame (suc level) EndOf) (rounds ∷ []) regions))))

-- where a variable stands, of the file's or of a frame's
abbrev pub region_of : (frame : ℕ) → VarId → Region
region_of frame (File k) = OfFile k
region_of frame (Local k) = OfLocal frame k

-- a scalar's region after its declaration by these lanes: 0 in other lanes; a uniform one gets the value once
abbrev pub declared_region : Rate → Lanes → (values old : List ℕ) → List ℕ
declared_region Uniform lanes values old = slice_set old 0 (at values (lowest lanes))
declared_region Varying lanes values old = each lanes (λ k. at values k)

-- a scalar's region after an assignment by these lanes: the old words in other lanes; a uniform one gets the value once
abbrev pub assigned_region : Rate → Lanes → (values old : List ℕ) → List ℕ
assigned_region Uniform lanes values old = slice_set old 0 (at values (lowest lanes))
assigned_region Varying lanes values old = merged lanes values old

abbrev pub declared_in : (frame : ℕ) → VarId → Rate → Lanes → (values : List ℕ) → Regions → Regions
declared_in frame v rate lanes values regions = with_region (region_of frame v) (declared_region rate lanes values (regions (region_of frame v))) regions

abbrev pub assigned_in : (frame : ℕ) → VarId → Rate → Lanes → (values : List ℕ) → Regions → Regions
assigned_in frame v rate lanes values regions = with_region (region_of frame v) (assigned_region rate lanes values (regions (region_of frame v))) regions

-- lanes of a frame have a result, and have returned: the word keeps them with those that had
abbrev pub returned_in : (frame : ℕ) → Rate → Lanes → (values : List ℕ) → (returned : ℕ) → Regions → Regions
returned_in frame rate lanes values returned regions =
    with_region (OfHead frame ReturnedOf) (returned ∷ [])
    (with_region (OfHead frame ResultOf) (assigned_region rate lanes values (regions (OfHead frame ResultOf))) regions)

-- the words of an array after lanes stored to elements of a part of it
abbrev pub stored_region : View → Lanes → (indices values old : List ℕ) → List ℕ
stored_region view lanes indices values old = scattered_from 0 lanes (each lanes (λ k. view.first + at indices k)) values old

abbrev pub stored_in : View → Lanes → (indices values : List ℕ) → Regions → Regions
stored_in view lanes indices values regions =
    with_region (array_region view.array) (stored_region view lanes indices values (regions (array_region view.array))) regions

-- ---- a round of a foreach form

-- variables are declared by these lanes, one after another
abbrev pub all_declared_in : (frame : ℕ) → Lanes → (given : List (Var × List ℕ)) → Regions → Regions
all_declared_in frame lanes [] regions = regions
all_declared_in frame lanes (x ∷ given) regions = all_declared_in frame lanes given (declared_in frame x.0.id x.0.rate lanes x.1 regions)

-- what is left behind the round is counted, its lanes go on to the body, and they declare the index variables
abbrev pub round_in : (frame level : ℕ) → Lanes → (body : StepNumber) → (counters : List ℕ) → (indices : List (Var × List ℕ)) → Regions → Regions
round_in frame level lanes body counters indices regions =
    all_declared_in frame lanes indices (sent_on frame level lanes (λ k. body) (with_region (OfLevel frame level CountersOf) counters regions))
