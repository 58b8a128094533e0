-- What a run is asked for, and which refusals of it are right.
use Rattle.std.specs.Prelude.{◌≡◌, ℕ, List, Option, Result, Err, Ok, option_map}
use Rattle.gang_model.specs.Debugger.Debugger.{fresh}
use Rattle.gang_model.specs.Debugger.Events.{Row}
use Rattle.gang_model.specs.Source.Parsed.{Name}
use Rattle.gang_model.specs.Source.Sources.{HasNoEntry, IsProgramOf, IsRightRefusal}
use Rattle.gang_model.specs.Texts.InputText.{InputRefusal, rows_of}
use Rattle.gang_model.specs.Texts.RunRefusals.{FromInput}
use Rattle.gang_model.specs.Texts.Text.{Bytes}
use Rattle.gang_model.specs.Texts.Transcript.{Options as ModelOptions, TranscribesWhole, setting}
use Rattle.gang_model.specs.Types.Tree.{Program}
use Rattle.debug_inputs.specs.declared.fault.InputFault.{InputFault}
use Rattle.debug_inputs.specs.declared.fault.InputFault.TheVariants as fault
use Rattle.ispc_options.specs.declared.options.Options.{Options}
use Rattle.ispc_options.specs.declared.options.Width.{Width}
use Rattle.ispc_options.specs.declared.options.Width.TheVariants.{Four, Eight, Sixteen}
use Rattle.ispc_refusals.specs.declared.refusal.Refusal.{Refusal}
use Rattle.ispc_refusals.specs.declared.refusal.Refusal.TheVariants as refusal
use Rattle.ispc_refusals.specs.Refusals.{input_view}

abbrev pub lanes_of : Width → ℕ
lanes_of Four = 4
lanes_of Eight = 8
lanes_of Sixteen = 16

-- the options of the definitions
abbrev pub options_view : Options → ModelOptions
options_view options = record { width = lanes_of options.width; history = options.history; steps = options.steps }

-- the name of the entry that is asked for, if one is
abbrev pub asked_of : Options → Option Name
asked_of options = option_map (λ name. name.now) options.entry

-- a text is accepted as this program with this entry, and an input as these rows of it
abbrev pub AreAcceptedAs : (text : List ℕ) → (asked : Option Name) → (input : List ℕ) → Program → (entry : ℕ) → List Row → Type 0
AreAcceptedAs text asked input program entry rows = IsProgramOf text asked program entry × (rows_of program entry input ≡ Ok rows)

-- they are accepted in one way at most
abbrev pub AreAcceptedOnce : (text : List ℕ) → (asked : Option Name) → (input : List ℕ) → Type 0
AreAcceptedOnce text asked input = (program other : Program) (entry another : ℕ) (rows more : List Row)
    → AreAcceptedAs text asked input program entry rows → AreAcceptedAs text asked input other another more → (program ≡ other) × (entry ≡ another) × (rows ≡ more)

-- in none
abbrev pub AreNotAccepted : (text : List ℕ) → (asked : Option Name) → (input : List ℕ) → Type 0
AreNotAccepted text asked input = (program : Program) (entry : ℕ) (rows : List Row) → AreAcceptedAs text asked input program entry rows → ⊥

-- the bytes are a transcript of the lines, without an answer C12, for a text and an input that are accepted
abbrev pub IsWholeTranscript : (text : List ℕ) → (asked : Option Name) → (input : List ℕ) → ModelOptions → List Bytes → Bytes → Type 0
IsWholeTranscript text asked input options lines out = (program : Program) × (entry : ℕ) × (rows : List Row)
    × AreAcceptedAs text asked input program entry rows × TranscribesWhole (setting program entry rows options) lines (fresh options.history) out

-- the lines have just one
abbrev pub HaveOneTranscript : (text : List ℕ) → (asked : Option Name) → (input : List ℕ) → ModelOptions → List Bytes → Type 0
HaveOneTranscript text asked input options lines = (out : Bytes) × IsWholeTranscript text asked input options lines out
    × ((other : Bytes) → IsWholeTranscript text asked input options lines other → other ≡ out)

-- how a fault of the input is told
abbrev pub told : InputFault → Refusal
told fault.Memory = refusal.Memory
told f = refusal.Input f

-- an input that is read so has this fault, which is not out of memory
abbrev pub IsInputFault : Result (List Row) InputRefusal → InputFault → Type 0
IsInputFault answer f = (why : InputRefusal) × (answer ≡ Err why) × (input_view f ≡ FromInput why)

-- whether a refusal of a run whose input is read so is right; out of memory may come at any time
abbrev pub IsRightForInput : Result (List Row) InputRefusal → Refusal → Type 0
IsRightForInput answer (refusal.Input f) = IsInputFault answer f
IsRightForInput answer refusal.Memory = Unit {0}
IsRightForInput answer r = ⊥

-- whether a refusal of a run of this text with this entry asked for, and with this input, is right; out of memory may come at any time
abbrev pub IsRight : (text : List ℕ) → (asked : Option Name) → (input : List ℕ) → Refusal → Type 0
IsRight text asked input (refusal.Source r) = IsRightRefusal text r
IsRight text asked input refusal.NoEntry = HasNoEntry text asked
IsRight text asked input refusal.NoScript = ⊥
IsRight text asked input (refusal.Input f) =
    (program : Program) × (entry : ℕ) × IsProgramOf text asked program entry × IsInputFault (rows_of program entry input) f
IsRight text asked input refusal.Memory = Unit {0}
