-- The text of a record: JSON, byte for byte.
use Rattle.std.specs.Prelude.{ℕ, ◌+◌, ◌-◌, ◌==◌, ◌&&◌, Bool, true, false, List, [], ◌∷◌, Option, Some, None, codes, decimal, if◌then◌else◌, map, slice_get, slice_range}
use Rattle.std.specs.List.{concat}
use Rattle.gang_types.specs.declared.faults.FaultName.{FaultName}
use Rattle.gang_types.specs.declared.faults.FaultName.TheVariants.{DivideByZero, Index, LaneIndex, Assert, CallDepth}
use Rattle.gang_types.specs.declared.types.IntType.{IntType}
use Rattle.gang_types.specs.declared.types.IntType.TheVariants as t
use Rattle.gang_types.specs.declared.types.Rate.{Rate}
use Rattle.gang_types.specs.declared.types.Rate.TheVariants.{Uniform, Varying}
use Rattle.gang_types.specs.Masks.{lanes_of, word_of_lanes}
use Rattle.gang_types.specs.Values.{value_of}
use Rattle.gang_model.specs.Texts.Text.{Bytes}
use Rattle.lane_picture.specs.declared.columns.StepsEnd.{StepsEnd}
use Rattle.lane_picture.specs.declared.columns.StepsEnd.TheVariants as end
use Rattle.json_texts.specs.Json.{list_text, string_text, whole_text}
use Rattle.run_page.specs.declared.moments.Call.{Call}
use Rattle.run_page.specs.declared.moments.Moment.{Moment}
use Rattle.run_page.specs.declared.moments.Stand.{Stand}
use Rattle.run_page.specs.declared.page.Subject.{Subject}
use Rattle.run_page.specs.declared.record.Record.{Record}
use Rattle.run_page.specs.declared.variables.Variable.{Variable}
use Rattle.run_page.specs.declared.views.Change.{Change}
use Rattle.run_page.specs.declared.views.Change.TheVariants as change
use Rattle.run_page.specs.Moments.{steps_of}
use Rattle.run_page.specs.Recording.{changes_of}

-- ---- how a run ended

-- a fault's number and name
abbrev pub fault_number : FaultName → Bytes
fault_number DivideByZero = codes "F1"
fault_number Index = codes "F2"
fault_number LaneIndex = codes "F3"
fault_number Assert = codes "F4"
fault_number CallDepth = codes "F5"

abbrev pub fault_name : FaultName → Bytes
fault_name DivideByZero = codes "DivideByZero"
fault_name Index = codes "Index"
fault_name LaneIndex = codes "LaneIndex"
fault_name Assert = codes "Assert"
fault_name CallDepth = codes "CallDepth"

-- a word, and of a fault its number, its name and its lane
abbrev pub end_text : StepsEnd → Bytes
end_text end.Ended = list_text (string_text (codes "ended") ∷ [])
end_text end.StepLimit = list_text (string_text (codes "limit") ∷ [])
end_text (end.AtFault fault) = list_text (string_text (codes "fault") ∷ string_text (fault_number fault.name) ∷ string_text (fault_name fault.name) ∷ decimal fault.lane ∷ [])

-- ---- variables

abbrev pub type_name : IntType → Bytes
type_name t.Bool = codes "bool"
type_name t.Int8 = codes "int8"
type_name t.Int16 = codes "int16"
type_name t.Int32 = codes "int32"
type_name t.Int64 = codes "int64"
type_name t.Uint8 = codes "uint8"
type_name t.Uint16 = codes "uint16"
type_name t.Uint32 = codes "uint32"
type_name t.Uint64 = codes "uint64"

-- what the words of a variable are: elements of an array, lanes, or one for all lanes
abbrev pub kind_name : (is_array : Bool) → Rate → Bytes
kind_name true rate = codes "elements"
kind_name false Varying = codes "lanes"
kind_name false Uniform = codes "one"

-- a variable: its depth, name and type, what its words are, and how many
abbrev pub variable_text : Variable → Bytes
variable_text v = list_text (decimal v.depth ∷ string_text v.name.items ∷ string_text (type_name v.shown.value_type) ∷ string_text (kind_name v.shown.is_array v.shown.rate) ∷ decimal v.shown.count ∷ [])

-- ---- changes

-- changes of the parts of one variable, one after another, by its number, the first part and the words; or that a variable is gone
pub data ChangeRow : Type 0 where
  Words : (variable first : ℕ) → (words : List ℕ) → ChangeRow
  Gone : (variable : ℕ) → ChangeRow

-- a change before rows: in the first of them, if that begins with the next part, and else in one of its own
abbrev pub row_before : Change → List ChangeRow → List ChangeRow
row_before (change.Gone v) rows = Gone v ∷ rows
row_before (change.Word v part word) (Words w first words ∷ rows) =
    if (v == w) && (part + 1 == first) then Words v part (word ∷ words) ∷ rows else Words v part (word ∷ []) ∷ Words w first words ∷ rows
row_before (change.Word v part word) rows = Words v part (word ∷ []) ∷ rows

-- changes as rows
abbrev pub change_rows : List Change → List ChangeRow
change_rows [] = []
change_rows (it ∷ changes) = row_before it (change_rows changes)

-- the type of a variable that is there; one that is not has plain numbers
abbrev pub type_or_plain : Option Variable → IntType
type_or_plain None = t.Uint64
type_or_plain (Some v) = v.shown.value_type

-- the value of a word of a variable
abbrev pub value_text : List Variable → (variable word : ℕ) → Bytes
value_text variables v word = whole_text (value_of (type_or_plain (slice_get variables v)) word)

abbrev pub row_text : List Variable → ChangeRow → Bytes
row_text variables (Words v first words) = list_text (decimal v ∷ decimal first ∷ map (value_text variables v) words)
row_text variables (Gone v) = list_text (decimal v ∷ [])

abbrev pub changes_text : List Variable → List Change → Bytes
changes_text variables changes = list_text (map (row_text variables) (change_rows changes))

-- ---- moments

-- line, column, function, depth and lanes, the lowest bit for lane 0; all 0 where the program has ended
abbrev pub stand_text : Option Stand → Bytes
stand_text None = codes "0,0,0,0,0"
stand_text (Some s) = concat (decimal s.place.line ∷ codes "," ∷ decimal s.place.col ∷ codes "," ∷ decimal s.function ∷ codes "," ∷ decimal s.depth ∷ codes "," ∷ decimal (word_of_lanes (lanes_of 16 s.lanes)) ∷ [])

abbrev pub call_text : Call → Bytes
call_text call = list_text (decimal call.place.line ∷ decimal call.place.col ∷ decimal call.function ∷ [])

-- how many calls are open at a moment
abbrev pub call_count : Moment → ℕ
call_count moment = moment.kept_calls + (moment.end_of_calls - moment.first_call)

-- its calls are those of the moment before, which had so many
abbrev pub has_same_calls : (before : ℕ) → Moment → Bool
has_same_calls before moment = (moment.kept_calls == before) && (moment.end_of_calls - moment.first_call == 0)

-- the calls of a moment where they are not those of the one before: how many of these stay, and those that are added
abbrev pub calls_text : List Call → (before : ℕ) → Moment → Bytes
calls_text calls before moment = if has_same_calls before moment then []
    else concat (codes "," ∷ decimal moment.kept_calls ∷ codes "," ∷ list_text (map call_text (slice_range calls moment.first_call moment.end_of_calls)) ∷ [])

-- a moment on a line of its own: where it stands, its changes and its calls
abbrev pub moment_text : Record → (before : ℕ) → Moment → Bytes
moment_text kept before moment = concat
    (codes "\n[" ∷ stand_text moment.stand ∷ codes "," ∷ changes_text kept.variables.items (changes_of kept.changes.items moment) ∷ calls_text kept.calls.items before moment ∷ codes "]" ∷ [])

-- moments, the first of which has so many calls before it
abbrev pub moment_texts : Record → (before : ℕ) → List Moment → List Bytes
moment_texts kept before [] = []
moment_texts kept before (moment ∷ moments) = moment_text kept before moment ∷ moment_texts kept (call_count moment) moments

-- ---- all

-- what a record is of
abbrev pub head_text : Subject → Record → Bytes
head_text subject kept = concat (
    codes "{\"name\":" ∷ string_text subject.title.now
    ∷ codes ",\n\"source\":" ∷ string_text subject.source.now
    ∷ codes ",\n\"width\":" ∷ decimal kept.width
    ∷ codes ",\"first\":" ∷ decimal subject.first_number
    ∷ codes ",\"most_words\":" ∷ decimal subject.most_words
    ∷ codes ",\"end\":" ∷ [])

-- the record of a run of a subject that ended so
abbrev pub record_text : Subject → StepsEnd → Record → Bytes
record_text subject ended kept = concat (
    head_text subject kept ∷ end_text ended
    ∷ codes ",\n\"functions\":" ∷ list_text (map (λ name. string_text name.items) kept.functions.items)
    ∷ codes ",\n\"variables\":" ∷ list_text (map variable_text kept.variables.items)
    ∷ codes ",\n\"steps\":" ∷ list_text (map decimal (steps_of kept.moments.items))
    ∷ codes ",\n\"moments\":" ∷ list_text (moment_texts kept 0 kept.moments.items)
    ∷ codes "}" ∷ [])
