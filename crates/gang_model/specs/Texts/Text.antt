-- The texts of answers (choices of this project).
use Rattle.std.specs.Prelude.{ℕ, ◌==◌, not, List, [], ◌∷◌, ◌++◌, filter, flat_map, length, Option, Some, None, slice_get, codes, decimal, if◌then◌else◌}
use Rattle.std.specs.Fmt.{signed_decimal}
use Rattle.gang_types.specs.declared.types.IntType.{IntType}
use Rattle.gang_types.specs.declared.types.IntType.TheVariants as t
use Rattle.gang_types.specs.declared.faults.FaultName.{FaultName}
use Rattle.gang_types.specs.declared.faults.FaultName.TheVariants.{DivideByZero, Index, LaneIndex, Assert, CallDepth}
use Rattle.gang_types.specs.declared.places.Place.{Place}
use Rattle.gang_types.specs.declared.places.Spot.{Spot}
use Rattle.gang_types.specs.Values.{value_of}
use Rattle.gang_types.specs.Lanes.{Lanes}
use Rattle.gang_model.specs.Types.Tree.{StepNumber, Variable, Standing, Function, Program}
use Rattle.gang_model.specs.Running.State.{Frame, State}
use Rattle.gang_model.specs.Debugger.Positions.{frame_spot, frame_lanes, spot_in, standing_at, scope_now}
use Rattle.gang_model.specs.Debugger.Debugger.{Target, Stop, Line, Watch, Debugger, Refusal, BadCommand, NoSuchName, NoHistory, Ended, Outermost, NoLine, OutOfRange, Constant, NoSuchNumber, TableFull, Memory, Answer, Here, AtBreakpoint, AtWatch, AtFault, HistoryEnd, StepLimit, UndoneStep, UndonePoke, Shows, BreaksAt, Watches, Deleted, ListsStops, ListsLocals, ListsFrames, Silent, KeepsHistory, Refused, Setting, now, target_words}

-- a text's bytes
abbrev pub Bytes : Type 0
Bytes = List ℕ

-- a line with its end
abbrev pub line : Bytes → Bytes
line text = text ++ 10 ∷ []

-- lane 0 first, 1 for each lane of the set
abbrev pub bits : Lanes → Bytes
bits [] = []
bits (b ∷ lanes) = (if b then 49 else 48) ∷ bits lanes

-- LINE:COL
abbrev pub line_and_column : Place → Bytes
line_and_column place = decimal place.line ++ codes ":" ++ decimal place.col

-- the text of a standing in a function
abbrev pub standing_text : Option Standing → Option Function → (depth : ℕ) → Lanes → Bytes
standing_text (Some standing) (Some f) deep lanes =
    codes "at " ++ line_and_column standing.place ++ codes " " ++ f.name ++ codes " depth " ++ decimal deep ++ codes " lanes " ++ bits lanes
standing_text standing f deep lanes = []

-- at LINE:COL FUNCTION depth D lanes BITS
abbrev pub place_text : Program → Spot → (depth : ℕ) → Lanes → Bytes
place_text p spot deep lanes = standing_text (standing_at p spot) (slice_get p.functions spot.function.0) deep lanes

-- the place text of the top frame, or `ended`
abbrev pub frames_text : Program → List Frame → Bytes
frames_text p [] = codes "ended"
frames_text p (frame ∷ frames) = place_text p (frame_spot p frame) (length (frame ∷ frames)) (frame_lanes frame)

-- the place text of a state
abbrev pub where_text : Program → State → Bytes
where_text p state = frames_text p state.frames

-- the place of the call that a frame made, with its depth and the lanes of the call
abbrev pub call_line : Program → Option StepNumber → (function depth : ℕ) → Lanes → Bytes
call_line p None function deep lanes = []
call_line p (Some number) function deep lanes = line (place_text p (spot_in function number) deep lanes)

-- a line for each frame below one, with the place and the lanes of the call that it made
abbrev pub outer_lines : Program → Frame → List Frame → Bytes
outer_lines p inner [] = []
outer_lines p inner (frame ∷ frames) = call_line p inner.call frame.function (length (frame ∷ frames)) inner.lanes ++ outer_lines p frame frames

-- a line for each frame, the top one first, or `ended`
abbrev pub frame_lines : Program → List Frame → Bytes
frame_lines p [] = line (codes "ended")
frame_lines p (frame ∷ frames) = line (frames_text p (frame ∷ frames)) ++ outer_lines p frame frames

-- a value
abbrev pub word_text : IntType → ℕ → Bytes
word_text t.Bool word = if word == 0 then codes "false" else codes "true"
word_text ty word = signed_decimal (value_of ty word)

-- [K] of a lane or an element
abbrev pub index_text : Option ℕ → Bytes
index_text None = []
index_text (Some k) = codes "[" ++ decimal k ++ codes "]"

-- NAME or NAME[K]
abbrev pub target_text : Target → Bytes
target_text target = target.name ++ index_text target.at

-- a target, ` =`, and a blank and the value for each lane or element
abbrev pub shown_line : State → Target → Variable → Bytes
shown_line state target v = line (target_text target ++ codes " =" ++ flat_map (λ word. codes " " ++ word_text v.type word) (target_words state target v))

-- a whole variable
abbrev pub whole : Variable → Target
whole v = record { name = v.name; at = None }

-- a line for each variable in scope, without the parameters
abbrev pub locals_lines : State → List Variable → Bytes
locals_lines state scope = flat_map (λ v. shown_line state (whole v) v) (filter (λ v. not v.is_parameter) scope)

-- `none` where there is no line
abbrev pub or_none : Bytes → Bytes
or_none [] = line (codes "none")
or_none (b ∷ bytes) = b ∷ bytes

-- a breakpoint or watch behind its number
abbrev pub stop_text : Stop → Bytes
stop_text (Line l) = codes " breakpoint line " ++ decimal l
stop_text (Watch target v) = codes " watch " ++ target_text target

-- a line for each breakpoint and watch
abbrev pub stop_lines : List (ℕ × Stop) → Bytes
stop_lines stops = flat_map (λ entry. line (decimal entry.0 ++ stop_text entry.1)) stops

-- a fault's number and name
abbrev pub fault_text : FaultName → Bytes
fault_text DivideByZero = codes "F1 DivideByZero"
fault_text Index = codes "F2 Index"
fault_text LaneIndex = codes "F3 LaneIndex"
fault_text Assert = codes "F4 Assert"
fault_text CallDepth = codes "F5 CallDepth"

-- a refusal's number and name
abbrev pub refusal_text : Refusal → Bytes
refusal_text BadCommand = codes "C1 BadCommand"
refusal_text NoSuchName = codes "C2 NoSuchName"
refusal_text NoHistory = codes "C3 NoHistory"
refusal_text Ended = codes "C4 Ended"
refusal_text Outermost = codes "C6 Outermost"
refusal_text NoLine = codes "C7 NoLine"
refusal_text OutOfRange = codes "C8 OutOfRange"
refusal_text Constant = codes "C9 Constant"
refusal_text NoSuchNumber = codes "C10 NoSuchNumber"
refusal_text TableFull = codes "C11 TableFull"
refusal_text Memory = codes "C12 Memory"

-- a word or two, and where the program stands
abbrev pub stopped : Bytes → Setting → Debugger → Bytes
stopped why s d = line (why ++ where_text s.program (now s d))

-- an answer's text, by what the debugger holds after it
abbrev pub text : Setting → Answer → Debugger → Bytes
text s Here d = stopped [] s d
text s (AtBreakpoint n) d = stopped (codes "breakpoint " ++ decimal n ++ codes ": ") s d
text s (AtWatch n) d = stopped (codes "watch " ++ decimal n ++ codes ": ") s d
text s (AtFault fault) d = stopped (codes "fault " ++ fault_text fault.name ++ codes " lane " ++ decimal fault.lane ++ codes ": ") s d
text s HistoryEnd d = stopped (codes "history end: ") s d
text s StepLimit d = stopped (codes "step limit: ") s d
text s UndoneStep d = stopped (codes "undone step: ") s d
text s UndonePoke d = stopped (codes "undone poke: ") s d
text s (Shows target v) d = shown_line (now s d) target v
text s (BreaksAt n l) d = line (codes "breakpoint " ++ decimal n ++ codes " at line " ++ decimal l)
text s (Watches n target) d = line (codes "watch " ++ decimal n ++ codes ": " ++ target_text target)
text s (Deleted None) d = line (codes "deleted all")
text s (Deleted (Some n)) d = line (codes "deleted " ++ decimal n)
text s ListsStops d = or_none (stop_lines d.stops)
text s ListsLocals d = or_none (locals_lines (now s d) (scope_now s.program (now s d)))
text s ListsFrames d = frame_lines s.program (now s d).frames
text s Silent d = []
text s (KeepsHistory n) d = line (codes "history " ++ decimal n)
text s (Refused r) d = line (refusal_text r)
