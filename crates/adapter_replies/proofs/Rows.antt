-- Worked rows of what an editor is told.
use Rattle.std.proofs.Common.{◌≡◌, refl, ap, ℕ, true, false, List, [], ◌∷◌, ◌++◌, Some, None, Ok, Err, codes, map, string_bytes, arith}
use Rattle.std.specs.Fmt.{digits}
use Rattle.std.specs.Prelude.{Option, length, nat_lt}
use Rattle.std.specs.List.{filter, join_by}
use Rattle.std.proofs.lemmas.Str.{IsUtf8-from_ascii, utf8_lossy-IsUtf8}
use Rattle.std.proofs.lemmas.Str.Ascii.{IsAscii-cons, IsAscii-nil}
use Rattle.gang_types.specs.declared.places.VarId.TheVariants.{File}
use Rattle.gang_types.specs.declared.types.IntType.TheVariants as t
use Rattle.gang_types.specs.declared.types.Rate.TheVariants as rate
use Rattle.gang_types.specs.Lanes.{Lanes}
use Rattle.gang_types.specs.Values.{value_of}
use Rattle.gang_model.specs.Types.Tree.{Function, Program, Standing, Variable}
use Rattle.gang_model.specs.Running.State.{Frame}
use Rattle.gang_model.specs.Debugger.Debugger.{Line, Setting, Stop, Target, Watch}
use Rattle.gang_model.specs.Texts.CommandText.{commands}
use Rattle.gang_model.specs.Texts.Text.{Bytes, bits}
use Rattle.debug_answers.specs.declared.answer.Answer.TheVariants as answer
use Rattle.debug_answers.specs.declared.answer.Refusal.TheVariants as refusal
use Rattle.adapter_requests.specs.declared.reply.Breakpoint.TheVariants.{Stands, Refused}
use Rattle.adapter_requests.specs.declared.reply.BreakpointFault.TheVariants as fault
use Rattle.adapter_requests.specs.declared.reply.Reply.TheVariants as reply
use Rattle.adapter_requests.specs.declared.reply.StopReason.TheVariants as reason
use Rattle.adapter_requests.specs.declared.reply.VariableKind.TheVariants as kind
use Rattle.adapter_requests.specs.declared.request.Context.TheVariants.{Console, Hover, Watch}
use Rattle.adapter_requests.specs.declared.request.Filter.TheVariants as filter
use Rattle.adapter_requests.specs.declared.request.Page.{Page}
use Rattle.adapter_requests.specs.declared.request.Request.TheVariants as request
use Rattle.adapter_requests.specs.declared.request.LineBreakpoint.{LineBreakpoint}
use Rattle.adapter_replies.specs.declared.places.Place.TheVariants as place
use Rattle.adapter_replies.specs.Breakpoints.{breakpoint_of, is_part, on_function, told_breakpoint, watches_target}
use Rattle.adapter_replies.specs.Children.{expression_in, told_lanes}
use Rattle.adapter_replies.specs.Columns.{front, utf16_length}
use Rattle.adapter_replies.specs.Completions.{command_names, completed, frame_or, name_length}
use Rattle.value_digits.specs.declared.digits.Digits.TheVariants as in_digits
use Rattle.adapter_replies.specs.declared.forms.Form.TheVariants as form
use Rattle.adapter_replies.specs.Forms.{asked_form}
use Rattle.adapter_replies.specs.Frames.{ToldFrame, all_frames, asked_frames, call_frame, call_told, calls_told, frame_name, standing_frame}
use Rattle.adapter_replies.specs.declared.places.Scope.TheVariants.{Locals, Arguments}
use Rattle.adapter_replies.specs.References.{depth_in, is_set_there, place_now, place_of}
use Rattle.adapter_replies.specs.Meanings.{meaning_of, told_text, unset_text}
use Rattle.adapter_replies.specs.Shown.{shown_text, without_end}
use Rattle.adapter_replies.specs.Stopped.{goto_reason, reason_of}
use Rattle.adapter_replies.specs.Expressions.{lanes_text, one_text, shown_in}
use Rattle.adapter_replies.specs.Pages.{named_children, paged}
use Rattle.adapter_replies.specs.Told.{IsEvaluated, IsMoveTold, as_set, fixed_reply, is_expression, set_place, set_unsaid}
use Rattle.adapter_replies.specs.Variables.{has_range, range_count, ranges_in, told_parts, type_text, values, waits_at, whole_text}
use Rattle.adapter_replies.specs.Waiting.{waits}

-- ---- references

locals_of_the_entry : place_of 11 ≡ place.Variables Locals 1
locals_of_the_entry = refl

parameters_at_depth_64 : place_of 642 ≡ place.Variables Arguments 64
parameters_at_depth_64 = refl

first_local : place_of 13 ≡ place.Parts Locals 1 0
first_local = refl

second_parameter : place_of 1034 ≡ place.Parts Arguments 3 1
second_parameter = refl

third_of_file : place_of 2006 ≡ place.OfFile 2
third_of_file = refl

-- of a program at depth 2 no frame is at depth 3
frame_that_is_gone : place_now 2 31 ≡ place.Nothing
frame_that_is_gone = refl

outer_frame : place_now 2 11 ≡ place.Variables Locals 1
outer_frame = refl

set_in_the_top_frame : is_set_there 2 (place_of 21) ≡ true
set_in_the_top_frame = refl

set_in_the_outer_frame : is_set_there 2 (place_of 11) ≡ true
set_in_the_outer_frame = refl

not_set_in_a_frame_that_is_gone : is_set_there 2 (place_of 31) ≡ false
not_set_in_a_frame_that_is_gone = refl

-- a lane of the outer frame, and a variable of the file
depth_of_a_lane : depth_in 2 (place_of 1013) ≡ 1
depth_of_a_lane = refl

depth_of_the_file : depth_in 2 (place_of 2006) ≡ 2
depth_of_the_file = refl

-- the third range of the fourth variable of the file, and the second of the second parameter at depth 2
range_of_file : place_of 2003009 ≡ place.FileRange 3 2
range_of_file = refl

range_of_parameter : place_of 1001028 ≡ place.Range Arguments 2 1 1
range_of_parameter = refl

no_reference : place_of 0 ≡ place.Nothing
no_reference = refl

-- the expressions of a table are counted from 0, and there are at most 64
second_expression : place_of 2000 ≡ place.Expression 1
second_expression = refl

no_65th_expression : place_of 65000 ≡ place.Nothing
no_65th_expression = refl

no_expression_is_set : is_set_there 1 (place_of 1000) ≡ false
no_expression_is_set = refl

-- ---- variables

-- the word of -1 is 2 ^ 64 - 1
two_values : values form.Value t.Int8 (1 ∷ 18446744073709551615 ∷ []) ≡ codes "1 -1"
unfolding digits value_of
two_values = refl

truth_values : values form.Value t.Bool (0 ∷ 1 ∷ []) ≡ codes "false true"
truth_values = refl

-- hexadecimal numbers have the bits of their type, and bools stay words; digits that a line of the console asks for are written of bools too
hexadecimal_values : values form.Hexadecimal t.Int8 (1 ∷ 18446744073709551615 ∷ []) ≡ codes "0x1 0xff"
unfolding digits
hexadecimal_values = refl

hexadecimal_truth : values form.Hexadecimal t.Bool (0 ∷ 1 ∷ []) ≡ codes "false true"
hexadecimal_truth = refl

binary_truth : values (form.In in_digits.Binary) t.Bool (0 ∷ 1 ∷ []) ≡ codes "0 1"
unfolding digits
binary_truth = refl

digits_before_hexadecimal : asked_form true (Some in_digits.Decimal) ≡ form.In in_digits.Decimal
digits_before_hexadecimal = refl

an_array : whole_text form.Value t.Int32 true (7 ∷ 8 ∷ 9 ∷ []) ≡ codes "3 elements"
unfolding digits
an_array = refl

type_of_array : type_text rate.Varying t.Int32 true 4 ≡ codes "varying int32[4]"
unfolding digits
type_of_array = refl

abbrev uniform_scalar : Variable
uniform_scalar = record { name = codes "n"; id = File 0; type = t.Int32; rate = rate.Uniform; is_array = false; is_parameter = false; is_constant = false }

abbrev varying_scalar : Variable
varying_scalar = record { name = codes "x"; id = File 1; type = t.Int32; rate = rate.Varying; is_array = false; is_parameter = false; is_constant = false }

-- a page that asks for no places
abbrev whole_page : Page
whole_page = record { start = None; count = None; filter = filter.All }

no_parts : told_parts form.Value whole_page (true ∷ []) place.Nothing uniform_scalar (5 ∷ []) ≡ []
no_parts = refl

lane_values : map (λ told. told.value) (told_parts form.Value whole_page (true ∷ false ∷ []) place.Nothing varying_scalar (5 ∷ 6 ∷ [])) ≡ codes "5" ∷ codes "6" ∷ []
unfolding digits value_of
lane_values = refl

lane_kinds : map (λ told. told.kind) (told_parts form.Value whole_page (true ∷ false ∷ []) place.Nothing varying_scalar (5 ∷ 6 ∷ [])) ≡ kind.Plain ∷ kind.Waits ∷ []
unfolding digits value_of
lane_kinds = refl

-- in a program that has ended no lane waits, and no element of an array does
none_waits : waits [] 1 ≡ false
none_waits = refl

no_element_waits : waits_at (true ∷ false ∷ []) true 1 ≡ false
no_element_waits = refl

-- each lane can be set, and one of an expression is only looked at
lanes_to_be_set : map (λ told. told.is_read_only) (told_parts form.Value whole_page (true ∷ false ∷ []) place.Nothing varying_scalar (5 ∷ 6 ∷ [])) ≡ false ∷ false ∷ []
unfolding digits value_of
lanes_to_be_set = refl

lanes_looked_at : map (λ told. told.is_read_only) (told_lanes rate.Varying form.Value whole_page t.Int8 (true ∷ false ∷ []) (5 ∷ 6 ∷ []) 2) ≡ true ∷ true ∷ []
unfolding digits value_of
lanes_looked_at = refl

-- ---- pages

two_from_the_second : paged {A = ℕ} (record { start = Some 1; count = Some 2; filter = filter.All }) (7 ∷ 8 ∷ 9 ∷ 10 ∷ []) ≡ 8 ∷ 9 ∷ []
two_from_the_second = refl

all_for_0 : paged {A = ℕ} (record { start = None; count = Some 0; filter = filter.All }) (7 ∷ 8 ∷ []) ≡ 7 ∷ 8 ∷ []
all_for_0 = refl

no_variable_is_indexed : named_children {A = ℕ} filter.Indexed (7 ∷ []) ≡ []
no_variable_is_indexed = refl

three_ranges : ranges_in 2500 ≡ 3
three_ranges = refl

last_range : range_count 2500 2 ≡ 500
last_range = refl

no_range_behind : has_range true 2000 2 ≡ false
no_range_behind = refl

no_range_of_few : has_range true 1000 0 ≡ false
no_range_of_few = refl

-- ---- expressions

a_lane_without_a_value : lanes_text form.Value t.Int8 (true ∷ false ∷ true ∷ []) (5 ∷ 6 ∷ 18446744073709551615 ∷ []) 3 ≡ codes "5 . -1"
unfolding digits value_of
a_lane_without_a_value = refl

of_the_lowest_lane : one_text form.Value t.Bool (false ∷ true ∷ []) (0 ∷ 1 ∷ []) ≡ codes "true"
of_the_lowest_lane = refl

in_no_lane : one_text form.Value t.Bool (false ∷ false ∷ []) (0 ∷ 1 ∷ []) ≡ codes "."
in_no_lane = refl

-- a lane that waits is marked and has no value; a uniform value has no lanes
names_of_lanes : map (λ told. told.name) (told_lanes rate.Varying form.Value whole_page t.Int8 (true ∷ false ∷ []) (5 ∷ 0 ∷ []) 2) ≡ codes "[0]" ∷ codes "[1]" ∷ []
unfolding digits value_of
names_of_lanes = refl

values_of_lanes : map (λ told. told.value) (told_lanes rate.Varying form.Value whole_page t.Int8 (true ∷ false ∷ []) (5 ∷ 0 ∷ []) 2) ≡ codes "5" ∷ codes "." ∷ []
unfolding digits value_of
values_of_lanes = refl

kinds_of_lanes : map (λ told. told.kind) (told_lanes rate.Varying form.Value whole_page t.Int8 (true ∷ false ∷ []) (5 ∷ 0 ∷ []) 2) ≡ kind.Lane false ∷ kind.Lane true ∷ []
unfolding digits value_of
kinds_of_lanes = refl

lanes_of_a_uniform_value : told_lanes rate.Uniform form.Value whole_page t.Int8 (true ∷ false ∷ []) (5 ∷ 0 ∷ []) 2 ≡ []
lanes_of_a_uniform_value = refl

-- a line of the console that spells a command opens nothing, and of one that prints an expression what stands behind the word
of_a_command : expression_in Console (codes "info locals") ≡ None
of_a_command = refl

of_what_is_printed : expression_in Console (codes "p/x v + 1") ≡ Some (codes " v + 1")
of_what_is_printed = refl

short_under_the_mouse : shown_in Hover (codes "5 6") ≡ codes "5 6"
short_under_the_mouse = refl

-- a text that names no variable is an expression, but for a line of the console that is a command
an_expression : is_expression Watch (codes "v + 1") (answer.Refused refusal.BadCommand) ≡ true
an_expression = refl

a_place_past_the_end : is_expression Watch (codes "a[9]") (answer.Refused refusal.OutOfRange) ≡ false
a_place_past_the_end = refl

-- ---- frames

abbrev some_lanes : Lanes
some_lanes = true ∷ false ∷ true ∷ true ∷ []

name_of_frame : frame_name (codes "f") some_lanes ≡ codes "f [1011]"
name_of_frame = ap (λ name. name ++ codes " [" ++ bits some_lanes ++ codes "]") (utf8_lossy-IsUtf8 (codes "f") (IsUtf8-from_ascii (codes "f") (IsAscii-cons 102 [] (omega arith) IsAscii-nil)))

-- a program that has ended has none
ended : (p : Program) → all_frames p [] ≡ []
ended p = refl

-- two frames behind the first of four; a place behind all of them has none; and no number and 0 are all
abbrev a_frame : ℕ → ToldFrame
a_frame deep = record { depth = deep; name = codes "f [1]"; place = codes "3:5" }

abbrev four_frames : List ToldFrame
four_frames = a_frame 4 ∷ a_frame 3 ∷ a_frame 2 ∷ a_frame 1 ∷ []

two_behind_the_first : asked_frames (Some 1) (Some 2) four_frames ≡ a_frame 3 ∷ a_frame 2 ∷ []
two_behind_the_first = refl

behind_all : asked_frames (Some 4) (Some 2) four_frames ≡ []
behind_all = refl

all_from_the_third : asked_frames (Some 2) (Some 0) four_frames ≡ a_frame 2 ∷ a_frame 1 ∷ []
all_from_the_third = refl

all_of_them : asked_frames None None four_frames ≡ four_frames
all_of_them = refl

no_function : (standing : Standing) → standing_frame (Some standing) None 2 some_lanes ≡ []
no_function standing = refl

depth_of_frame : (standing : Standing) (f : Function) → map (λ frame. frame.depth) (standing_frame (Some standing) (Some f) 2 some_lanes) ≡ 2 ∷ []
depth_of_frame standing f = refl

-- of two frames the outer one, at depth 1, by the call that it made; the only frame made none
outer_of_two : (p : Program) (inner frame : Frame) → call_told p 1 (inner ∷ frame ∷ []) ≡ call_frame p inner.call frame.function 1 inner.lanes
outer_of_two p inner frame = refl

only_frame : (p : Program) (frame : Frame) → calls_told p (frame ∷ []) 1 ≡ []
only_frame p frame = refl

-- ---- what requests are told

threads : fixed_reply request.Threads ≡ None
threads = refl

frames_differ : (thread start levels : Option ℕ) → fixed_reply (request.StackTrace thread start levels) ≡ None
frames_differ thread start levels = refl

no_move : (text : Bytes) → IsMoveTold None text reply.Done
no_move text = refl

move_behind_the_end : (text : Bytes) → IsMoveTold (Some (answer.Refused refusal.Ended)) text reply.Ended
move_behind_the_end text = refl

-- ---- breakpoints

abbrev on_two_lines : List (ℕ × Stop)
on_two_lines = (2, Line 7) ∷ (3, Line 5) ∷ (4, Line 5) ∷ []

least_number : breakpoint_of on_two_lines (Some 5) ≡ Stands 3 (Some 5)
least_number = refl

no_number : breakpoint_of on_two_lines (Some 6) ≡ Refused fault.Full
no_number = refl

no_step : breakpoint_of on_two_lines None ≡ Refused fault.NoStep
no_step = refl

in_another_source : (s : Setting) (asked : LineBreakpoint) → told_breakpoint s false on_two_lines (Ok asked) ≡ Refused fault.OtherSource
in_another_source s asked = refl

on_a_condition : (s : Setting) → told_breakpoint s true on_two_lines (Err fault.Logging) ≡ Refused fault.Logging
on_a_condition s = refl

-- ---- functions

-- a breakpoint on the first line of a function, and a name that is no function's
on_its_line : on_function on_two_lines (Some 6) ≡ breakpoint_of on_two_lines (Some 6)
on_its_line = refl

not_a_function : on_function on_two_lines None ≡ Refused fault.NoFunction
not_a_function = refl

-- ---- watches

abbrev element : (index : ℕ) → Target
element index = record { name = codes "a"; at = Some index }

abbrev whole : Bytes → Target
whole name = record { name = name; at = None }

same_element : (v : Variable) → watches_target (element 2) (Watch (element 2) v) ≡ true
same_element v = refl

another_element : (v : Variable) → watches_target (element 2) (Watch (element 1) v) ≡ false
another_element v = refl

element_of_the_whole : (v : Variable) → watches_target (element 2) (Watch (whole (codes "a")) v) ≡ false
element_of_the_whole v = refl

another_name : (v : Variable) → watches_target (whole (codes "a")) (Watch (whole (codes "b")) v) ≡ false
another_name v = refl

no_watch_of_a_line : watches_target (whole (codes "a")) (Line 5) ≡ false
no_watch_of_a_line = refl

whole_scalar : is_part None false rate.Varying 4 ≡ true
whole_scalar = refl

whole_array : is_part None true rate.Uniform 4 ≡ false
whole_array = refl

last_element : is_part (Some 3) true rate.Uniform 4 ≡ true
last_element = refl

past_the_end : is_part (Some 4) true rate.Uniform 4 ≡ false
past_the_end = refl

part_of_a_scalar : is_part (Some 0) false rate.Uniform 1 ≡ false
part_of_a_scalar = refl

-- ---- by the last answer

-- an expression is told its values alone, a line of the console its answer
values_alone : (target : _) (shown : _) (told : _) (name text : Bytes) → IsEvaluated Watch name false (Some (answer.Shows target shown)) text (string_bytes told) (reply.Evaluated told None 0)
values_alone target shown told name text = refl

whole_answer : (target : _) (shown : _) (told : _) (name text words : Bytes) → string_bytes told ≡ shown_text text
    → IsEvaluated Console name false (Some (answer.Shows target shown)) text words (reply.Evaluated told None 0)
whole_answer target shown told name text words is = ap (λ line. Some (None, line)) is

-- a refusal is told as one
refused_place : (told : _) (name text words : Bytes) → string_bytes told ≡ told_text (answer.Refused refusal.OutOfRange) text → IsEvaluated Watch name false (Some (answer.Refused refusal.OutOfRange)) text words (reply.Refused told)
refused_place told name text words is = ap (λ line. Some (None, line)) is

no_refused_value : (told : _) (why : _) (name text words : Bytes) → IsEvaluated Watch name false (Some (answer.Refused refusal.OutOfRange)) text words (reply.Evaluated told why 0) → ⊥
no_refused_value told why name text words says = cc says

-- behind its number and name a refusal is told with what it means
no_history : (text : Bytes) → shown_text text ≡ codes "C3 NoHistory" → told_text (answer.Refused refusal.NoHistory) text ≡ codes "C3 NoHistory: nothing is kept that could be taken back"
no_history text is = ap (λ shown. (shown ++ codes ": ") ++ meaning_of refusal.NoHistory) is

outermost : (text : Bytes) → shown_text text ≡ codes "C6 Outermost" → told_text (answer.Refused refusal.Outermost) text ≡ codes "C6 Outermost: this is the outermost frame, which no other called"
outermost text is = ap (λ shown. (shown ++ codes ": ") ++ meaning_of refusal.Outermost) is

no_refusal : (text : Bytes) → told_text answer.HistoryEnd text ≡ shown_text text
no_refusal text = refl

-- a value that is none means another thing than a line that is no command
no_value : unset_text (answer.Refused refusal.BadCommand) (codes "C1 BadCommand\n") ≡ codes "C1 BadCommand: a variable, a lane or an element is set to a number, true or false"
no_value = refl

unset_constant : (text : Bytes) → shown_text text ≡ codes "C9 Constant" → unset_text (answer.Refused refusal.Constant) text ≡ codes "C9 Constant: constants and the indices of foreach are not set"
unset_constant text is = ap (λ shown. (shown ++ codes ": ") ++ meaning_of refusal.Constant) is

-- a value that was set in an outer frame: the answer says nothing, nor does that to another line
set_in_an_outer_frame : set_unsaid answer.Silent Console (codes "set var x[1] = 5") ≡ Some (record { name = codes "x"; at = Some 1 })
set_in_an_outer_frame = refl

nothing_is_set : set_unsaid answer.Silent Console (codes "quit") ≡ None
nothing_is_set = refl

set_in_the_top_frame_then : (target : _) (shown : _) → set_unsaid (answer.Shows target shown) Console (codes "set var x[1] = 5") ≡ None
set_in_the_top_frame_then target shown = refl

value_that_was_set : (told : _) → as_set (reply.Evaluated told None 13) ≡ reply.Set told 13
value_that_was_set told = refl

lanes_of_what_was_set : (told : _) → set_place (reply.Set told 2033) ≡ place.Parts Locals 3 2
lanes_of_what_was_set told = refl

nothing_opens_of_a_refusal : (text : _) → set_place (reply.Refused text) ≡ place.Nothing
nothing_opens_of_a_refusal text = refl

at_watch : reason_of (answer.AtWatch 3) ≡ Some (reason.DataBreakpoint 3)
at_watch = refl

last_line : without_end (codes "ok\n") ≡ codes "ok"
last_line = refl

-- ---- names that are completed

-- the commands are those of the table with more than two letters, by their words
commands_of_the_table : command_names ≡ filter (λ name. nat_lt 2 (length name)) (map (λ entry. join_by (λ word. word) (codes " ") entry.0) commands)
commands_of_the_table = refl

-- a name at the end of a text is replaced from its first letter on, and a name that begins otherwise does not stand there
abbrev the_front : Bytes
the_front = front (codes "k + t - 1") 6

its_name : name_length the_front ≡ 1
its_name = refl

two_of_three : completed the_front 1 (codes "total" ∷ codes "k" ∷ codes "table" ∷ []) ≡ record { name = codes "total"; start = 5; many = 1 } ∷ record { name = codes "table"; start = 5; many = 1 } ∷ []
two_of_three = refl

-- U+00E9 (two bytes), U+20AC (three) and U+1D11E (four) have one unit, one and two; before the third column stand the first two
abbrev letters : Bytes
letters = 195 ∷ 169 ∷ 226 ∷ 130 ∷ 172 ∷ 240 ∷ 157 ∷ 132 ∷ 158 ∷ []

four_units : utf16_length letters ≡ 4
four_units = refl

two_letters : front letters 3 ≡ 195 ∷ 169 ∷ 226 ∷ 130 ∷ 172 ∷ []
two_letters = refl

-- no character is cut: one of two units stands behind a column in its midst
not_cut : front letters 4 ≡ front letters 3
not_cut = refl

all_letters : front letters 5 ≡ letters
all_letters = refl

-- a name behind them begins at their units, not at their bytes
behind_letters : completed (letters ++ codes "ta") 2 (codes "table" ∷ []) ≡ record { name = codes "table"; start = 5; many = 2 } ∷ []
behind_letters = refl

-- each name can stand where nothing is
anything : completed [] 0 (codes "x" ∷ []) ≡ record { name = codes "x"; start = 1; many = 0 } ∷ []
anything = refl

top_frame : frame_or 3 None ≡ 3
top_frame = refl

-- ---- where a program went

at_the_line : goto_reason answer.Here ≡ Some reason.Goto
at_the_line = refl

on_the_way : goto_reason (answer.AtBreakpoint 2) ≡ Some (reason.Breakpoint 2)
on_the_way = refl
