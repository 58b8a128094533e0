-- Examples of the definitions, computed.
use Rattle.std.proofs.Common.{◌≡◌, ◌^◌, true, false, [], Some, None, Ok, Err, codes, refl}
use Rattle.std.specs.Fmt.{digits}
use Rattle.std.specs.Path.{path_file_name, rsplit_once, split_last_component, trim_trailing}
use Rattle.serde_json.proofs.OnLiterals.{serde_json_on_literals}
use Rattle.serde_json.specs.Data.{Data, Members, array, boolean, item, member, no_items, no_members, null, object, string}
use Rattle.serde_json.specs.Find.{get}
use Rattle.adapter_requests.specs.declared.reply.Breakpoint.TheVariants.{Stands, Refused}
use Rattle.adapter_requests.specs.declared.reply.BreakpointFault.TheVariants as fault
use Rattle.adapter_requests.specs.declared.reply.StopReason.TheVariants as reason
use Rattle.adapter_messages.specs.Faults.{missing}
use Rattle.adapter_messages.specs.Messages.{error_body, natural, shows_user}
use Rattle.adapter_messages.specs.Names.{named}
use Rattle.adapter_requests.specs.declared.reply.VariableKind.TheVariants as kind
use Rattle.adapter_requests.specs.declared.request.Context.TheVariants.{Hover, Watch}
use Rattle.adapter_requests.specs.declared.request.Filter.TheVariants as filter
use Rattle.adapter_requests.specs.declared.request.Way.TheVariants.{Backwards, Forwards}
use Rattle.adapter_messages.specs.Arguments.{breakpoint_in, context_in, filter_in, function_in, head_of, hears_invalidated_in, hexadecimal_in, time_number, time_of, unmarked, watch_in}
use Rattle.adapter_messages.specs.Counts.{passes_said}
use Rattle.adapter_messages.specs.Replies.{attributes, breakpoint, file_name, file_scope, hint, known_scope, moved, only, scopes, set_value, stop_body, time, times, variable_of}

-- a request, a message of another type, and one of none
abbrev of_type : Members → Data
of_type type = object (member (codes "command") (string (codes "next")) (member (codes "seq") (natural 1) type))

a_request : head_of (of_type (member (codes "type") (string (codes "request")) no_members)) ≡ Some (1, codes "next")
a_request = refl

a_response : head_of (of_type (member (codes "type") (string (codes "response")) no_members)) ≡ None
a_response = refl

in_large_letters : head_of (of_type (member (codes "type") (string (codes "Request")) no_members)) ≡ None
in_large_letters = refl

no_type : head_of (of_type no_members) ≡ None
no_type = refl

-- a path with folders, one without, and one without a last part
behind_folders : file_name (codes "examples/first.ispc") ≡ codes "first.ispc"
unfolding path_file_name split_last_component trim_trailing rsplit_once
behind_folders = refl

-- a watch has no line, and what is not there has no number
a_watch : breakpoint (Stands 2 None) ≡ object (member (codes "id") (natural 2) (member (codes "verified") (boolean true) no_members))
a_watch = refl

nothing_there : get (codes "verified") (breakpoint (Refused fault.Full)) ≡ Some (boolean false)
nothing_there = refl

-- a stop at a breakpoint names it, and another stop names none
at_a_breakpoint : get (codes "hitBreakpointIds") (stop_body (reason.Breakpoint 3) 1 (codes "here")) ≡ Some (array (item (natural 3) no_items))
at_a_breakpoint = refl

at_a_step : get (codes "hitBreakpointIds") (stop_body reason.Step 1 (codes "here")) ≡ None
at_a_step = refl

-- a message with these arguments
abbrev given : Data → Data
given arguments = only (codes "arguments") arguments

-- of three arguments that are needed, the first that is not there
no_arguments : missing (codes "setVariable") (given (object no_members)) ≡ Some (codes "variablesReference")
unfolding serde_json_on_literals
no_arguments = refl

no_value : missing (codes "setVariable") (given (object (member (codes "name") (string (codes "x")) (member (codes "variablesReference") (natural 21) no_members)))) ≡ Some (codes "value")
unfolding serde_json_on_literals
no_value = refl

-- a reference that is a text
a_text_for_a_number : missing (codes "variables") (given (only (codes "variablesReference") (string (codes "1")))) ≡ Some (codes "variablesReference")
unfolding serde_json_on_literals
a_text_for_a_number = refl

-- a frame that is a text, and one that is `null`
abbrev in_frame : Data → Data
in_frame frame = given (object (member (codes "expression") (string (codes "x")) (member (codes "frameId") frame no_members)))

a_text_for_a_frame : missing (codes "evaluate") (in_frame (string (codes "2"))) ≡ Some (codes "frameId")
unfolding serde_json_on_literals
a_text_for_a_frame = refl

no_frame : missing (codes "evaluate") (in_frame null) ≡ None
unfolding serde_json_on_literals
no_frame = refl

-- a variable that is to be watched: by a reference that is a text, and by its name alone
abbrev watched : Data → Data
watched reference = given (object (member (codes "name") (string (codes "x")) (member (codes "variablesReference") reference no_members)))

a_text_for_a_reference : missing (codes "dataBreakpointInfo") (watched (string (codes "21"))) ≡ Some (codes "variablesReference")
unfolding serde_json_on_literals
a_text_for_a_reference = refl

no_reference : missing (codes "dataBreakpointInfo") (watched null) ≡ None
unfolding serde_json_on_literals
no_reference = refl

-- a width that is a text, and one that is left out
a_text_for_a_width : missing (codes "launch") (given (object (member (codes "program") (string (codes "a")) (member (codes "width") (string (codes "8")) no_members)))) ≡ Some (codes "width")
unfolding serde_json_on_literals
a_text_for_a_width = refl

a_program_alone : missing (codes "launch") (given (only (codes "program") (string (codes "a")))) ≡ None
unfolding serde_json_on_literals
a_program_alone = refl

-- a breakpoint with a condition, one with `null` for it, one that stops the third time, and one with no line
abbrev with_condition : Data → Data
with_condition condition = object (member (codes "condition") condition (member (codes "line") (natural 7) no_members))

a_condition : breakpoint_in (with_condition (string (codes "x > 0"))) ≡ Ok (record { line = 7; condition = Some (codes "x > 0"); passes = 0; log = None })
a_condition = refl

no_condition : breakpoint_in (with_condition null) ≡ Ok (record { line = 7; condition = None; passes = 0; log = None })
no_condition = refl

a_number_for_a_condition : breakpoint_in (with_condition (natural 1)) ≡ Err fault.NoCondition
a_number_for_a_condition = refl

an_empty_condition : breakpoint_in (with_condition (string [])) ≡ Ok (record { line = 7; condition = None; passes = 0; log = None })
an_empty_condition = refl

abbrev with_count : Data → Data
with_count count = object (member (codes "hitCondition") count (member (codes "line") (natural 7) no_members))

the_third_time : breakpoint_in (with_count (string (codes "3"))) ≡ Ok (record { line = 7; condition = None; passes = 2; log = None })
the_third_time = refl

-- counts, one that begins behind a stop, blanks around them, and other comparisons
from_the_third_time : passes_said (codes ">= 3") ≡ Ok 2
from_the_third_time = refl

behind_the_third_time : passes_said (codes ">3") ≡ Ok 3
behind_the_third_time = refl

in_blanks : passes_said (codes " >  3 ") ≡ Ok 3
in_blanks = refl

always : passes_said (codes "> 0") ≡ Ok 0
always = refl

the_last_stop : passes_said (codes "> 9999999") ≡ Ok 9999999
the_last_stop = refl

behind_the_last_stop : passes_said (codes "> 10000000") ≡ Err fault.NoCount
behind_the_last_stop = refl

from_no_stop : passes_said (codes ">=0") ≡ Err fault.NoCount
from_no_stop = refl

that_stop_alone : passes_said (codes "== 3") ≡ Err fault.NoCount
that_stop_alone = refl

up_to_it : passes_said (codes "<=3") ≡ Err fault.NoCount
up_to_it = refl

each_third_time : passes_said (codes "% 3") ≡ Err fault.NoCount
each_third_time = refl

no_number : passes_said (codes ">=") ≡ Err fault.NoCount
no_number = refl

never : breakpoint_in (with_count (string (codes "0"))) ≡ Err fault.NoCount
never = refl

no_line : breakpoint_in (object no_members) ≡ Err fault.Unplaced
no_line = refl

-- an empty count is none, and lines count from 1
an_empty_count : breakpoint_in (with_count (string [])) ≡ Ok (record { line = 7; condition = None; passes = 0; log = None })
an_empty_count = refl

a_number_for_a_count : breakpoint_in (with_count (natural 3)) ≡ Err fault.NoCount
a_number_for_a_count = refl

line_0 : breakpoint_in (only (codes "line") (natural 0)) ≡ Err fault.Unplaced
line_0 = refl

-- a text in place of a stop, an empty one, and a number for one
abbrev with_message : Data → Data
with_message message = object (member (codes "line") (natural 7) (member (codes "logMessage") message no_members))

a_message : breakpoint_in (with_message (string (codes "x is {x}"))) ≡ Ok (record { line = 7; condition = None; passes = 0; log = Some (codes "x is {x}") })
a_message = refl

an_empty_message : breakpoint_in (with_message (string [])) ≡ Ok (record { line = 7; condition = None; passes = 0; log = None })
an_empty_message = refl

a_number_for_a_message : breakpoint_in (with_message (natural 1)) ≡ Err fault.NoMessage
a_number_for_a_message = refl

-- a watch with a condition, one with a message, and one that is not named
a_watch_on_a_condition : watch_in (object (member (codes "condition") (string (codes "x > 0")) (member (codes "dataId") (string (codes "x")) no_members)))
    ≡ Ok (record { name = codes "x"; condition = Some (codes "x > 0"); passes = 0 })
a_watch_on_a_condition = refl

a_watch_with_a_message : watch_in (object (member (codes "dataId") (string (codes "x")) (member (codes "logMessage") (string (codes "x")) no_members))) ≡ Err fault.Logging
a_watch_with_a_message = refl

a_watch_of_nothing : watch_in (only (codes "name") (string (codes "x"))) ≡ Err fault.Unplaced
a_watch_of_nothing = refl

-- a breakpoint of a function, from its third stop on
a_function : function_in (object (member (codes "hitCondition") (string (codes "3")) (member (codes "name") (string (codes "scale")) no_members)))
    ≡ Ok (record { name = codes "scale"; condition = None; passes = 2 })
a_function = refl

a_number_for_a_function : function_in (only (codes "name") (natural 1)) ≡ Err fault.Unplaced
a_number_for_a_function = refl

-- values are hexadecimal numbers where that is asked for, and not by a word for it
in_hexadecimal : hexadecimal_in (given (only (codes "format") (only (codes "hex") (boolean true)))) ≡ true
unfolding serde_json_on_literals
in_hexadecimal = refl

a_word_for_it : hexadecimal_in (given (only (codes "format") (only (codes "hex") (string (codes "true"))))) ≡ false
unfolding serde_json_on_literals
a_word_for_it = refl

-- an editor hears of changes where it says so
hears : hears_invalidated_in (given (only (codes "supportsInvalidatedEvent") (boolean true))) ≡ true
unfolding serde_json_on_literals
hears = refl

hears_nothing : hears_invalidated_in (given (object no_members)) ≡ false
unfolding serde_json_on_literals
hears_nothing = refl

-- a request that is not known needs nothing
another_request : missing (codes "goodbye") (object no_members) ≡ None
another_request = refl

-- a start that is a text, and one that is `null`
a_text_for_a_start : missing (codes "variables") (given (object (member (codes "start") (string (codes "1")) (member (codes "variablesReference") (natural 1) no_members)))) ≡ Some (codes "start")
unfolding serde_json_on_literals
a_text_for_a_start = refl

no_start : missing (codes "variables") (given (object (member (codes "start") null (member (codes "variablesReference") (natural 1) no_members)))) ≡ None
unfolding serde_json_on_literals
no_start = refl

-- the numbers of the times of line 12, and what they stand for; a number past the greatest line stands for none
the_next_time : time_number 12 Forwards ≡ 24
the_next_time = refl

its_time : time_of 24 ≡ Some (12, Forwards)
its_time = refl

the_last_time : time_of (time_number 12 Backwards) ≡ Some (12, Backwards)
the_last_time = refl

past_all_lines : time_of (2 ^ 33) ≡ None
past_all_lines = refl

no_target : missing (codes "goto") (given (only (codes "targetId") (string (codes "24")))) ≡ Some (codes "targetId")
unfolding serde_json_on_literals
no_target = refl

-- a line has two times, and no line has none
two_times : times (Some 12) ≡ item (time 12 Forwards) (item (time 12 Backwards) no_items)
two_times = refl

its_label : get (codes "label") (time 12 Backwards) ≡ Some (string (codes "line 12, the last time before"))
unfolding digits
its_label = refl

no_times : times None ≡ no_items
no_times = refl

-- what is only looked at is no constant
looked_at : attributes false true ≡ item (string (codes "readOnly")) no_items
looked_at = refl

-- a constant cannot be set
a_constant : get (codes "presentationHint") (variable_of kind.Plain (attributes true false) (codes "n") (codes "5") (codes "uniform int8") 0)
    ≡ Some (object (member (codes "attributes") (array (item (string (codes "constant")) (item (string (codes "readOnly")) no_items))) (member (codes "kind") (string (codes "data")) no_members)))
a_constant = refl

a_range_of_elements : hint kind.Range (attributes false false) ≡ object (member (codes "attributes") (array no_items) (member (codes "kind") (string (codes "virtual")) no_members))
a_range_of_elements = refl

-- what was set has the reference of its lanes
with_lanes : get (codes "variablesReference") (set_value (codes "1 2 3 4") 21) ≡ Some (natural 21)
with_lanes = refl

-- where no function runs only the variables of the file are shown
at_the_end : scopes (record { call = None; file = 3 }) ≡ array (item (file_scope 3) no_items)
at_the_end = refl

in_a_call : scopes (record { call = Some (record { locals = 11; arguments = 12 }); file = 13 })
    ≡ array (item (known_scope (codes "Locals") (codes "locals") 11) (item (known_scope (codes "Arguments") (codes "arguments") 12) (item (file_scope 13) no_items)))
in_a_call = refl

-- a text without braces is the format itself
without_braces : error_body (codes "next") (codes "no history")
    ≡ only (codes "error") (object
    (member (codes "format") (string (codes "no history"))
    (member (codes "id") (natural 1)
    (member (codes "showUser") (boolean true) no_members))))
without_braces = refl

-- braces in a text stand in the variable of the format; why nothing is under the mouse is not shown to the user
in_braces : error_body (codes "evaluate") (codes "{x}")
    ≡ only (codes "error") (object
    (member (codes "format") (string (codes "{text}"))
    (member (codes "id") (natural 1)
    (member (codes "showUser") (boolean false)
    (member (codes "variables") (only (codes "text") (string (codes "{x}"))) no_members)))))
in_braces = refl

a_refused_launch : shows_user (named (codes "launch")) ≡ true
a_refused_launch = refl

-- of moves `continue` alone is told that all threads go on
a_continue : moved (codes "continue") ≡ only (codes "allThreadsContinued") (boolean true)
a_continue = refl

a_step : moved (codes "next") ≡ object no_members
a_step = refl

-- words of contexts and filters, and another one
under_the_mouse : context_in (Some (codes "hover")) ≡ Hover
under_the_mouse = refl

another_context : context_in (Some (codes "clipboard")) ≡ Watch
another_context = refl

elements_alone : filter_in (Some (codes "indexed")) ≡ filter.Indexed
elements_alone = refl

-- one mark is left out, at the end
a_marked_name : unmarked (codes "x[2] (waits)") ≡ codes "x[2]"
a_marked_name = refl

a_plain_name : unmarked (codes "x[2]") ≡ codes "x[2]"
a_plain_name = refl

-- no expression shows a range, and that of a lane that waits has no mark
a_range : get (codes "evaluateName") (variable_of kind.Range (attributes false false) (codes "a[0..999]") (codes "1000 elements") (codes "int8") 7) ≡ None
a_range = refl

a_waiting_lane : get (codes "name") (variable_of kind.Waits (attributes false false) (codes "x[2]") (codes "5") (codes "int8") 0) ≡ Some (string (codes "x[2] (waits)"))
a_waiting_lane = refl

its_expression : get (codes "evaluateName") (variable_of kind.Waits (attributes false false) (codes "x[2]") (codes "5") (codes "int8") 0) ≡ Some (string (codes "x[2]"))
its_expression = refl

-- of a lane of an expression's value no expression is told; where it waits, its name and its value are marked
a_lane_of_a_value : variable_of (kind.Lane false) (attributes false true) (codes "[1]") (codes "7") (codes "int32") 0
    ≡ object
    (member (codes "name") (string (codes "[1]"))
    (member (codes "presentationHint") (hint (kind.Lane false) (attributes false true))
    (member (codes "type") (string (codes "int32"))
    (member (codes "value") (string (codes "7"))
    (member (codes "variablesReference") (natural 0) no_members)))))
a_lane_of_a_value = refl

its_value_waits : get (codes "value") (variable_of (kind.Lane true) (attributes false true) (codes "[2]") (codes ".") (codes "int32") 0) ≡ Some (string (codes ". (waits)"))
its_value_waits = refl

its_name_waits : get (codes "name") (variable_of (kind.Lane true) (attributes false true) (codes "[2]") (codes ".") (codes "int32") 0) ≡ Some (string (codes "[2] (waits)"))
its_name_waits = refl
