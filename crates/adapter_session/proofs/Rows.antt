-- Worked rows of what a restart does, of what going to a line does, of the stop button, of messages, and of lines in the words of the prompt.
use Rattle.std.proofs.Common.{◌≡◌, refl, true, false, None, Some, ℕ, List, [], ◌∷◌, codes}
use Rattle.std.specs.Prelude.{option_map, pos}
use Rattle.gang_model.specs.Types.Tree.{Program}
use Rattle.gang_model.specs.Debugger.Debugger.{Debugger, DoBreak, DoContinue, DoDelete, DoReverseContinue, DoSet, DoSetIn, DoStep, Line, Setting, Stop, Target}
use Rattle.debug_answers.specs.declared.answer.Answer.TheVariants as answer
use Rattle.gang_model.specs.Texts.CommandText.{command_of}
use Rattle.gang_model.specs.Texts.Text.{Bytes}
use Rattle.conditional_stops.specs.Tables.{nothing}
use Rattle.log_points.specs.Points.{Log}
use Rattle.adapter_requests.specs.declared.request.Request.TheVariants as request
use Rattle.adapter_requests.specs.declared.request.Way.TheVariants.{Backwards, Forwards}
use Rattle.adapter_replies.specs.References.{depth_in, place_of}
use Rattle.adapter_session.specs.declared.lines.Kind.TheVariants.{Functions, Lines}
use Rattle.adapter_session.specs.Changes.{staying}
use Rattle.adapter_session.specs.Going.{going, is_at, reached}
use Rattle.adapter_session.specs.Requested.{all_in_frame, break_at, commands_of, evaluated, has_frame, is_elsewhere, numbers_of, outer, outer_frame, set_lines, spelled, test_of}
use Rattle.function_lines.specs.Lines.{function_line}
use Rattle.adapter_session.specs.Restored.{made_in, with_made}
use Rattle.adapter_session.specs.Terms.{FunctionStop, anew, carried_functions, carried_logs, changed, first_logged, name_of}
use Rattle.adapter_session.specs.Typed.{meant_line, own_of}

-- breakpoint 3 is that of `go`: it stands where the new program has this function, and nowhere where it has none
abbrev go : List FunctionStop
go = record { number = 3; name = codes "go" } ∷ []

where_the_function_is : (p : Program) → made_in p (name_of 3 go) (Line 9) ≡ option_map DoBreak (function_line p (codes "go"))
where_the_function_is p = refl

-- those that could not be made have no number in place of theirs
the_others_then : with_made true 4 (with_made false 3 (with_made true 2 [])) ≡ 2 ∷ 4 ∷ []
the_others_then = refl

-- on to the next time, and back to the last one, of a line with the breakpoint 3; none is made where the table is full
the_next_time : going Forwards (Some 3) ≡ DoContinue ∷ DoDelete (Some 3) ∷ []
the_next_time = refl

the_last_time : going Backwards (Some 3) ≡ DoReverseContinue ∷ DoDelete (Some 3) ∷ []
the_last_time = refl

no_breakpoint : going Forwards None ≡ []
no_breakpoint = refl

-- a stop at the breakpoint that was made, and one at another breakpoint on the way
at_the_line : reached (is_at (Some 3) (answer.AtBreakpoint 3)) (answer.AtBreakpoint 3) ≡ answer.Here
at_the_line = refl

on_the_way : reached (is_at (Some 3) (answer.AtBreakpoint 2)) (answer.AtBreakpoint 2) ≡ answer.AtBreakpoint 2
on_the_way = refl

-- what an expression names is set in the frame that is asked for, where it is there: at depth 2 in the top one, at depth 1 in the one that called it, and
-- at depth 3 in none
abbrev x : Target
x = record { name = codes "x"; at = None }

in_the_top_frame : all_in_frame (outer_frame 2 (Some 2)) (spelled (set_lines (has_frame 2 (Some 2)) (codes "x") (codes "7"))) ≡ DoSet x (pos 7) ∷ []
in_the_top_frame = refl

in_an_outer_frame : all_in_frame (outer_frame 2 (Some 1)) (spelled (set_lines (has_frame 2 (Some 1)) (codes "x") (codes "7"))) ≡ DoSetIn 1 x (pos 7) ∷ []
in_an_outer_frame = refl

in_no_frame : all_in_frame (outer_frame 2 (Some 3)) (spelled (set_lines (has_frame 2 (Some 3)) (codes "x") (codes "7"))) ≡ []
in_no_frame = refl

where_none_is_asked_for : all_in_frame (outer_frame 2 None) (spelled (set_lines (has_frame 2 None) (codes "x") (codes "7"))) ≡ DoSet x (pos 7) ∷ []
where_none_is_asked_for = refl

-- the lanes of the second local variable of the outer frame, and those of a variable of the file
of_the_outer_frame : outer 2 (depth_in 2 (place_of 1013)) ≡ Some 1
of_the_outer_frame = refl

of_the_file : outer 2 (depth_in 2 (place_of 2006)) ≡ None
of_the_file = refl

-- a line of the console: it steps in each frame, and sets a value in the one that is asked for, if it is there
steps_in_an_outer_frame : all_in_frame (outer_frame 2 (Some 1)) (spelled (evaluated true (is_elsewhere 2 (Some 1)) (has_frame 2 (Some 1)) (codes "step 2"))) ≡ DoStep 2 ∷ []
steps_in_an_outer_frame = refl

sets_in_an_outer_frame : all_in_frame (outer_frame 2 (Some 1)) (spelled (evaluated true (is_elsewhere 2 (Some 1)) (has_frame 2 (Some 1)) (codes "set var x = 7"))) ≡ DoSetIn 1 x (pos 7) ∷ []
sets_in_an_outer_frame = refl

sets_in_no_frame : all_in_frame (outer_frame 2 (Some 3)) (spelled (evaluated true (is_elsewhere 2 (Some 3)) (has_frame 2 (Some 3)) (codes "set var x = 7"))) ≡ []
sets_in_no_frame = refl

looks_at_no_other : all_in_frame (outer_frame 2 (Some 1)) (spelled (evaluated true (is_elsewhere 2 (Some 1)) (has_frame 2 (Some 1)) (codes "print x"))) ≡ []
looks_at_no_other = refl

-- the stop button leaves the program as it stands
stopped_as_it_stands : (program : Bytes) (s : Setting) (d : Debugger) → commands_of program [] s d request.Terminate ≡ []
stopped_as_it_stands program s d = refl

-- breakpoint 4 has a message: it stops nowhere, and behind a restart the second one has it
abbrev four : List Log
four = record { number = 4; message = codes "i is {i}" } ∷ []

its_message : first_logged (4 ∷ 5 ∷ []) (Some (codes "i is {i}")) [] ≡ four
its_message = refl

no_message : first_logged (5 ∷ []) None four ≡ four
no_message = refl

it_stops_nowhere : (anew nothing four []).left ≡ record nothing { disabled = 4 ∷ [] }
it_stops_nowhere = refl

the_second_then : carried_logs four (3 ∷ 4 ∷ []) (1 ∷ 2 ∷ []) [] ≡ record { number = 2; message = codes "i is {i}" } ∷ []
the_second_then = refl

-- breakpoint 3 is a function's: it stays where lines get others, and goes where functions do
abbrev three : List (ℕ × Stop)
three = (2, Line 5) ∷ (3, Line 9) ∷ (4, Line 7) ∷ []

those_of_lines : numbers_of (test_of Lines (3 ∷ [])) three ≡ 2 ∷ 4 ∷ []
those_of_lines = refl

those_of_functions : numbers_of (test_of Functions (3 ∷ [])) three ≡ 3 ∷ []
those_of_functions = refl

one_stays : staying Lines (3 ∷ []) three ≡ 1
one_stays = refl

-- no line is done for a name that is no function's
no_function : break_at None ≡ []
no_function = refl

-- breakpoint 3 keeps its condition, and 5, which came, has the one that is asked for it
asked_for_it : changed (3 ∷ 5 ∷ []) (5 ∷ []) (record { condition = Some (codes "i > 2"); passes = 0; log = None; name = None } ∷ []) (anew (record nothing { conditions = (2, codes "x") ∷ (3, codes "y") ∷ [] }) [] go)
    ≡ anew (record nothing { conditions = (3, codes "y") ∷ (5, codes "i > 2") ∷ [] }) [] go
asked_for_it = refl

-- breakpoint 5 is that of `stop`, which came in place of that of `go`
another_function : changed (2 ∷ 5 ∷ []) (5 ∷ []) (record { condition = None; passes = 0; log = None; name = Some (codes "stop") } ∷ []) (anew nothing [] go) ≡ anew nothing [] (record { number = 5; name = codes "stop" } ∷ [])
another_function = refl

-- behind a restart the second one is the function's
the_functions_then : carried_functions go (2 ∷ 3 ∷ 4 ∷ []) (1 ∷ 2 ∷ 3 ∷ []) [] ≡ record { number = 2; name = codes "go" } ∷ []
the_functions_then = refl

-- words of the prompt, and the debugger's own lines
of_a_letter : own_of (codes "d 3") ≡ Some (codes "delete  3")
of_a_letter = refl

its_command : command_of (codes "delete  3") ≡ Some (DoDelete (Some 3))
its_command = refl

of_a_list : own_of (codes "i b") ≡ Some (codes "info breakpoints ")
of_a_list = refl

of_a_front : own_of (codes "ste 3") ≡ Some (codes "step 3")
of_a_front = refl

of_frames : own_of (codes "where") ≡ Some (codes "backtrace")
of_frames = refl

of_locals : own_of (codes "i lo") ≡ Some (codes "info locals")
of_locals = refl

of_a_value : own_of (codes "set x[1] = 3") ≡ Some (codes "set var  x[1] = 3")
of_a_value = refl

until_alone : own_of (codes "u") ≡ Some (codes "next")
until_alone = refl

-- more than one command, a list that the debugger has not, and expressions
until_a_line : own_of (codes "u 17") ≡ None
until_a_line = refl

temporary : own_of (codes "tb 9") ≡ None
temporary = refl

three_frames : own_of (codes "where 3") ≡ None
three_frames = refl

of_watches : own_of (codes "info watchpoints") ≡ None
of_watches = refl

of_a_sum : own_of (codes "d + 1") ≡ None
of_a_sum = refl

of_an_element : own_of (codes "d[1]") ≡ None
of_an_element = refl

of_a_comparison : own_of (codes "set == 3") ≡ None
of_a_comparison = refl

-- a command stays as it is typed, even where a variable has its name; another word is looked up there
a_command_then : meant_line true (codes "c") ≡ codes "c"
a_command_then = refl

a_command_alone : meant_line false (codes "c") ≡ codes "c"
a_command_alone = refl

a_variable_then : meant_line true (codes "where") ≡ codes "where"
a_variable_then = refl
