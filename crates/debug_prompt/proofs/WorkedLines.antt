-- Lines, and the commands that are done for them, computed.
use Rattle.std.proofs.Common.{◌≡◌, refl, ap}
use Rattle.std.specs.Prelude.{ℕ, ◌^◌, ◌-◌, true, false, List, [], ◌∷◌, pos, Some, None, codes, if◌then◌else◌}
use Rattle.std.specs.List.{list_any}
use Rattle.gang_model.specs.Debugger.Debugger.{AtBreakpoint, Command, Debugger, DoBreak, DoContinue, DoDelete, DoPrint, DoReverseContinue, DoReverseStep, DoSet, DoSetIn, DoStep, DoUndo, DoWatch, Ended, Line, NoGoal, Refused, Setting, StepLimit, Target, depth, first_stop, forward, fresh, has_ended, now, on_line, reply, unless_refused}
use Rattle.gang_model.specs.Debugger.Events.{LaneOf, Poke, Step}
use Rattle.gang_types.specs.declared.places.VarId.TheVariants as id
use Rattle.debug_answers.specs.declared.stops.Stop.TheVariants as stop
use Rattle.prompt_lines.specs.declared.line.Kind.TheVariants as kind
use Rattle.prompt_lines.specs.Sources.{Sheet}
use Rattle.conditional_stops.specs.declared.writes.SetPart.TheVariants as part
use Rattle.conditional_stops.specs.declared.going.Direction.TheVariants as direction
use Rattle.conditional_stops.specs.declared.watches.Watch.{Watch}
use Rattle.conditional_stops.specs.declared.watches.Watch.TheVariants as watch
use Rattle.conditional_stops.specs.Tables.{Table, nothing}
use Rattle.conditional_stops.specs.Watching.{is_watch}
use Rattle.prompt_scenes.specs.Readings.{changes_named}
use Rattle.prompt_scenes.specs.Changes.{step_noted}
use Rattle.prompt_scenes.specs.FrameWatches.{ended, known}
use Rattle.prompt_scenes.specs.Holding.{Held, held_at_start, nothing_kept}
use Rattle.prompt_scenes.specs.declared.holding.LastMove.TheVariants as last
use Rattle.prompt_moves.specs.Following.{begun, follows}
use Rattle.prompt_moves.specs.Moments.{all_back, at_first, is_unset, is_whole, to_moment}
use Rattle.prompt_moves.specs.Pieces.{at_breakpoint, continued}
use Rattle.prompt_stops.specs.Breaking.{means_at, numbered, place_target, spot_of, text_watched, watched_as, write_name, writes_by, written_in}
use Rattle.prompt_past.specs.FramePast.{is_kept, is_later}
use Rattle.prompt_going.specs.GoingOn.{walks_by, way_by}
use Rattle.debug_prompt.specs.Doing.{commands_of, held_after, kept_after}
use Rattle.debug_prompt.specs.Lines.{has_stayed, known_within}

-- a source with two functions, of which one calls the other
source : Sheet
source = record {
  name = codes "go.ispc";
  text = codes "int weight(int x) {\n}\nexport void go() {\n v = weight(2); }\n";
}

-- what is done for a line at the start
at_start : Setting → Debugger → List ℕ → List Command
at_start s d line = commands_of source nothing_kept held_at_start s d line

-- two temporary breakpoints are there, and x is displayed
some_held : Held
some_held = record { temporaries = 2 ∷ 5 ∷ []; displays = (1, codes "print  x") ∷ []; next = 2; has_begun = true; frame = 0; checkpoints = (3, 7) ∷ []; next_checkpoint = 4; table = nothing; frames = []; last_move = last.Still }

temporary_row : (s : Setting) (d : Debugger) → at_start s d (codes "tbreak 7") ≡ DoBreak 7 ∷ []
unfolding at_start
temporary_row s d = refl

set_row : (s : Setting) (d : Debugger) → at_start s d (codes "set x[2] = 3") ≡ DoSet (record { name = codes "x"; at = Some 2 }) (pos 3) ∷ []
unfolding at_start
set_row s d = refl

formatted_row : (s : Setting) (d : Debugger) → at_start s d (codes "p/x x") ≡ []
unfolding at_start
formatted_row s d = refl

display_row : (s : Setting) (d : Debugger) → held_after source nothing_kept held_at_start s d (codes "display/t x + 1") ≡ record held_at_start { displays = (1, codes "print/t  x + 1") ∷ []; next = 2 }
display_row s d = refl

-- `when` alone asks nothing
when_alone_row : (s : Setting) (d : Debugger) → at_start s d (codes "when") ≡ []
unfolding at_start
when_alone_row s d = refl

-- `info lanes` stands alone
lanes_row : (s : Setting) (d : Debugger) → at_start s d (codes "info lanes now") ≡ []
unfolding at_start
lanes_row s d = refl

look_row : (s : Setting) (d : Debugger) → at_start s d (codes "list 4") ≡ []
unfolding at_start
look_row s d = refl

-- a function by its name, and a line behind the name of the source
function_row : (s : Setting) (d : Debugger) → at_start s d (codes "break go") ≡ DoBreak 3 ∷ []
unfolding at_start source
function_row s d = refl

weight_row : (s : Setting) (d : Debugger) → at_start s d (codes "b weight") ≡ DoBreak 1 ∷ []
unfolding at_start source
weight_row s d = refl

file_row : (s : Setting) (d : Debugger) → at_start s d (codes "tb go.ispc:14") ≡ DoBreak 14 ∷ []
unfolding at_start source
file_row s d = refl

-- in the second frame nothing is printed by a command
outer_row : (s : Setting) (d : Debugger) → commands_of source nothing_kept (record some_held { frame = 1 }) s d (codes "print x") ≡ []
unfolding some_held
outer_row s d = refl

-- and a value is set in that frame
outer_set_row : (s : Setting) (d : Debugger) → commands_of source nothing_kept (record some_held { frame = 1 }) s d (codes "p x = 5") ≡ DoSetIn (depth (now s d) - 1) (record { name = codes "x"; at = None }) (pos 5) ∷ []
unfolding some_held
outer_set_row s d = refl

-- an empty line repeats a print, and nothing behind a breakpoint
again_row : (s : Setting) (d : Debugger) → commands_of source (kept_after nothing_kept (codes "print x")) held_at_start s d (codes "") ≡ DoPrint (record { name = codes "x"; at = None }) ∷ []
again_row s d = refl

not_again_row : kept_after nothing_kept (codes "break 3") ≡ nothing_kept
not_again_row = refl

-- behind a move that a temporary breakpoint stopped, another one, and one that was refused
stopped_row : follows some_held (AtBreakpoint 5) ≡ DoDelete (Some 5) ∷ DoPrint (record { name = codes "x"; at = None }) ∷ []
unfolding some_held
stopped_row = refl

other_row : follows some_held (AtBreakpoint 3) ≡ DoPrint (record { name = codes "x"; at = None }) ∷ []
unfolding some_held
other_row = refl

refused_row : follows some_held (Refused Ended) ≡ []
unfolding some_held
refused_row = refl

undisplay_row : (s : Setting) (d : Debugger) → held_after source nothing_kept some_held s d (codes "undisplay 1") ≡ record { temporaries = 2 ∷ 5 ∷ []; displays = []; next = 2; has_begun = true; frame = 0; checkpoints = (3, 7) ∷ []; next_checkpoint = 4; table = nothing; frames = []; last_move = last.Still }
unfolding some_held
undisplay_row s d = refl

-- an expression is printed again, and nothing is set again
expression_row : kept_after nothing_kept (codes "p x + 1") ≡ record { kind = kind.Print; text = codes "print  x + 1" }
expression_row = refl

not_set_again_row : kept_after nothing_kept (codes "p x = 1") ≡ nothing_kept
not_set_again_row = refl

-- ---- moments

-- three events can be taken back: two steps, and a value that was set between them
some_events : Debugger
some_events = record { events = Step ∷ Poke (LaneOf (id.File 0) 1) 5 ∷ Step ∷ []; kept = 3; history = 2 ^ 62; stops = []; next = 1 }

back_row : all_back some_events ≡ DoUndo ∷ DoUndo ∷ DoUndo ∷ []
unfolding some_events
back_row = refl

first_row : (at_first some_events).events ≡ []
unfolding some_events
first_row = refl

whole_row : is_whole some_events ≡ true
unfolding some_events
whole_row = refl

limited_row : is_whole (record some_events { history = 100 }) ≡ false
unfolding some_events
limited_row = refl

-- two steps were made: back to the first one is one step, which the value that was set is not
goto_row : (s : Setting) → to_moment 1 s some_events ≡ DoReverseStep 1 ∷ []
unfolding some_events
goto_row s = refl

goto_here_row : (s : Setting) → to_moment 2 s some_events ≡ []
unfolding some_events
goto_here_row s = refl

set_there_row : is_unset some_events ≡ false
unfolding some_events
set_there_row = refl

-- nothing is asked where a value was set
when_row : (s : Setting) → at_start s some_events (codes "when x > 2") ≡ []
unfolding at_start some_events
when_row s = refl

restart_row : (s : Setting) → commands_of source nothing_kept (record some_held { displays = [] }) s (record some_events { events = Step ∷ []; kept = 1 }) (codes "restart 4") ≡ []
unfolding some_held some_events
restart_row s = refl

ten_row : changes_named (codes "watch  x[2]") ≡ Some (record { name = codes "x"; at = Some 2 }, 10)
ten_row = refl

three_row : changes_named (codes "watch  x[2] 3 ") ≡ Some (record { name = codes "x"; at = Some 2 }, 3)
three_row = refl

no_count_row : changes_named (codes "watch  x now") ≡ None
no_count_row = refl

noted_row : step_noted some_held (Some 3) ≡ Some 7
unfolding some_held
noted_row = refl

-- a breakpoint ends a `continue` behind a piece, and no breakpoint does not
breakpoint_row : at_breakpoint (first_stop (on_line (Some 9)) ((1, Line 7) ∷ (2, Line 9) ∷ [])) ≡ Some (AtBreakpoint 2)
breakpoint_row = refl

elsewhere_row : at_breakpoint (first_stop (on_line (Some 8)) ((1, Line 7) ∷ (2, Line 9) ∷ [])) ≡ None
elsewhere_row = refl

-- a watch among what is there
watch_row : list_any is_watch (record { number = 1; stop = stop.Line 7 } ∷ record { number = 2; stop = stop.Watch 0 (Some 3) } ∷ []) ≡ true
watch_row = refl

-- with no move left the limit is reached
none_left_row : (s : Setting) (d : Debugger) → has_ended (now s d) ≡ false → continued 0 s d ≡ reply StepLimit d
none_left_row s d e = ap (λ ended. unless_refused (if ended then Some Ended else None) d (forward 0 s NoGoal)) e

-- ---- conditions and counts

break_if_row : (s : Setting) (d : Debugger) → at_start s d (codes "b 12 if i == 3") ≡ DoBreak 12 ∷ []
unfolding at_start
break_if_row s d = refl

file_watch_row : (s : Setting) (d : Debugger) (target : Target) → watched_as s d held_at_start target None ≡ DoWatch target ∷ []
file_watch_row s d target = refl

-- ---- watches of frames

-- a number is taken for it, and what it is deleted by is no command
number_row : (s : Setting) (d : Debugger) (target : Target) → watched_as s d held_at_start target (Some (id.Local 4)) ≡ numbered s d
number_row s d target = refl

-- what a line watches that names no target; nothing of a word alone, or of one with a condition alone
expression_row_of_watch : written_in (codes "watch  table[i]  > 3  if k > 1") ≡ Some (codes "table[i]  > 3")
expression_row_of_watch = refl

watch_alone_row : written_in (codes "watch  ") ≡ None
watch_alone_row = refl

watch_if_row : written_in (codes "watch  if k > 1") ≡ None
watch_if_row = refl

-- where the frame that is selected stands at no step, nothing is watched
no_step_row : (s : Setting) (d : Debugger) (text : List ℕ) → spot_of s d held_at_start ≡ None → text_watched s d held_at_start (Some text) ≡ []
no_step_row s d text none = ap (λ spot. if means_at s.program text spot then numbered s d else []) none

-- `-w` before a name: what sets the variable is watched; of a word alone, or before anything else, it is not that
writes_row : write_name (codes "watch  -w  total  if k > 1") ≡ Some (codes "total")
writes_row = refl

negated_row : write_name (codes "watch -w") ≡ None
negated_row = refl

other_word_row : write_name (codes "watch -word total") ≡ None
other_word_row = refl

-- a number is taken for a scalar, and for an element; what stands for neither takes none
scalar_row : (s : Setting) (d : Debugger) → writes_by s d held_at_start (Some (record { id = id.File 0; part = part.Scalar })) ≡ numbered s d
scalar_row s d = refl

element_row : (s : Setting) (d : Debugger) → writes_by s d held_at_start (Some (record { id = id.File 0; part = part.Element 2 })) ≡ numbered s d
element_row s d = refl

no_place_row : (s : Setting) (d : Debugger) → writes_by s d held_at_start None ≡ []
no_place_row s d = refl

-- the text behind `-w` is read as behind `print`
element_text_row : place_target (codes "table[2]") ≡ Some (record { name = codes "table"; at = Some 2 })
element_text_row = refl

some_elements_row : place_target (codes "table@2") ≡ None
some_elements_row = refl

in_depth : ℕ → ℕ → Watch
in_depth number deep = watch.Variable (record { number = number; depth = deep; id = id.Local 4; at = None; name = record { items = codes "v" } })

-- watch 3 is of the entry's frame, and watch 5, which has a condition, of one that it called
watching : Held
watching = record held_at_start { frames = in_depth 3 1 ∷ in_depth 5 2 ∷ []; table = record { conditions = (5, codes "v > 1") ∷ []; counts = []; disabled = [] } }

delete_frame_row : (s : Setting) (d : Debugger) → commands_of source nothing_kept watching s d (codes "delete 5") ≡ []
unfolding watching in_depth
delete_frame_row s d = refl

deleted_frame_row : (s : Setting) (d : Debugger) → held_after source nothing_kept watching s d (codes "delete 5") ≡ record held_at_start { frames = in_depth 3 1 ∷ [] }
unfolding watching in_depth
deleted_frame_row s d = refl

-- where the frame has been left, its watch goes, with its condition
left_row : ended (known kind.Own (codes "next") 1) watching ≡ record held_at_start { frames = in_depth 3 1 ∷ [] }
unfolding watching in_depth
left_row = refl

there_row : ended (known kind.Own (codes "next") 2) watching ≡ watching
unfolding watching in_depth
there_row = refl

-- more than one move may lead into another frame at the depth, and `run` begins another run
other_frame_row : ended (known kind.Own (codes "step 5") 2) watching ≡ record held_at_start { frames = in_depth 3 1 ∷ [] }
unfolding watching in_depth
other_frame_row = refl

other_run_row : ended (known kind.Run (codes "run") 2) watching ≡ held_at_start
unfolding watching in_depth
other_run_row = refl

-- `last` of a variable of a frame goes back within it: the watches of that frame stay, and those of deeper ones end
within_row : known_within (Some 2) kind.Last (codes "watch  v") 3 ≡ 2
within_row = refl

file_last_row : known_within None kind.Last (codes "watch  total") 3 ≡ 1
file_last_row = refl

-- a line to another moment has led nowhere where as many steps can be taken back behind it; where the history is full, one may have been dropped
three_steps : Debugger
three_steps = record (fresh 5) { events = Step ∷ Step ∷ Step ∷ []; kept = 3 }

nowhere_row : has_stayed kind.Goto 3 three_steps ≡ true
unfolding three_steps
nowhere_row = refl

somewhere_row : has_stayed kind.Goto 2 three_steps ≡ false
unfolding three_steps
somewhere_row = refl

full_row : has_stayed kind.Until 3 (record three_steps { history = 3 }) ≡ false
unfolding three_steps
full_row = refl

-- a move of a count may have left a frame and entered another one, with as many steps
counted_row : has_stayed kind.Own 3 three_steps ≡ false
unfolding three_steps
counted_row = refl

-- the way back goes on while all lanes show the same; a word that differs in one lane, or a variable that is not there, ends it
same_row : is_kept (Some (7 ∷ 7 ∷ 9 ∷ [])) (Some (7 ∷ 7 ∷ 9 ∷ [])) ≡ true
same_row = refl

one_lane_row : is_kept (Some (7 ∷ 7 ∷ 9 ∷ [])) (Some (7 ∷ 8 ∷ 9 ∷ [])) ≡ false
one_lane_row = refl

not_shown_row : is_kept (Some (7 ∷ [])) None ≡ false
not_shown_row = refl

-- an inner variable of the name was declared behind it, an outer one before it; one of the file hides nothing
inner_row : is_later (id.Local 2) (id.Local 5) ≡ true
inner_row = refl

behind_row : is_later (id.Local 5) (id.Local 2) ≡ false
behind_row = refl

of_file_row : is_later (id.Local 0) (id.File 3) ≡ false
of_file_row = refl

walk_row : walks_by watching (Some DoReverseContinue) ≡ Some direction.Backward
unfolding watching
walk_row = refl

no_walk_row : walks_by held_at_start (Some DoContinue) ≡ None
no_walk_row = refl

-- breakpoint 2 has a condition, and two of its stops are to be passed
some_table : Table
some_table = record { conditions = (2, codes "i == 3") ∷ []; counts = (2, 2) ∷ []; disabled = [] }

said : Held
said = record { temporaries = 2 ∷ []; displays = []; next = 1; has_begun = true; frame = 0; checkpoints = []; next_checkpoint = 1; table = some_table; frames = []; last_move = last.Still }

-- breakpoint 2 is there, and no other
two_there : Debugger
two_there = record { events = []; kept = 0; history = 2 ^ 62; stops = (2, Line 5) ∷ []; next = 3 }

condition_row : (s : Setting) → (held_after source nothing_kept held_at_start s two_there (codes "condition 2 i == 3")).table ≡ record { conditions = (2, codes "i == 3") ∷ []; counts = []; disabled = [] }
unfolding two_there
condition_row s = refl

no_condition_row : (s : Setting) → (held_after source nothing_kept said s two_there (codes "condition 2")).table ≡ record some_table { conditions = [] }
unfolding two_there said some_table
no_condition_row s = refl

not_there_row : (s : Setting) → held_after source nothing_kept held_at_start s two_there (codes "condition 3 i == 3") ≡ held_at_start
unfolding two_there
not_there_row s = refl

ignore_row : (s : Setting) → (held_after source nothing_kept held_at_start s two_there (codes "ignore 2 5 ")).table ≡ record { conditions = []; counts = (2, 5) ∷ []; disabled = [] }
unfolding two_there
ignore_row s = refl

delete_row : (s : Setting) (d : Debugger) → (held_after source nothing_kept said s d (codes "delete 2")).table ≡ nothing
unfolding said some_table
delete_row s d = refl

-- what is said of a temporary breakpoint goes with it
temporary_gone_row : (begun said (AtBreakpoint 2)).table ≡ nothing
unfolding said some_table
temporary_gone_row = refl

other_stays_row : (begun said (AtBreakpoint 3)).table ≡ some_table
unfolding said
other_stays_row = refl

-- `continue` goes on to a stop that counts where something is said, and is the command alone where nothing is
plain_row : way_by held_at_start (Some DoContinue) ≡ None
plain_row = refl

back_way_row : way_by said (Some DoReverseContinue) ≡ Some direction.Backward
unfolding said some_table
back_way_row = refl

step_way_row : way_by said (Some (DoStep 1)) ≡ None
unfolding said some_table
step_way_row = refl
