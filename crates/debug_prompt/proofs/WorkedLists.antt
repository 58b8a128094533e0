-- Lists of lines, computed.
use Rattle.std.proofs.Common.{◌≡◌, refl}
use Rattle.std.specs.Prelude.{ℕ, false, List, [], ◌∷◌, codes}
use Rattle.arrayvec.specs.ArrayVec.{ArrayVec}
use Rattle.gang_model.specs.Debugger.Debugger.{Debugger, Line}
use Rattle.prompt_scenes.specs.Holding.{held_at_start, nothing_kept}
use Rattle.prompt_scenes.specs.declared.scene.ListedLine.{ListedLine}
use Rattle.prompt_scenes.specs.declared.holding.LastMove.TheVariants as last
use Rattle.prompt_stops.specs.Listed.{Lists, all_there, listed, no_lists, numbers_for, read, settled, waiting_after}
use Rattle.debug_prompt.specs.Taking.{turn_then}
use Rattle.debug_prompt.specs.declared.prompt.Turn.TheVariants as turn

text : List ℕ → ArrayVec ℕ
text line = record { items = line }

line_for : ℕ → List ℕ → ListedLine
line_for number line = record { number = number; text = text line }

-- breakpoint 1 has a line, and breakpoint 2 two
some_lists : Lists
some_lists = record { lines = line_for 1 (codes "p i") ∷ line_for 2 (codes "p x") ∷ line_for 2 (codes "continue") ∷ []; numbers = 2 ∷ []; depth = 0; waiting = text (codes "info locals") ∷ [] }

-- a list begins, and its breakpoint has no lines then; another one keeps its own
begun_row : listed (2 ∷ []) some_lists ≡ record some_lists { lines = line_for 1 (codes "p i") ∷ []; numbers = 2 ∷ []; depth = 1 }
unfolding some_lists line_for text
begun_row = refl

-- where none is named nothing begins
none_row : listed [] some_lists ≡ some_lists
none_row = refl

-- a line of the list, whatever it is; and one of two breakpoints
line_row : read (codes "  quit") (record no_lists { numbers = 2 ∷ []; depth = 1 }) ≡ record no_lists { lines = line_for 2 (codes "  quit") ∷ []; numbers = 2 ∷ []; depth = 1 }
unfolding line_for text
line_row = refl

each_row : read (codes "p x") (record no_lists { numbers = 1 ∷ 3 ∷ []; depth = 1 }) ≡ record no_lists { lines = line_for 1 (codes "p x") ∷ line_for 3 (codes "p x") ∷ []; numbers = 1 ∷ 3 ∷ []; depth = 1 }
unfolding line_for text
each_row = refl

-- `end` ends it, and is no line of it; `silent` is left out
end_row : read (codes " end ") (record no_lists { numbers = 2 ∷ []; depth = 1 }) ≡ record no_lists { numbers = 2 ∷ [] }
end_row = refl

silent_row : read (codes "silent") (record no_lists { numbers = 2 ∷ []; depth = 1 }) ≡ record no_lists { numbers = 2 ∷ []; depth = 1 }
silent_row = refl

-- a list within it: its lines are lines of the outer one, with its first one and its `end`
within_row : read (codes "end") (read (codes "commands 3") (record no_lists { numbers = 2 ∷ []; depth = 1 }))
    ≡ record no_lists { lines = line_for 2 (codes "commands 3") ∷ line_for 2 (codes "end") ∷ []; numbers = 2 ∷ []; depth = 1 }
unfolding line_for text
within_row = refl

-- behind a stop the lines of what stopped wait, in their order; behind another move none; and else those that did
stopped_row : waiting_after (last.Stopped 2) some_lists ≡ text (codes "p x") ∷ text (codes "continue") ∷ []
unfolding some_lists line_for text
stopped_row = refl

other_stop_row : waiting_after (last.Stopped 3) some_lists ≡ []
unfolding some_lists line_for text
other_stop_row = refl

moved_row : waiting_after last.Free some_lists ≡ []
moved_row = refl

still_row : waiting_after last.Still some_lists ≡ text (codes "info locals") ∷ []
unfolding some_lists
still_row = refl

-- what is gone has no lines; where it stopped a move they wait all the same
gone_row : settled (last.Stopped 2) (1 ∷ []) some_lists
    ≡ record some_lists { lines = line_for 1 (codes "p i") ∷ []; waiting = text (codes "p x") ∷ text (codes "continue") ∷ [] }
unfolding some_lists line_for text
gone_row = refl

-- breakpoints 1, 4 and 2 are there
there : Debugger
there = record { events = []; kept = 0; history = 5; stops = (1, Line 3) ∷ (4, Line 5) ∷ (2, Line 7) ∷ []; next = 5 }

-- alone it is the one that was made last; those that are not there are left out
alone_row : numbers_for there held_at_start (codes "commands") ≡ 4 ∷ []
unfolding there
alone_row = refl

named_row : numbers_for there held_at_start (codes "commands 2-3 7 1") ≡ 1 ∷ 2 ∷ []
unfolding there
named_row = refl

unnamed_row : numbers_for there held_at_start (codes "commands x") ≡ []
unfolding there
unnamed_row = refl

all_row : all_there there held_at_start ≡ 1 ∷ 4 ∷ 2 ∷ []
unfolding there
all_row = refl

-- `quit` quits, and as a line of a list it does not
quit_row : turn_then false no_lists nothing_kept (codes "quit") ≡ turn.Quits
quit_row = refl

quit_line_row : turn_then false (record no_lists { depth = 1 }) nothing_kept (codes "quit") ≡ turn.Goes
quit_line_row = refl
