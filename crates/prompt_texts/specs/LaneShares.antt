-- What is told of the share of the active lanes.
use Rattle.std.specs.Prelude.{ℕ, ◌-◌, ◌/◌, ◌%◌, ◌==◌, List, [], ◌∷◌, ◌++◌, Option, Some, None, codes, decimal, length, replicate, if◌then◌else◌}
use Rattle.gang_model.specs.Texts.Text.{Bytes}
use Rattle.prompt_texts.specs.declared.lanes.LaneShare.{LaneShare}
use Rattle.prompt_texts.specs.declared.lanes.SharesHere.{SharesHere}
use Rattle.prompt_texts.specs.Shown.{masked}

-- a text with blanks behind it up to a width
abbrev pub left : (room : ℕ) → Bytes → Bytes
left room text = text ++ replicate (room - length text) 32

-- a text behind blanks up to a width
abbrev pub right : (room : ℕ) → Bytes → Bytes
right room text = replicate (room - length text) 32 ++ text

-- a number of thousandths in percents
abbrev pub percents_text : ℕ → Bytes
percents_text share = right 5 (decimal (share / 10)) ++ codes "." ++ decimal (share % 10) ++ codes "%"

-- the columns of a row: the steps, the share, the places that no lane takes
abbrev pub counts_text : LaneShare → Bytes
counts_text told = right 10 (decimal told.steps) ++ percents_text told.share ++ right 11 (decimal told.lost) ++ codes "\n"

abbrev pub share_text : LaneShare → Bytes
share_text told = if told.steps == 0 then codes " no step yet\n" else counts_text told

-- the row of a line
abbrev pub line_text : ℕ → LaneShare → Bytes
line_text line told = codes "  line " ++ left 17 (decimal line) ++ share_text told

-- a name as it is shown
abbrev pub name_text : Bytes → Bytes
name_text name = left 22 (masked name)

-- the row of a function
abbrev pub function_text : Bytes → LaneShare → Bytes
function_text name told = codes "  " ++ name_text name ++ share_text told

-- the row of the run
abbrev pub run_text : LaneShare → Bytes
run_text told = codes "  run                   " ++ share_text told

-- the rows of a line and of a function, if there is a frame
abbrev pub here_text : Option SharesHere → Bytes
here_text None = []
here_text (Some here) = line_text here.line here.at_line ++ function_text here.function.now here.in_function

-- how many lanes the gang has, and the heads of the columns
abbrev pub head_text : (width : ℕ) → Bytes
head_text width = codes "lanes so far, of " ++ left 7 (decimal width) ++ codes "     steps   share       lost\n"

-- a head, rows, and the row of the run; or that there are no steps
abbrev pub table_text : (width : ℕ) → (rows : Bytes) → (run : LaneShare) → Bytes
table_text width rows run = if run.steps == 0 then codes "no step has been made yet\n" else head_text width ++ rows ++ run_text run

abbrev pub lanes_text : (width : ℕ) → Option SharesHere → (run : LaneShare) → Bytes
lanes_text width here run = table_text width (here_text here) run
