-- What is read of an input's lines so far.
use Rattle.std.specs.Prelude.{◌≡◌, ◌==◌, ℕ, suc, ◌+◌, ◌-◌, ◌^◌, Bool, not, List, [], ◌∷◌, ◌++◌, length, Option, Some, None, Result, Ok, Err}
use Rattle.std.specs.Borrow.{Bor}
use Rattle.gang_model.specs.Debugger.Events.{Row}
use Rattle.gang_model.specs.Texts.InputText as text
use Rattle.gang_model.specs.Texts.Spellings.{words_of_line}
use Rattle.gang_model.specs.Texts.Transcript.{lines_of}
use Rattle.debug_inputs.specs.declared.fault.InputFault.{InputFault}
use Rattle.debug_inputs.specs.declared.reading.Reading.{Reading}
use Rattle.debug_inputs.specs.Remaining.{remaining_at}
use Rattle.input_rows.specs.Rows.{AreRows}
use Rattle.debug_inputs.specs.Rows.{IsRefusedBy}

-- the rows so far, what may still have one, and how many words of entry arrays are left
pub record Stands (receivers : List text.Receiver) (rows : List Row) (reading : Reading) : Type 0 where
  pub remaining : (name : List ℕ) → remaining_at reading.remaining name ≡ text.receiver_of receivers rows name
  pub left : reading.left ≡ 2 ^ 20 - text.entry_words rows
  pub shown : AreRows rows reading.rows.items

-- a line's name and what follows its `=`, if it has both
abbrev pub row_behind : List text.Receiver → ℕ → List Row → Option (Bor (List ℕ) × Bor (List ℕ)) → Result Row text.InputRefusal
row_behind receivers line rows None = Err (text.BadLine line)
row_behind receivers line rows (Some (name, values)) =
    text.row_if line (text.receiver_of receivers rows name.now) rows (text.values_of (words_of_line text.is_equals values.now))

-- a row is read and put behind the others, or refused
abbrev pub ReadsRow : List text.Receiver → List Row → Result Row text.InputRefusal → Reading → Result (Unit {0}) InputFault → Type 0
ReadsRow receivers rows answer reading (Ok done) = (row : Row) × (answer ≡ Ok row) × Stands receivers (rows ++ row ∷ []) reading
ReadsRow receivers rows answer reading (Err fault) = IsRefusedBy fault answer

-- what a reading of lines goes on to from some rows
abbrev pub Rest : Type 0
Rest = List Row → Result (List Row) text.InputRefusal

-- lines are read, and the reading goes on from their rows, or they are refused, whatever comes after them
abbrev pub ReadsLines : List text.Receiver → (Rest → Result (List Row) text.InputRefusal) → Reading → Result (Unit {0}) InputFault → Type 0
ReadsLines receivers answer reading (Ok done) = (rows : List Row) × ((next : Rest) → answer next ≡ next rows) × Stands receivers rows reading
ReadsLines receivers answer reading (Err fault) = (next : Rest) → IsRefusedBy fault (answer next)

-- the rows of lines from a number on, and what the reading goes on to after the last
abbrev pub lines_then : List text.Receiver → ℕ → List Row → List (List ℕ) → Rest → Result (List Row) text.InputRefusal
lines_then receivers n rows [] next = next rows
lines_then receivers n rows (line ∷ lines) next =
    text.after_line (text.is_skipped line) receivers n rows line (λ rows. lines_then receivers (suc n) rows lines next)

-- the lines of what is left of a text, none after the last one
abbrev pub lines_left : Option (Bor (List ℕ)) → List (List ℕ)
lines_left None = []
lines_left (Some text) = lines_of text.now

-- how much is left of a text with its last line's end
abbrev pub left_len : Option (Bor (List ℕ)) → ℕ
left_len None = 0
left_len (Some text) = length text.now + 1

-- whether a byte is no line feed
abbrev pub is_inside : ℕ → Bool
is_inside byte = not (byte == 10)

-- each parameter has a row, or the first without one is told
abbrev pub Completes : Result (List Row) text.InputRefusal → List Row → Result (Unit {0}) InputFault → Type 0
Completes answer rows (Ok done) = answer ≡ Ok rows
Completes answer rows (Err fault) = IsRefusedBy fault answer
