-- How the input text is read: a line `name = v v ..` for each variable (a choice of this project).
use Rattle.std.specs.Prelude.{ℕ, suc, ◌+◌, ◌-◌, ◌^◌, ◌==◌, Bool, true, false, not, ◌&&◌, ◌||◌, nat_lt, List, [], ◌∷◌, ◌++◌, map, filter, length, is_some, Option, Some, None, ℤ, slice_get, Result, Ok, Err, if◌then◌else◌, codes, find}
use Rattle.gang_types.specs.declared.types.Rate.{Rate}
use Rattle.gang_types.specs.declared.types.Rate.TheVariants.{Uniform, Varying}
use Rattle.gang_types.specs.declared.types.IntType.{IntType}
use Rattle.gang_types.specs.Values.{wrapped}
use Rattle.gang_model.specs.Source.Names.{same_text}
use Rattle.gang_model.specs.Types.Tree.{Variable, Global, Function, Program}
use Rattle.gang_model.specs.Debugger.Positions.{closing_of, standing_in, scope_of}
use Rattle.gang_model.specs.Debugger.Events.{Row}
use Rattle.gang_model.specs.Debugger.Debugger.{is_value}
use Rattle.gang_model.specs.Texts.Spellings.{Word, is_blank, all_are, words_of_line, decimal_number, number_of_word, value_of_word}
use Rattle.gang_model.specs.Texts.Transcript.{lines_of}

-- why an input is refused, I1 to I4; a line by its number, from 1
pub data InputRefusal : Type 0 where
  BadLine : (line : ℕ) → InputRefusal
  Missing : (name : List ℕ) → InputRefusal
  Range : (line : ℕ) → InputRefusal
  -- a line, or the whole input
  TooLarge : (line : Option ℕ) → InputRefusal

-- ---- what may have a row

-- a variable that may have a row; of a file-scope array the length
pub record Receiver : Type 0 where
  pub variable : Variable
  pub most : Option ℕ

-- a function's parameters, in order: those in scope at its closing brace
abbrev pub parameters_of : Option Function → List Variable
parameters_of f = filter (λ v. v.is_parameter) (scope_of (standing_in f (closing_of f)))

-- a parameter takes its row
abbrev pub parameter_receiver : Variable → Receiver
parameter_receiver v = record { variable = v; most = None }

-- a file-scope variable takes its row
abbrev pub global_receiver : Global → Receiver
global_receiver g = record { variable = g.variable; most = if g.variable.is_array then Some g.len else None }

-- whether a rate is uniform
abbrev pub is_uniform : Rate → Bool
is_uniform Uniform = true
is_uniform Varying = false

-- the parameters of the entry, then the file-scope variables that are uniform and not constant
abbrev pub receivers : Program → Option Function → List Receiver
receivers p f =
    map parameter_receiver (parameters_of f)
    ++ map global_receiver (filter (λ g. is_uniform g.variable.rate && not g.variable.is_constant) p.globals)

-- whether a row is that of this name
abbrev pub is_row_of : List ℕ → Row → Bool
is_row_of name row = same_text row.variable.name name

-- the receiver of a name that has no row yet
abbrev pub receiver_of : List Receiver → List Row → List ℕ → Option Receiver
receiver_of receivers rows name =
    if is_some (find (is_row_of name) rows) then None else find (λ receiver. same_text receiver.variable.name name) receivers

-- ---- the values of a row

-- a value and those after it, if all are values
abbrev pub and_value : Option ℤ → Option (List ℤ) → Option (List ℤ)
and_value None zs = None
and_value (Some z) None = None
and_value (Some z) (Some zs) = Some (z ∷ zs)

-- the values of words: decimal with an optional minus, `0x` and hexadecimal digits, `true` or `false`
abbrev pub values_of : List Word → Option (List ℤ)
values_of [] = Some []
values_of (word ∷ words) = and_value (value_of_word decimal_number number_of_word word) (values_of words)

-- whether each is a value of the type
abbrev pub are_values : IntType → List ℤ → Bool
are_values type [] = true
are_values type (z ∷ zs) = if is_value type z then are_values type zs else false

-- how many words of entry arrays the rows have
abbrev pub entry_words : List Row → ℕ
entry_words [] = 0
entry_words (row ∷ rows) = (if row.variable.is_array && row.variable.is_parameter then length row.words else 0) + entry_words rows

-- a length, or what is left of 2 ^ 20 words
abbrev pub length_or_left : Option ℕ → (words : ℕ) → ℕ
length_or_left (Some len) words = len
length_or_left None words = 2 ^ 20 - words

-- the most values of an array's row: the length of a file-scope array; of an entry array what the rows before leave
abbrev pub most_values : Receiver → List Row → ℕ
most_values receiver rows = length_or_left receiver.most (entry_words rows)

-- the row of a receiver and its values: I1 where a scalar has not one value, I4, I3
abbrev pub row_with : ℕ → Receiver → List Row → List ℤ → Result Row InputRefusal
row_with line receiver rows zs =
    if not receiver.variable.is_array && not (length zs == 1) then Err (BadLine line)
    else (if receiver.variable.is_array && nat_lt (most_values receiver rows) (length zs) then Err (TooLarge (Some line))
    else (if not (are_values receiver.variable.type zs) then Err (Range line)
    else Ok (record { variable = receiver.variable; words = map (wrapped receiver.variable.type) zs })))

-- the same where there is a receiver and all values are values, else I1
abbrev pub row_if : ℕ → Option Receiver → List Row → Option (List ℤ) → Result Row InputRefusal
row_if line None rows zs = Err (BadLine line)
row_if line (Some receiver) rows None = Err (BadLine line)
row_if line (Some receiver) rows (Some zs) = row_with line receiver rows zs

-- the row of a line's words, behind the rows so far
abbrev pub row_of : List Receiver → ℕ → List Row → List Word → Result Row InputRefusal
row_of receivers line rows (name ∷ equals ∷ values) =
    if same_text equals (codes "=") then row_if line (receiver_of receivers rows name) rows (values_of values) else Err (BadLine line)
row_of receivers line rows words = Err (BadLine line)

-- ---- the whole input

-- `=` is a word by itself
abbrev pub is_equals : ℕ → Bool
is_equals byte = byte == 61

-- whether a line begins with `#`
abbrev pub begins_hash : List ℕ → Bool
begins_hash [] = false
begins_hash (byte ∷ bytes) = byte == 35

-- whether a line is skipped
abbrev pub is_skipped : List ℕ → Bool
is_skipped line = all_are is_blank line || begins_hash line

-- I2 for the first parameter that has no row
abbrev pub complete : List Variable → List Row → Result (List Row) InputRefusal
complete [] rows = Ok rows
complete (v ∷ parameters) rows = if is_some (find (is_row_of v.name) rows) then complete parameters rows else Err (Missing v.name)

-- a row is put behind the others, and then comes what is next
abbrev pub and_row : List Row → Result Row InputRefusal → (List Row → Result (List Row) InputRefusal) → Result (List Row) InputRefusal
and_row rows (Ok row) next = next (rows ++ row ∷ [])
and_row rows (Err refusal) next = Err refusal

-- the rows after a line of this number, unless it is skipped or refused
abbrev pub after_line : (is_skipped : Bool) → List Receiver → ℕ → List Row → List ℕ → (List Row → Result (List Row) InputRefusal) → Result (List Row) InputRefusal
after_line true receivers n rows line next = next rows
after_line false receivers n rows line next = and_row rows (row_of receivers n rows (words_of_line is_equals line)) next

-- the rows so far with those of the lines from this number on, or the first refusal
abbrev pub rows_from : List Receiver → List Variable → ℕ → List Row → List (List ℕ) → Result (List Row) InputRefusal
rows_from receivers parameters n rows [] = complete parameters rows
rows_from receivers parameters n rows (line ∷ lines) =
    after_line (is_skipped line) receivers n rows line (λ rows. rows_from receivers parameters (suc n) rows lines)

-- the rows of an input's lines for a function
abbrev pub rows_for : Program → Option Function → List (List ℕ) → Result (List Row) InputRefusal
rows_for p f lines = rows_from (receivers p f) (parameters_of f) 1 [] lines

-- the rows of an input text, in order, or its first refusal: I4 for more than 4,194,304 bytes, the lines in order, then I2
abbrev pub rows_of : Program → (entry : ℕ) → List ℕ → Result (List Row) InputRefusal
rows_of p entry bytes = if nat_lt 4194304 (length bytes) then Err (TooLarge None) else rows_for p (slice_get p.functions entry) (lines_of bytes)
