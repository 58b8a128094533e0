-- Lines, one after another, and what the reading goes on to.
use Rattle.std.proofs.Common.{◌≡◌, ℕ, suc, ◌≤◌, ◌^◌, List, [], ◌∷◌, ◌++◌, length, map, Bool, true, false, refl, sym, ap, subst, ◌∙◌, Option, Some, None, Result, Ok, Err, Vec, Global, arith}
use Rattle.std.specs.Result.{IsErrAnd}
use Rattle.std.specs.Borrow.{Bor}
use Rattle.std.specs.Prelude.{if◌then◌else◌, nat_lt, slice_get, ℤ}
use Rattle.std.proofs.lemmas.Bool.Decides.{nat_tests}
use Rattle.gang_types.specs.declared.types.IntType.{IntType}
use Rattle.gang_model.specs.Debugger.Events.{Row}
use Rattle.gang_model.specs.Types.Tree.{Global as FileVariable, Program, Variable}
use Rattle.gang_model.specs.Texts.InputText as text
use Rattle.gang_model.specs.Texts.Spellings.{words_of_line}
use Rattle.gang_model.specs.Texts.Transcript.{lines_of}
use Rattle.debug_inputs.specs.declared.fault.InputFault.{InputFault}
use Rattle.debug_inputs.specs.declared.fault.InputFault.TheVariants.{BadLine, Missing, Range, TooLarge, Memory}
use Rattle.debug_inputs.specs.declared.reading.Reading.{Reading}
use Rattle.debug_inputs.specs.declared.receivers.Receiver.{Receiver}
use Rattle.input_rows.specs.declared.row.InputRow.{InputRow}
use Rattle.debug_inputs.specs.declared.values.Values.{Values}
use Rattle.debug_inputs.specs.Lines.{ReadsLines, ReadsRow, Rest, Stands, lines_then, row_behind}
use Rattle.debug_inputs.specs.LineValues.{ReadsValues, ShowsValues}
use Rattle.debug_inputs.specs.Remaining.{all_receivers, first_named, receiver_view, remaining_at}
use Rattle.input_rows.specs.Rows.{row_view}
use Rattle.debug_inputs.specs.Rows.{AnswersInput, IsRefusedBy}

-- ---- one line

-- an equal answer is refused as well
pub refused_alike : {A : Type 0} (fault : InputFault) (x y : Result A text.InputRefusal) → x ≡ y → IsRefusedBy fault y → IsRefusedBy fault x
refused_alike (BadLine n) x y e is = e ∙ is
refused_alike (Missing name) x y e is = e ∙ is
refused_alike (Range n) x y e is = e ∙ is
refused_alike (TooLarge n) x y e is = e ∙ is
refused_alike Memory x y e is = tt

-- values of which it is known that they were read
pub read_some : (type : IntType) (most : ℕ) (o : Option (List ℤ)) (values : Values) → ReadsValues type most o (Some values) → (zs : List ℤ) × (o ≡ Some zs) × ShowsValues type most zs values
read_some type most None values r = absurd r
read_some type most (Some zs) values r = (zs, refl, r)

-- the row of a line is that of its receiver and its values
pub row_is : (receivers : List text.Receiver) (rows : List Row) (reading : Reading) (n : ℕ) (line : List ℕ) (name values : Bor (List ℕ)) (receiver : Receiver) (zs : List ℤ)
    → Stands receivers rows reading → text.row_of receivers n rows (words_of_line text.is_equals line) ≡ row_behind receivers n rows (Some (name, values))
    → Some (receiver_view receiver) ≡ remaining_at reading.remaining name.now → text.values_of (words_of_line text.is_equals values.now) ≡ Some zs
    → text.row_of receivers n rows (words_of_line text.is_equals line) ≡ text.row_with n (receiver_view receiver) rows zs
row_is receivers rows reading n line name values receiver zs stands head found are =
    head
    ∙ (ap (λ o. text.row_if n o rows (text.values_of (words_of_line text.is_equals values.now))) (sym (found ∙ stands.remaining name.now))
    ∙ ap (text.row_if n (Some (receiver_view receiver)) rows) are)

refused_row : (n : ℕ) (rows : List Row) (answer : Result Row text.InputRefusal) (next : Rest) (fault : InputFault) → IsRefusedBy fault answer → IsRefusedBy fault (text.and_row rows answer next)
refused_row n rows answer next (BadLine k) is = ap (λ a. text.and_row rows a next) is
refused_row n rows answer next (Missing name) is = ap (λ a. text.and_row rows a next) is
refused_row n rows answer next (Range k) is = ap (λ a. text.and_row rows a next) is
refused_row n rows answer next (TooLarge k) is = ap (λ a. text.and_row rows a next) is
refused_row n rows answer next Memory is = tt

-- a line that is not skipped
pub line_read : (receivers : List text.Receiver) (rows : List Row) (n : ℕ) (line : List ℕ) (skipped : Bool) (new : Reading) (result : Result (Unit {0}) InputFault) → skipped ≡ false
    → ReadsRow receivers rows (text.row_of receivers n rows (words_of_line text.is_equals line)) new result
    → ReadsLines receivers (text.after_line skipped receivers n rows line) new result
line_read receivers rows n line true new result e reads = absurd cc
line_read receivers rows n line false new (Ok done) e (row, is, stands) = (rows ++ row ∷ [], (λ next. ap (λ a. text.and_row rows a next) is), stands)
line_read receivers rows n line false new (Err fault) e refused = λ next. refused_row n rows (text.row_of receivers n rows (words_of_line text.is_equals line)) next fault refused

-- ---- lines

-- the rows of lines, as the definition has them
pub rows_then : (receivers : List text.Receiver) (parameters : List Variable) (n : ℕ) (rows : List Row) (lines : List (List ℕ))
    → text.rows_from receivers parameters n rows lines ≡ lines_then receivers n rows lines (text.complete parameters)
rows_then receivers parameters n rows [] = refl
rows_then receivers parameters n rows (line ∷ lines) = by (text.is_skipped line) (λ rows. rows_then receivers parameters (suc n) rows lines)
  where
    each : (answer : Result Row text.InputRefusal) (f g : Rest) → ((rows : List Row) → f rows ≡ g rows) → text.and_row rows answer f ≡ text.and_row rows answer g
    each (Ok row) f g same = same (rows ++ row ∷ [])
    each (Err refusal) f g same = refl

    by : (t : Bool) → ((rows : List Row) → text.rows_from receivers parameters (suc n) rows lines ≡ lines_then receivers (suc n) rows lines (text.complete parameters))
        → text.after_line t receivers n rows line (λ rows. text.rows_from receivers parameters (suc n) rows lines)
        ≡ text.after_line t receivers n rows line (λ rows. lines_then receivers (suc n) rows lines (text.complete parameters))
    by true later = later rows
    by false later = each (text.row_of receivers n rows (words_of_line text.is_equals line)) (λ rows. text.rows_from receivers parameters (suc n) rows lines)
        (λ rows. lines_then receivers (suc n) rows lines (text.complete parameters)) later

-- ---- refusals that are handed on

fault_is : {A : Type 0} (r : Result A InputFault) (fault : InputFault) → IsErrAnd r (λ y. y ≡ fault) → r ≡ Err fault
fault_is (Ok a) fault e = absurd e
fault_is (Err f) fault e = ap Err e

pub row_refused : (receivers : List text.Receiver) (rows : List Row) (answer row : Result Row text.InputRefusal) (reading : Reading) (fault : InputFault) (result : Result (Unit {0}) InputFault)
    → IsErrAnd result (λ y. y ≡ fault) → answer ≡ row → IsRefusedBy fault row → ReadsRow receivers rows answer reading result
row_refused receivers rows answer row reading fault result e is refused =
    subst (ReadsRow receivers rows answer reading) (sym (fault_is result fault e)) (refused_alike fault answer row is refused)

pub lines_refused : (receivers : List text.Receiver) (answer later : Rest → Result (List Row) text.InputRefusal) (reading : Reading) (fault : InputFault) (result : Result (Unit {0}) InputFault)
    → IsErrAnd result (λ y. y ≡ fault) → ((next : Rest) → (further : Rest) × (answer next ≡ later further)) → ((next : Rest) → IsRefusedBy fault (later next)) → ReadsLines receivers answer reading result
lines_refused receivers answer later reading fault result e is refused =
    subst (ReadsLines receivers answer reading) (sym (fault_is result fault e)) (λ next. let (further, same) = is next in refused_alike fault (answer next) (later further) same (refused further))

pub input_refused : (answer later : Result (List Row) text.InputRefusal) (fault : InputFault) (result : Result (Vec InputRow Global) InputFault) → IsErrAnd result (λ y. y ≡ fault)
    → answer ≡ later → IsRefusedBy fault later → AnswersInput answer result
input_refused answer later fault result e is refused = subst (AnswersInput answer) (sym (fault_is result fault e)) (refused_alike fault answer later is refused)

-- ---- the whole input

-- the rows of an input that is not too large, by the entry's parameters
pub rows_are : (p : Program) (entry : ℕ) (bytes : List ℕ) (parameters : List Variable) → length bytes ≤ 4194304 → parameters ≡ text.parameters_of (slice_get p.functions entry)
    → text.rows_of p entry bytes ≡ lines_then (all_receivers parameters p.globals) 1 [] (lines_of bytes) (text.complete parameters)
rows_are p entry bytes parameters le are =
    let f = slice_get p.functions entry in
    ap (λ t. if t then Err (text.TooLarge None) else text.rows_for p f (lines_of bytes)) small
    ∙ (rows_then (text.receivers p f) (text.parameters_of f) 1 [] (lines_of bytes)
    ∙ ap (λ ps. lines_then (all_receivers ps p.globals) 1 [] (lines_of bytes) (text.complete ps)) (sym are))
  where
    small : nat_lt 4194304 (length bytes) ≡ false
    small = grind (arith, nat_tests)

-- before the first line
pub first_stands : (parameters : List Variable) (globals : List FileVariable) (reading : Reading) → ((name : List ℕ) → remaining_at reading.remaining name ≡ first_named (all_receivers parameters globals) name)
    → reading.left ≡ 2 ^ 20 → reading.rows.items ≡ [] → Stands (all_receivers parameters globals) [] reading
first_stands parameters globals reading remaining left none = record { remaining = remaining; left = left; shown = ap (map row_view) (sym none) }
