-- What holds of the rows of an input however many lines are read.
use Rattle.std.proofs.Common.{ℕ, suc, true≢false, Bool, true, false, ◌&&◌, ◌==◌, not, List, [], ◌∷◌, ◌++◌, length, ◌≡◌, refl, sym, ◌∙◌, subst, arith}
use Rattle.std.proofs.lemmas.Bool.Decides.{nat_tests}
use Rattle.std.proofs.lemmas.Option.{none-some}
use Rattle.std.specs.Prelude.{map, nat_lt, ℤ, is_some, find, codes, Option, Some, None, Result, Ok, Err, if◌then◌else◌}
use Rattle.gang_types.specs.Values.{wrapped}
use Rattle.gang_model.specs.Source.Names.{same_text}
use Rattle.gang_model.specs.Types.Tree.{Variable}
use Rattle.gang_model.specs.Debugger.Events.{Row}
use Rattle.gang_model.specs.Texts.Spellings.{Word, words_of_line}
use Rattle.gang_model.specs.Texts.InputText.{InputRefusal, BadLine, TooLarge, Range, Missing, Receiver, is_row_of, receiver_of, values_of, are_values, most_values, row_with, row_if, row_of, is_equals, is_skipped, complete, and_row, after_line, rows_from}
use Rattle.gang_model.proofs.StandingLaws.{Each}

no_ok : {A : Type 0} (refusal : InputRefusal) (a : A) → Err refusal ≡ Ok a → ⊥
no_ok refusal a e = cc e

same_ok : {A : Type 0} (a b : A) (x : Result A InputRefusal) → x ≡ Ok a → x ≡ Ok b → a ≡ b
same_ok a b x e f = let same : Ok a ≡ Ok b = sym e ∙ f in cc same

-- ---- one row

-- what a row of a receiver is, behind the rows so far
pub record IsRowWith (receiver : Receiver) (rows : List Row) (row : Row) : Type 0 where
  pub values : List ℤ
  pub one : receiver.variable.is_array ≡ false → length values ≡ 1
  pub few : receiver.variable.is_array ≡ true → nat_lt (most_values receiver rows) (length values) ≡ false
  pub right : are_values receiver.variable.type values ≡ true
  pub made : record { variable = receiver.variable; words = map (wrapped receiver.variable.type) values } ≡ row

is_one : (n : ℕ) → (n == 1) ≡ true → n ≡ 1
is_one n e = grind (arith, nat_tests)

-- the row of a receiver and values
abbrev made_of : Receiver → List ℤ → Row
made_of receiver zs = record { variable = receiver.variable; words = map (wrapped receiver.variable.type) zs }

row_with_is : (n : ℕ) (receiver : Receiver) (rows : List Row) (zs : List ℤ) (row : Row) → row_with n receiver rows zs ≡ Ok row → IsRowWith receiver rows row
row_with_is n receiver rows zs row e =
    by receiver.variable.is_array refl (length zs == 1) refl (nat_lt (most_values receiver rows) (length zs)) refl (are_values receiver.variable.type zs) refl e
  where
    by : (array : Bool) → receiver.variable.is_array ≡ array → (one : Bool) → (length zs == 1) ≡ one → (many : Bool) → nat_lt (most_values receiver rows) (length zs) ≡ many
        → (right : Bool) → are_values receiver.variable.type zs ≡ right
        → (if not array && not one then Err (BadLine n) else (if array && many then Err (TooLarge (Some n)) else (if not right then Err (Range n) else Ok (made_of receiver zs)))) ≡ Ok row
        → IsRowWith receiver rows row
    by true a one o true m right r e = absurd (no_ok (TooLarge (Some n)) row e)
    by true a one o false m false r e = absurd (no_ok (Range n) row e)
    by true a one o false m true r e = record { values = zs; one = λ f. absurd (true≢false (sym a ∙ f)); few = λ t. m; right = r; made = same_ok (made_of receiver zs) row (Ok (made_of receiver zs)) refl e }
    by false a false o many m right r e = absurd (no_ok (BadLine n) row e)
    by false a true o many m false r e = absurd (no_ok (Range n) row e)
    by false a true o many m true r e = record { values = zs; one = λ f. is_one (length zs) o; few = λ t. absurd (true≢false (sym t ∙ a)); right = r; made = same_ok (made_of receiver zs) row (Ok (made_of receiver zs)) refl e }

row_if_is : (n : ℕ) (found : Option Receiver) (rows : List Row) (zs : Option (List ℤ)) (row : Row) → row_if n found rows zs ≡ Ok row
    → (receiver : Receiver) × (found ≡ Some receiver) × IsRowWith receiver rows row
row_if_is n None rows zs row e = absurd (no_ok (BadLine n) row e)
row_if_is n (Some receiver) rows None row e = absurd (no_ok (BadLine n) row e)
row_if_is n (Some receiver) rows (Some zs) row e = (receiver, refl, row_with_is n receiver rows zs row e)

-- the row of a line is that of a receiver of a name without a row so far
pub row_of_is : (receivers : List Receiver) (n : ℕ) (rows : List Row) (words : List Word) (row : Row) → row_of receivers n rows words ≡ Ok row
    → (name : List ℕ) × (receiver : Receiver) × (receiver_of receivers rows name ≡ Some receiver) × IsRowWith receiver rows row
row_of_is receivers n rows [] row e = absurd (no_ok (BadLine n) row e)
row_of_is receivers n rows (name ∷ []) row e = absurd (no_ok (BadLine n) row e)
row_of_is receivers n rows (name ∷ equals ∷ values) row e = by (same_text equals (codes "=")) e
  where
    by : (b : Bool) → (if b then row_if n (receiver_of receivers rows name) rows (values_of values) else Err (BadLine n)) ≡ Ok row
        → (name : List ℕ) × (receiver : Receiver) × (receiver_of receivers rows name ≡ Some receiver) × IsRowWith receiver rows row
    by true e = let is = row_if_is n (receiver_of receivers rows name) rows (values_of values) row e in (name, is.0, is.1, is.2)
    by false e = absurd (no_ok (BadLine n) row e)

-- the receiver of a name is the first one of the name, and no row has the name
pub receiver_of_is : (receivers : List Receiver) (rows : List Row) (name : List ℕ) (receiver : Receiver) → receiver_of receivers rows name ≡ Some receiver
    → (find (is_row_of name) rows ≡ None) × (find (λ r. same_text r.variable.name name) receivers ≡ Some receiver)
receiver_of_is receivers rows name receiver e = by (find (is_row_of name) rows) refl e
  where
    by : (o : Option Row) → find (is_row_of name) rows ≡ o → (if is_some o then None else find (λ r. same_text r.variable.name name) receivers) ≡ Some receiver
        → (find (is_row_of name) rows ≡ None) × (find (λ r. same_text r.variable.name name) receivers ≡ Some receiver)
    by None is e = (is, e)
    by (Some row) is e = absurd (none-some receiver e)

-- ---- all rows

-- a variable has a row of its name
abbrev pub HasRow : List Row → Variable → Type 0
HasRow rows v = is_some (find (is_row_of v.name) rows) ≡ true

complete_is : (parameters : List Variable) (rows out : List Row) → complete parameters rows ≡ Ok out → (rows ≡ out) × Each (HasRow rows) parameters
complete_is [] rows out e = (same_ok rows out (Ok rows) refl e, tt)
complete_is (v ∷ parameters) rows out e = by (complete_is parameters rows out) (is_some (find (is_row_of v.name) rows)) refl e
  where
    by : (complete parameters rows ≡ Ok out → (rows ≡ out) × Each (HasRow rows) parameters) → (b : Bool) → is_some (find (is_row_of v.name) rows) ≡ b
        → (if b then complete parameters rows else Err (Missing v.name)) ≡ Ok out → (rows ≡ out) × Each (HasRow rows) (v ∷ parameters)
    by later true is e = let rest = later e in (rest.0, (is, rest.1))
    by later false is e = absurd (no_ok (Missing v.name) out e)

-- what holds of no rows, and of rows with one more behind them, holds of all rows of an input; and each parameter has a row
pub rows_kept : (receivers : List Receiver) (parameters : List Variable) (P : List Row → Type 0)
    → ((rows : List Row) (row : Row) (name : List ℕ) (receiver : Receiver) → receiver_of receivers rows name ≡ Some receiver → IsRowWith receiver rows row → P rows → P (rows ++ row ∷ []))
    → (lines : List (List ℕ)) (n : ℕ) (rows out : List Row) → P rows → rows_from receivers parameters n rows lines ≡ Ok out → P out × Each (HasRow out) parameters
rows_kept receivers parameters P step [] n rows out p e =
    let done = complete_is parameters rows out e in
    (subst P done.0 p, subst (λ rs. Each (HasRow rs) parameters) done.0 done.1)
rows_kept receivers parameters P step (line ∷ lines) n rows out p e = by (rows_kept receivers parameters P step lines (suc n)) (is_skipped line) e
  where
    read : ((rows out : List Row) → P rows → rows_from receivers parameters (suc n) rows lines ≡ Ok out → P out × Each (HasRow out) parameters)
        → (answer : Result Row InputRefusal) → row_of receivers n rows (words_of_line is_equals line) ≡ answer
        → and_row rows answer (λ rows. rows_from receivers parameters (suc n) rows lines) ≡ Ok out → P out × Each (HasRow out) parameters
    read later (Ok row) is e =
        let made = row_of_is receivers n rows (words_of_line is_equals line) row is in
        later (rows ++ row ∷ []) out (step rows row made.0 made.1 made.2 made.3 p) e
    read later (Err refusal) is e = absurd (no_ok refusal out e)

    by : ((rows out : List Row) → P rows → rows_from receivers parameters (suc n) rows lines ≡ Ok out → P out × Each (HasRow out) parameters)
        → (b : Bool) → after_line b receivers n rows line (λ rows. rows_from receivers parameters (suc n) rows lines) ≡ Ok out → P out × Each (HasRow out) parameters
    by later true e = later rows out p e
    by later false e = read later (row_of receivers n rows (words_of_line is_equals line)) refl e
