-- The rows so far: what one more row changes, and which parameter has none.
use Rattle.std.proofs.Common.{◌≡◌, ℕ, zero, suc, ◌+◌, ◌-◌, ◌<◌, ◌≤◌, List, [], ◌∷◌, ◌++◌, length, get_or, drop, Bool, true, false, refl, sym, ap, ◌∙◌, arith, true≢false, Option, Some, None, Ok, Err, is_some}
use Rattle.std.specs.Prelude.{if◌then◌else◌, map, not, find, option_map}
use Rattle.std.specs.Option.{option_or}
use Rattle.std.proofs.lemmas.Bool.{false≢true}
use Rattle.std.proofs.lemmas.List.{at_drop_all, at_drop_more, length-map, map-append}
use Rattle.std.proofs.lemmas.List.Folds.{find-append}
use Rattle.gang_model.specs.Source.Names.{same_text}
use Rattle.gang_model.specs.Debugger.Events.{Row}
use Rattle.gang_model.specs.Types.Tree.{Variable}
use Rattle.gang_model.specs.Texts.InputText as text
use Rattle.std.specs.Borrow.{Bor}
use Rattle.typed_tree.specs.declared.program.Variable.{Variable as TreeVariable}
use Rattle.typed_tree.specs.Views.{variable_view}
use Rattle.gang_model.proofs.SameTexts.{same_text-refl, same_text-sym}
use Rattle.input_rows.specs.declared.row.InputRow.{InputRow}
use Rattle.debug_inputs.specs.declared.reading.Reading.{Reading}
use Rattle.debug_inputs.specs.declared.receivers.Receiver.{Receiver}
use Rattle.debug_inputs.specs.Lines.{Stands}
use Rattle.debug_inputs.specs.Remaining.{first_named, receiver_view, remaining_at}
use Rattle.input_rows.specs.Rows.{numbered, row_view}

-- ---- one more row

receiver_behind : (receivers : List text.Receiver) (rows : List Row) (row : Row) (name : List ℕ)
    → text.receiver_of receivers (rows ++ row ∷ []) name ≡ (if same_text name row.variable.name then None else text.receiver_of receivers rows name)
receiver_behind receivers rows row name =
    ap (λ o. if is_some o then None else first_named receivers name) (find-append (text.is_row_of name) rows (row ∷ []))
    ∙ (by (find (text.is_row_of name) rows) (same_text row.variable.name name)
    ∙ ap (λ t. if t then None else text.receiver_of receivers rows name) (same_text-sym row.variable.name name))
  where
    by : (o : Option Row) (t : Bool) → (if is_some (option_or o (if t then Some row else None)) then None else first_named receivers name)
        ≡ (if t then None else (if is_some o then None else first_named receivers name))
    by None true = refl
    by None false = refl
    by (Some r) true = refl
    by (Some r) false = refl

words_behind : (rows : List Row) (row : Row) → text.entry_words (rows ++ row ∷ []) ≡ text.entry_words rows + text.entry_words (row ∷ [])
words_behind [] row = omega arith
words_behind (r ∷ rows) row = omega (arith, words_behind rows row)

-- a row is put behind the others
pub row_added : (receivers : List text.Receiver) (rows : List Row) (row : Row) (input : InputRow) (old new : Reading) → row.variable.id ≡ input.var → row.words ≡ input.values.items
    → Stands receivers rows old
    → ((name : List ℕ) → remaining_at new.remaining name ≡ (if same_text name row.variable.name then None else remaining_at old.remaining name))
    → new.left ≡ old.left - text.entry_words (row ∷ []) → new.rows.items ≡ old.rows.items ++ input ∷ [] → Stands receivers (rows ++ row ∷ []) new
row_added receivers rows row input old new id words stands closed left pushed = record {
  remaining = λ name. closed name ∙ (ap (λ o. if same_text name row.variable.name then None else o) (stands.remaining name) ∙ sym (receiver_behind receivers rows row name));
  left = omega (arith, left, stands.left, words_behind rows row);
  shown =
      map-append numbered rows (row ∷ [])
      ∙ (ap (λ xs. xs ++ numbered row ∷ []) stands.shown
      ∙ (ap (λ x. map row_view old.rows.items ++ (x, row.words) ∷ []) id
      ∙ (ap (λ ws. map row_view old.rows.items ++ (input.var, ws) ∷ []) words
      ∙ (sym (map-append row_view old.rows.items (input ∷ [])) ∙ ap (map row_view) (sym pushed)))));
}

-- ---- parameters without rows

-- a parameter has a receiver
has_receiver : (vs : List Variable) (others : List text.Receiver) (i : ℕ) (v : Variable) → i < length vs → v ≡ get_or vs i v
    → is_some (first_named (map text.parameter_receiver vs ++ others) v.name) ≡ true
has_receiver [] others i v lt is = absurd (omega arith)
has_receiver (u ∷ vs) others zero v lt is =
    ap (λ t. is_some (if t then Some (text.parameter_receiver u) else first_named (map text.parameter_receiver vs ++ others) v.name)) (ap (λ w. same_text w.name v.name) (sym is) ∙ same_text-refl v.name)
has_receiver (u ∷ vs) others (suc i) v lt is = by (same_text u.name v.name) (has_receiver vs others i v (omega arith) is)
  where
    by : (t : Bool) → is_some (first_named (map text.parameter_receiver vs ++ others) v.name) ≡ true
        → is_some (if t then Some (text.parameter_receiver u) else first_named (map text.parameter_receiver vs ++ others) v.name) ≡ true
    by true later = refl
    by false later = later

row_there : (receivers : List text.Receiver) (rows : List Row) (name : List ℕ) (t : Bool) → is_some (first_named receivers name) ≡ true → is_some (text.receiver_of receivers rows name) ≡ t
    → is_some (find (text.is_row_of name) rows) ≡ not t
row_there receivers rows name t has is = by (is_some (find (text.is_row_of name) rows)) t is
  where
    by : (s t : Bool) → is_some (if s then None else first_named receivers name) ≡ t → s ≡ not t
    by true true e = absurd (false≢true e)
    by true false e = refl
    by false true e = refl
    by false false e = absurd (true≢false (sym has ∙ e))

seen : (o : Option Receiver) → is_some (option_map receiver_view o) ≡ is_some o
seen None = refl
seen (Some r) = refl

-- whether a parameter has a row, by what it still stands for
parameter_row : (vs : List Variable) (others : List text.Receiver) (rows : List Row) (reading : Reading) (i : ℕ) (v : Variable) (o : Option Receiver) (t : Bool)
    → Stands (map text.parameter_receiver vs ++ others) rows reading → i < length vs → v ≡ get_or vs i v
    → option_map receiver_view o ≡ remaining_at reading.remaining v.name → is_some o ≡ t → is_some (find (text.is_row_of v.name) rows) ≡ not t
parameter_row vs others rows reading i v o t stands lt is found some =
    row_there (map text.parameter_receiver vs ++ others) rows v.name t (has_receiver vs others i v lt is)
    (ap is_some (sym (found ∙ stands.remaining v.name)) ∙ (seen o ∙ some))

front_variable : (vs : List Variable) (i : ℕ) (v : Variable) → i < length vs → v ≡ get_or vs i v → drop i vs ≡ v ∷ drop (i + 1) vs
front_variable vs i v lt is = at_drop_more (λ us. us) vs i v lt ∙ ap (λ w. w ∷ drop (i + 1) vs) (sym is)

-- a parameter without a row
pub parameter_missing : (vs : List Variable) (others : List text.Receiver) (rows : List Row) (reading : Reading) (i : ℕ) (v : Variable) (o : Option Receiver)
    → Stands (map text.parameter_receiver vs ++ others) rows reading → i < length vs → v ≡ get_or vs i v
    → option_map receiver_view o ≡ remaining_at reading.remaining v.name → is_some o ≡ true → text.complete (drop i vs) rows ≡ text.complete vs rows
    → text.complete vs rows ≡ Err (text.Missing v.name)
parameter_missing vs others rows reading i v o stands lt is found some so_far =
    sym so_far
    ∙ (ap (λ us. text.complete us rows) (front_variable vs i v lt is)
    ∙ ap (λ t. if t then text.complete (drop (i + 1) vs) rows else Err (text.Missing v.name)) (parameter_row vs others rows reading i v o true stands lt is found some))

-- a parameter with a row
pub parameter_passed : (vs : List Variable) (others : List text.Receiver) (rows : List Row) (reading : Reading) (i : ℕ) (v : Variable) (o : Option Receiver)
    → Stands (map text.parameter_receiver vs ++ others) rows reading → i < length vs → v ≡ get_or vs i v
    → option_map receiver_view o ≡ remaining_at reading.remaining v.name → is_some o ≡ false → text.complete (drop i vs) rows ≡ text.complete vs rows
    → text.complete (drop (i + 1) vs) rows ≡ text.complete vs rows
parameter_passed vs others rows reading i v o stands lt is found some so_far =
    sym (ap (λ us. text.complete us rows) (front_variable vs i v lt is)
    ∙ ap (λ t. if t then text.complete (drop (i + 1) vs) rows else Err (text.Missing v.name)) (parameter_row vs others rows reading i v o false stands lt is found some))
    ∙ so_far

-- every parameter has a row
pub all_passed : (ps : List (Bor TreeVariable)) (rows : List Row) (i : ℕ) → length ps ≤ i → text.complete (drop i (map (λ v. variable_view v.now) ps)) rows ≡ Ok rows
all_passed ps rows i le = at_drop_all (λ us. text.complete us rows) (map (λ v. variable_view v.now) ps) i (omega (arith, le, length-map ps (λ v. variable_view v.now)))

-- a parameter is that of its number
pub item_view : (ps : List (Bor TreeVariable)) (i : ℕ) (p : Bor TreeVariable) → i < length ps → p ≡ get_or ps i p
    → (variable_view p.now ≡ get_or (map (λ v. variable_view v.now) ps) i (variable_view p.now)) × (i < length (map (λ v. variable_view v.now) ps))
item_view ps i p lt is = (at ps i lt is, omega (arith, lt, length-map ps (λ v. variable_view v.now)))
  where
    at : (ps : List (Bor TreeVariable)) (i : ℕ) → i < length ps → p ≡ get_or ps i p → variable_view p.now ≡ get_or (map (λ v. variable_view v.now) ps) i (variable_view p.now)
    at [] i lt is = absurd (omega arith)
    at (u ∷ us) zero lt is = ap (λ w. variable_view w.now) is
    at (u ∷ us) (suc i) lt is = at us i (omega arith) is
