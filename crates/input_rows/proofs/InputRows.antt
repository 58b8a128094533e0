-- The rows of an accepted input are ones that a run of the entry may begin with.
use Rattle.std.proofs.Common.{ℕ, zero, suc, ◌^◌, ◌≤◌, true≢false, Bool, true, false, not, ◌&&◌, ◌==◌, List, [], ◌∷◌, ◌++◌, length, ◌≡◌, ◌⊎◌, inl, inr, refl, sym, ◌∙◌, ap, subst, arith}
use Rattle.std.proofs.lemmas.Bool.Decides.{nat_tests}
use Rattle.std.proofs.lemmas.List.{length-map}
use Rattle.std.proofs.lemmas.Option.{same_Some, none-some, get_or_from_slice_get, slice_get_within}
use Rattle.std.specs.Prelude.{map, filter, find, nat_lt, is_some, All, ℤ, pos, negsuc, Option, Some, None, Ok, Err, slice_get, if◌then◌else◌}
use Rattle.gang_types.specs.declared.types.IntType.{IntType}
use Rattle.gang_types.specs.declared.types.Rate.{Rate}
use Rattle.gang_types.specs.declared.types.Rate.TheVariants.{Uniform, Varying}
use Rattle.gang_types.specs.declared.places.VarId.{VarId}
use Rattle.gang_types.specs.declared.places.VarId.TheVariants.{File, Local}
use Rattle.gang_types.specs.Values.{value_of, wrapped}
use Rattle.gang_model.specs.Source.Names.{same_text}
use Rattle.gang_model.specs.Source.Parsed.{ParsedSource}
use Rattle.gang_model.specs.Source.Parsed.{Name}
use Rattle.gang_model.specs.Source.Sources.{IsProgramOf}
use Rattle.gang_model.specs.Source.Limits.{limit_refusal}
use Rattle.gang_model.specs.Types.Tree.{Variable, Global, Function, Program}
use Rattle.gang_model.specs.Types.Resolved.{program_of}
use Rattle.gang_model.specs.Types.SourceRefusals.{IsAccepted, first_refusal, refusal_of}
use Rattle.gang_model.specs.declared.refusals.SourceRefusal.{SourceRefusal}
use Rattle.gang_model.specs.Debugger.Events.{Row}
use Rattle.gang_model.specs.Debugger.Debugger.{same_number, is_value}
use Rattle.gang_model.specs.Texts.Text.{Bytes}
use Rattle.gang_model.specs.Texts.Transcript.{lines_of}
use Rattle.gang_model.specs.Texts.InputText.{TooLarge, Receiver, parameters_of, parameter_receiver, global_receiver, is_uniform, receivers, is_row_of, receiver_of, are_values, length_or_left, most_values, entry_words, rows_of, rows_for}
use Rattle.gang_model.proofs.JudgedLaws.{and_true, not_true}
use Rattle.gang_model.proofs.SameTexts.{same_text-refl, same_text-equal}
use Rattle.gang_model.proofs.StandingLaws.{Each, each_join}
use Rattle.input_rows.specs.Inputs.{IsWordOf, AreWordsOf, IsRowOf, IsRowFor, AreInputs}
use Rattle.input_rows.proofs.Elements.{all_of_each, each_at, each_get, each_map, each_follows, each_passing, get_behind, find_at, find_none}
use Rattle.input_rows.proofs.EntryParameters.{HasParameters, has_parameters, param_at, global_at}
use Rattle.input_rows.proofs.RowsRead.{IsRowWith, HasRow, receiver_of_is, rows_kept}

-- ---- words of a row

same_number_is : (a b : ℤ) → same_number a b ≡ true → a ≡ b
same_number_is (pos a) (pos b) e = ap pos (same a b e)
  where
    same : (a b : ℕ) → (a == b) ≡ true → a ≡ b
    same a b e = grind (arith, nat_tests)
same_number_is (pos a) (negsuc b) e = absurd (true≢false (sym e))
same_number_is (negsuc a) (pos b) e = absurd (true≢false (sym e))
same_number_is (negsuc a) (negsuc b) e = ap negsuc (same a b e)
  where
    same : (a b : ℕ) → (a == b) ≡ true → a ≡ b
    same a b e = grind (arith, nat_tests)

-- values of a type are kept by their words
words_kept : (type : IntType) (zs : List ℤ) → are_values type zs ≡ true → Each (IsWordOf type) (map (wrapped type) zs)
words_kept type [] e = tt
words_kept type (z ∷ zs) e = by (words_kept type zs) (is_value type z) refl e
  where
    by : (are_values type zs ≡ true → Each (IsWordOf type) (map (wrapped type) zs)) → (b : Bool) → is_value type z ≡ b → (if b then are_values type zs else false) ≡ true
        → Each (IsWordOf type) (map (wrapped type) (z ∷ zs))
    by later true is e = (ap (wrapped type) (same_number_is (value_of type (wrapped type z)) z is), later e)
    by later false is e = absurd (true≢false (sym e))

most_within : (o : Option ℕ) (words : ℕ) → length_or_left o words ≤ length_or_left o 0
most_within None words = omega arith
most_within (Some len) words = omega arith

not_less : (m n k : ℕ) → nat_lt m n ≡ false → m ≤ k → n ≤ k
not_less m n k e le = grind (arith, nat_tests)

words_of_row : (receiver : Receiver) (rows : List Row) (row : Row) → IsRowWith receiver rows row → AreWordsOf receiver.variable (length_or_left receiver.most 0) row.words
words_of_row receiver rows row is =
    let type = receiver.variable.type in
    let count = length-map is.values (wrapped type) in
    subst (AreWordsOf receiver.variable (length_or_left receiver.most 0)) (ap (λ (r : Row). r.words) is.made) (record {
      scalar = λ f. count ∙ is.one f;
      array = λ t.
          subst (λ n. n ≤ length_or_left receiver.most 0) (sym count)
          (not_less (most_values receiver rows) (length is.values) (length_or_left receiver.most 0) (is.few t) (most_within receiver.most (entry_words rows)));
      values = all_of_each (IsWordOf type) (map (wrapped type) is.values) (words_kept type is.values is.right);
    })

-- ---- each row has a receiver, and no other row its name

-- the row of the first receiver of its name
pub record IsReceived (receivers : List Receiver) (row : Row) : Type 0 where
  pub receiver : Receiver
  pub first : find (λ r. same_text r.variable.name row.variable.name) receivers ≡ Some receiver
  pub variable : receiver.variable ≡ row.variable
  pub words : AreWordsOf receiver.variable (length_or_left receiver.most 0) row.words

-- no two rows have one name
abbrev AreApart : List Row → Type 0
AreApart rows = (i j : ℕ) (row other : Row) → slice_get rows i ≡ Some row → slice_get rows j ≡ Some other → row.variable.name ≡ other.variable.name → i ≡ j

abbrev AreRead : List Receiver → List Row → Type 0
AreRead receivers rows = Each (IsReceived receivers) rows × AreApart rows

-- the name of a receiver that is found
name_found : (receivers : List Receiver) (rows : List Row) (row : Row) (name : List ℕ) (receiver : Receiver) → receiver_of receivers rows name ≡ Some receiver → IsRowWith receiver rows row
    → row.variable.name ≡ name
name_found receivers rows row name receiver found is =
    let at = find_at (λ r. same_text r.variable.name name) receivers receiver (receiver_of_is receivers rows name receiver found).1 in
    ap (λ (r : Row). r.variable.name) (sym is.made) ∙ same_text-equal receiver.variable.name name at.2

row_received : (receivers : List Receiver) (rows : List Row) (row : Row) (name : List ℕ) (receiver : Receiver) → receiver_of receivers rows name ≡ Some receiver → IsRowWith receiver rows row
    → IsReceived receivers row
row_received receivers rows row name receiver found is = record {
  receiver = receiver;
  first = subst (λ n. find (λ r. same_text r.variable.name n) receivers ≡ Some receiver) (sym (name_found receivers rows row name receiver found is)) (receiver_of_is receivers rows name receiver found).1;
  variable = ap (λ (r : Row). r.variable) is.made;
  words = words_of_row receiver rows row is;
}

-- a row so far has another name
other_name : (rows : List Row) (name : List ℕ) (k : ℕ) (row : Row) → find (is_row_of name) rows ≡ None → slice_get rows k ≡ Some row → row.variable.name ≡ name → ⊥
other_name rows name k row none at same =
    true≢false (sym (ap (λ n. same_text n name) same ∙ same_text-refl name) ∙ find_none (is_row_of name) rows k row none at)

one_apart : (rows : List Row) (row : Row) (name : List ℕ) → find (is_row_of name) rows ≡ None → row.variable.name ≡ name → AreApart rows → AreApart (rows ++ row ∷ [])
one_apart rows row name none is apart i j one other first second same =
    by (get_behind rows row i one first) (get_behind rows row j other second)
  where
    by : (slice_get rows i ≡ Some one) ⊎ ((i ≡ length rows) × (row ≡ one)) → (slice_get rows j ≡ Some other) ⊎ ((j ≡ length rows) × (row ≡ other)) → i ≡ j
    by (inl before) (inl after) = apart i j one other before after same
    by (inl before) (inr last) = absurd (other_name rows name i one none before (same ∙ (ap (λ (r : Row). r.variable.name) (sym last.1) ∙ is)))
    by (inr last) (inl after) = absurd (other_name rows name j other none after (sym same ∙ (ap (λ (r : Row). r.variable.name) (sym last.1) ∙ is)))
    by (inr last) (inr last') = last.0 ∙ sym last'.0

one_read : (receivers : List Receiver) (rows : List Row) (row : Row) (name : List ℕ) (receiver : Receiver) → receiver_of receivers rows name ≡ Some receiver → IsRowWith receiver rows row
    → AreRead receivers rows → AreRead receivers (rows ++ row ∷ [])
one_read receivers rows row name receiver found is read = (
  each_join (IsReceived receivers) rows (row ∷ []) read.0 (row_received receivers rows row name receiver found is, tt),
  one_apart rows row name (receiver_of_is receivers rows name receiver found).0 (name_found receivers rows row name receiver found is) read.1,
)

-- ---- receivers

-- what holds of each row of a receiver
abbrev Receives : Program → Function → Receiver → Type 0
Receives p f receiver = (row : Row) → receiver.variable ≡ row.variable → AreWordsOf receiver.variable (length_or_left receiver.most 0) row.words → IsRowFor p f row

-- the parameters of a function have their numbers
abbrev AreOwn : List Variable → Type 0
AreOwn parameters = (n : ℕ) (v : Variable) → slice_get parameters n ≡ Some v → v.id ≡ Local n

parameter_receives : (p : Program) (f : Function) (n : ℕ) (v : Variable) → slice_get (parameters_of (Some f)) n ≡ Some v → v.id ≡ Local n → Receives p f (parameter_receiver v)
parameter_receives p f n v at id row same words =
    subst (λ i. IsRowOf p f i row) (sym (ap (λ (w : Variable). w.id) (sym same) ∙ id))
    (at ∙ ap Some same, subst (λ w. AreWordsOf w (2 ^ 20) row.words) same words)

-- an array of the file has at most as many words as elements
file_words : (g : Global) (words : List ℕ) → AreWordsOf g.variable (length_or_left (global_receiver g).most 0) words → AreWordsOf g.variable g.len words
file_words g words are = record {
  scalar = are.scalar;
  array = λ t. subst (λ b. length words ≤ length_or_left (if b then Some g.len else None) 0) t (are.array t);
  values = are.values;
}

uniform_is : (r : Rate) → is_uniform r ≡ true → r ≡ Uniform
uniform_is Uniform e = refl
uniform_is Varying e = absurd (true≢false (sym e))

-- whether a variable of the file may have a row
abbrev pub is_open : Global → Bool
is_open g = is_uniform g.variable.rate && not g.variable.is_constant

global_receives : (p : Program) (f : Function) (k : ℕ) (g : Global) → slice_get p.globals k ≡ Some g → is_open g ≡ true → g.variable.id ≡ File k → Receives p f (global_receiver g)
global_receives p f k g at is_free id row same words =
    let parts = and_true (is_uniform g.variable.rate) (not g.variable.is_constant) is_free in
    subst (λ i. IsRowOf p f i row) (sym (ap (λ (w : Variable). w.id) (sym same) ∙ id)) (
      g,
      at,
      record {
        variable = sym same;
        uniform = uniform_is g.variable.rate parts.0;
        changes = not_true g.variable.is_constant parts.1;
        words = file_words g row.words words;
      },
    )

receivers_right : (p : Program) (f : Function) → AreOwn (parameters_of (Some f)) → ((k : ℕ) (g : Global) → slice_get p.globals k ≡ Some g → g.variable.id ≡ File k)
    → Each (Receives p f) (receivers p (Some f))
receivers_right p f own files =
    each_join (Receives p f) (map parameter_receiver (parameters_of (Some f))) (map global_receiver (filter is_open p.globals))
    (each_map parameter_receiver (Receives p f) (parameters_of (Some f))
    (each_at (λ v. Receives p f (parameter_receiver v)) (parameters_of (Some f)) (λ n v at. parameter_receives p f n v at (own n v at))))
    (each_map global_receiver (Receives p f) (filter is_open p.globals)
    (each_passing (λ g. Receives p f (global_receiver g)) is_open p.globals (λ k g at free. global_receives p f k g at free (files k g at))))

row_right : (p : Program) (f : Function) → Each (Receives p f) (receivers p (Some f)) → (row : Row) → IsReceived (receivers p (Some f)) row → IsRowFor p f row
row_right p f right row is =
    let at = find_at (λ r. same_text r.variable.name row.variable.name) (receivers p (Some f)) is.receiver is.first in
    each_get (Receives p f) (receivers p (Some f)) at.0 is.receiver right at.1 row is.variable is.words

-- what holds of all rows holds of each
pub each_row : (P : Row → Type 0) (rows : List Row) → All P rows → (i : ℕ) (row : Row) → slice_get rows i ≡ Some row → P row
each_row P rows all i row at = subst P (get_or_from_slice_get rows i row row at) (all i row (slice_get_within rows i row at))

-- ---- no variable has two rows

-- the variable of a number is one
one_variable : (p : Program) (f : Function) (id : VarId) (row other : Row) → IsRowOf p f id row → IsRowOf p f id other → row.variable ≡ other.variable
one_variable p f (File k) row other is also =
    is.2.variable ∙ (ap (λ (g : Global). g.variable) (same_Some is.0 also.0 (sym is.1 ∙ also.1)) ∙ sym also.2.variable)
one_variable p f (Local n) row other is also = same_Some row.variable other.variable (sym is.0 ∙ also.0)

-- ---- each parameter has a row

-- the first receiver of a parameter's name is the parameter's
parameter_found : (parameters : List Variable) (others : List Receiver)
    → ((i j : ℕ) (v w : Variable) → slice_get parameters i ≡ Some v → slice_get parameters j ≡ Some w → v.name ≡ w.name → i ≡ j)
    → (n : ℕ) (v : Variable) → slice_get parameters n ≡ Some v → find (λ r. same_text r.variable.name v.name) (map parameter_receiver parameters ++ others) ≡ Some (parameter_receiver v)
parameter_found [] others apart n v at = absurd (none-some v at)
parameter_found (u ∷ parameters) others apart zero v at =
    let later = find (λ r. same_text r.variable.name v.name) (map parameter_receiver parameters ++ others) in
    ap (λ b. if b then Some (parameter_receiver u) else later) (ap (λ (w : Variable). same_text w.name v.name) (same_Some u v at) ∙ same_text-refl v.name)
    ∙ ap (λ w. Some (parameter_receiver w)) (same_Some u v at)
parameter_found (u ∷ parameters) others apart (suc n) v at =
    by (same_text u.name v.name) refl (parameter_found parameters others (λ i j x y first second same. less i j (apart (suc i) (suc j) x y first second same)) n v at)
  where
    less : (i j : ℕ) → suc i ≡ suc j → i ≡ j
    less i j e = omega (arith, e)

    by : (b : Bool) → same_text u.name v.name ≡ b → find (λ r. same_text r.variable.name v.name) (map parameter_receiver parameters ++ others) ≡ Some (parameter_receiver v)
        → (if b then Some (parameter_receiver u) else find (λ r. same_text r.variable.name v.name) (map parameter_receiver parameters ++ others)) ≡ Some (parameter_receiver v)
    by true is later = let none : 0 ≡ suc n = apart 0 (suc n) u v refl at (same_text-equal u.name v.name is) in absurd (omega (arith, none))
    by false is later = later

-- the row that a name has
row_found : (rows : List Row) (name : List ℕ) → is_some (find (is_row_of name) rows) ≡ true → (i : ℕ) × (row : Row) × (slice_get rows i ≡ Some row) × (row.variable.name ≡ name)
row_found rows name e = by (find (is_row_of name) rows) refl e
  where
    by : (o : Option Row) → find (is_row_of name) rows ≡ o → is_some o ≡ true → (i : ℕ) × (row : Row) × (slice_get rows i ≡ Some row) × (row.variable.name ≡ name)
    by None is e = absurd (true≢false (sym e))
    by (Some row) is e = let at = find_at (is_row_of name) rows row is in (at.0, row, at.1, same_text-equal row.variable.name name at.2)

parameter_row : (p : Program) (f : Function) (rows : List Row)
    → ((i j : ℕ) (v w : Variable) → slice_get (parameters_of (Some f)) i ≡ Some v → slice_get (parameters_of (Some f)) j ≡ Some w → v.name ≡ w.name → i ≡ j)
    → Each (IsReceived (receivers p (Some f))) rows → (n : ℕ) (v : Variable) → slice_get (parameters_of (Some f)) n ≡ Some v → HasRow rows v
    → (i : ℕ) × (row : Row) × (slice_get rows i ≡ Some row) × (row.variable ≡ v)
parameter_row p f rows apart received n v at has =
    let found = row_found rows v.name has in
    let row = found.1 in
    let is = each_get (IsReceived (receivers p (Some f))) rows found.0 row received found.2 in
    let first = parameter_found (parameters_of (Some f)) (map global_receiver (filter is_open p.globals)) apart n v at in
    let also = subst (λ name. find (λ r. same_text r.variable.name name) (receivers p (Some f)) ≡ Some is.receiver) found.3 is.first in
    (found.0, row, found.2, sym is.variable ∙ ap (λ (r : Receiver). r.variable) (same_Some is.receiver (parameter_receiver v) (sym also ∙ first)))

-- ---- the law

-- the rows of an input's lines
rows_right : (p : Program) (f : Function) → AreOwn (parameters_of (Some f)) → ((k : ℕ) (g : Global) → slice_get p.globals k ≡ Some g → g.variable.id ≡ File k)
    → ((i j : ℕ) (v w : Variable) → slice_get (parameters_of (Some f)) i ≡ Some v → slice_get (parameters_of (Some f)) j ≡ Some w → v.name ≡ w.name → i ≡ j)
    → (lines : List (List ℕ)) (rows : List Row) → rows_for p (Some f) lines ≡ Ok rows → AreInputs p f rows
rows_right p f own files apart lines rows e =
    let asked = receivers p (Some f) in
    let parameters = parameters_of (Some f) in
    let kept = rows_kept asked parameters (AreRead asked) (one_read asked) lines 1 [] rows (tt, λ i j row other first second same. absurd (none-some row first)) e in
    let right = each_follows (IsReceived asked) (IsRowFor p f) rows (row_right p f (receivers_right p f own files)) kept.0.0 in
    record {
      each = all_of_each (IsRowFor p f) rows right;
      once = λ i j row other first second same.
          kept.0.1 i j row other first second
          (ap (λ (v : Variable). v.name) (one_variable p f row.variable.id row other (each_get (IsRowFor p f) rows i row right first)
          (subst (λ id. IsRowOf p f id other) (sym same) (each_get (IsRowFor p f) rows j other right second))));
      all = λ n v at. parameter_row p f rows apart kept.0.0 n v at (each_get (HasRow rows) parameters n v kept.1 at);
    }

-- the function's parameters have numbers and names of their own
module _ (source : ParsedSource) (n : ℕ) (f : Function) (has : HasParameters source n f) where
  parameters_own : AreOwn (parameters_of (Some f))
  parameters_own k v at =
      let there = param_at 0 has.function.params k v (subst (λ vs. slice_get vs k ≡ Some v) has.parameters at) in
      ap (λ (w : Variable). w.id) there.2 ∙ ap Local (omega arith)

  parameters_apart : (i j : ℕ) (v w : Variable) → slice_get (parameters_of (Some f)) i ≡ Some v → slice_get (parameters_of (Some f)) j ≡ Some w → v.name ≡ w.name → i ≡ j
  parameters_apart i j v w first second same =
      let one = param_at 0 has.function.params i v (subst (λ vs. slice_get vs i ≡ Some v) has.parameters first) in
      let other = param_at 0 has.function.params j w (subst (λ vs. slice_get vs j ≡ Some w) has.parameters second) in
      has.apart i j one.0 other.0 one.1 other.1 (ap (λ (u : Variable). u.name) (sym one.2) ∙ (same ∙ ap (λ (u : Variable). u.name) other.2))

-- an input that is not too long
pub rows_of_lines : (p : Program) (entry : ℕ) (f : Function) (bytes : List ℕ) (rows : List Row) → slice_get p.functions entry ≡ Some f → rows_of p entry bytes ≡ Ok rows
    → rows_for p (Some f) (lines_of bytes) ≡ Ok rows
rows_of_lines p entry f bytes rows at e = subst (λ o. rows_for p o (lines_of bytes) ≡ Ok rows) at (by (nat_lt 4194304 (length bytes)) e)
  where
    by : (b : Bool) → (if b then Err (TooLarge None) else rows_for p (slice_get p.functions entry) (lines_of bytes)) ≡ Ok rows
        → rows_for p (slice_get p.functions entry) (lines_of bytes) ≡ Ok rows
    by true e = cc e
    by false e = e

-- the rows of an accepted input of an accepted source's program
pub rows_of-inputs : (source : ParsedSource) (p : Program) → IsAccepted source → program_of source ≡ Some p
    → (entry : ℕ) (f : Function) → slice_get p.functions entry ≡ Some f → (bytes : List ℕ) (rows : List Row) → rows_of p entry bytes ≡ Ok rows → AreInputs p f rows
rows_of-inputs source p accepted made entry f at bytes rows e =
    let has = has_parameters source p accepted made entry f at in
    rows_right p f (parameters_own source entry f has) (global_at source p made) (parameters_apart source entry f has) (lines_of bytes) rows
    (rows_of_lines p entry f bytes rows at e)

no_refusal : (refusal limit : Option SourceRefusal) → first_refusal refusal limit ≡ None → refusal ≡ None
no_refusal None limit e = refl
no_refusal (Some r) limit e = absurd (none-some r (sym e))

-- the same of an accepted text's program
pub inputs_of-text : (text : Bytes) (asked : Option Name) (p : Program) (entry : ℕ) → IsProgramOf text asked p entry
    → (f : Function) → slice_get p.functions entry ≡ Some f → (bytes : List ℕ) (rows : List Row) → rows_of p entry bytes ≡ Ok rows → AreInputs p f rows
inputs_of-text text asked p entry is f =
    rows_of-inputs is.source p (no_refusal (refusal_of is.source) (limit_refusal is.source) is.accepted.sound) is.program_is entry f
