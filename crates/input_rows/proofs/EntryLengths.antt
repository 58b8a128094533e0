-- The lengths of the entry's arrays: of each what its row has, and at most 2 ^ 20 words in all.
use Rattle.std.proofs.Common.{ℕ, zero, suc, ◌+◌, ◌-◌, ◌^◌, ◌<◌, ◌≤◌, true≢false, Bool, true, false, ◌&&◌, ◌==◌, List, [], ◌∷◌, ◌++◌, length, ◌≡◌, refl, sym, ◌∙◌, ap, subst, arith}
use Rattle.std.proofs.lemmas.Bool.Decides.{nat_tests}
use Rattle.std.proofs.lemmas.List.{length-map}
use Rattle.std.proofs.lemmas.List.Sums.{sum_by-cons}
use Rattle.std.proofs.lemmas.List.FromFn.{get_or-map-range_with_len}
use Rattle.std.proofs.lemmas.Option.{same_Some, none-some}
use Rattle.std.specs.Prelude.{map, filter, get_or, nat_lt, Some, None, Ok, slice_get, if◌then◌else◌}
use Rattle.std.specs.List.{range_with_len, sum}
use Rattle.gang_types.specs.declared.places.VarId.{VarId}
use Rattle.gang_types.specs.declared.places.VarId.TheVariants.{File, Local}
use Rattle.gang_types.specs.Values.{wrapped}
use Rattle.gang_model.specs.Source.Names.{same_text}
use Rattle.gang_model.specs.Source.Parsed.{ParsedSource}
use Rattle.gang_model.specs.Types.Tree.{Variable, Global, Function, Program}
use Rattle.gang_model.specs.Types.Resolved.{program_of}
use Rattle.gang_model.specs.Debugger.Events.{Row}
use Rattle.gang_model.specs.Debugger.Positions.{closing_of, standing_in, scope_of}
use Rattle.gang_model.specs.Texts.Transcript.{lines_of}
use Rattle.gang_model.specs.Texts.InputText.{Receiver, parameters_of, parameter_receiver, global_receiver, receivers, receiver_of, length_or_left, entry_words, rows_of}
use Rattle.gang_model.proofs.JudgedLaws.{and_true}
use Rattle.gang_model.proofs.StandingLaws.{Each, each_join}
use Rattle.input_rows.specs.Inputs.{IsRowOf, IsRowFor, AreInputs, is_own, entry_length, entry_lengths}
use Rattle.input_rows.proofs.Elements.{each_at, each_get, each_map, each_passing, find_at}
use Rattle.input_rows.proofs.EntryParameters.{global_own}
use Rattle.input_rows.proofs.InputRows.{is_open, rows_of_lines, each_row}
use Rattle.input_rows.proofs.RowsRead.{IsRowWith, receiver_of_is, rows_kept}

-- ---- of each parameter

-- whether a row is that of an array parameter of this number
abbrev is_array_row : ℕ → Row → Bool
is_array_row n row = row.variable.is_array && is_own n row.variable.id

pub own_is : (n : ℕ) (id : VarId) → is_own n id ≡ true → id ≡ Local n
own_is n (File k) e = absurd (true≢false (sym e))
own_is n (Local k) e = ap Local (same k n e)
  where
    same : (k n : ℕ) → (k == n) ≡ true → k ≡ n
    same k n e = grind (arith, nat_tests)

own_same : (n : ℕ) → is_own n (Local n) ≡ true
own_same n = same n
  where
    same : (n : ℕ) → (n == n) ≡ true
    same n = grind (arith, nat_tests)

-- no two rows have one variable
abbrev pub AreOnce : List Row → Type 0
AreOnce rows = (i j : ℕ) (row other : Row) → slice_get rows i ≡ Some row → slice_get rows j ≡ Some other → row.variable.id ≡ other.variable.id → i ≡ j

less_one : (i j : ℕ) → suc i ≡ suc j → i ≡ j
less_one i j e = omega (arith, e)

-- an array's length is that of its row
pub length_at : (rows : List Row) → AreOnce rows → (i n : ℕ) (row : Row) → slice_get rows i ≡ Some row → row.variable.id ≡ Local n → row.variable.is_array ≡ true
    → entry_length rows n ≡ length row.words
length_at [] once i n row at id is = absurd (none-some row at)
length_at (first ∷ rows) once zero n row at id is =
    let same = same_Some first row at in
    let test : is_array_row n first ≡ true = ap (is_array_row n) same ∙ (ap (λ b. b && is_own n row.variable.id) is ∙ (ap (is_own n) id ∙ own_same n)) in
    ap (λ b. if b then length first.words else entry_length rows n) test ∙ ap (λ (r : Row). length r.words) same
length_at (first ∷ rows) once (suc i) n row at id is =
    by (is_array_row n first) refl (length_at rows (λ j k r s one other same. less_one j k (once (suc j) (suc k) r s one other same)) i n row at id is)
  where
    by : (b : Bool) → is_array_row n first ≡ b → entry_length rows n ≡ length row.words → (if b then length first.words else entry_length rows n) ≡ length row.words
    by true test later =
        let parts = and_true first.variable.is_array (is_own n first.variable.id) test in
        let none : 0 ≡ suc i = once 0 (suc i) first row refl at (own_is n first.variable.id parts.1 ∙ sym id) in
        absurd (omega (arith, none))
    by false test later = later

-- the length of what is no array is 0
pub length_none : (rows : List Row) (n : ℕ) → ((i : ℕ) (row : Row) → slice_get rows i ≡ Some row → row.variable.id ≡ Local n → row.variable.is_array ≡ false) → entry_length rows n ≡ 0
length_none [] n none = refl
length_none (first ∷ rows) n none = by (is_array_row n first) refl (length_none rows n (λ i row at id. none (suc i) row at id))
  where
    by : (b : Bool) → is_array_row n first ≡ b → entry_length rows n ≡ 0 → (if b then length first.words else entry_length rows n) ≡ 0
    by true test later =
        let parts = and_true first.variable.is_array (is_own n first.variable.id) test in
        absurd (true≢false (sym parts.0 ∙ none 0 first refl (own_is n first.variable.id parts.1)))
    by false test later = later

-- the length of a parameter's array
module _ (p : Program) (f : Function) (rows : List Row) (inputs : AreInputs p f rows) where
  pub entry_length_is : (count i n : ℕ) (row : Row) → n < count → slice_get rows i ≡ Some row → row.variable.id ≡ Local n → row.variable.is_array ≡ true
      → get_or (entry_lengths count rows) n 0 ≡ length row.words
  entry_length_is count i n row lt at id is =
      get_or-map-range_with_len (entry_length rows) 0 count n n 0 lt (omega arith) ∙ length_at rows inputs.once i n row at id is

  pub entry_length_none : (count n : ℕ) (v : Variable) → n < count → slice_get (parameters_of (Some f)) n ≡ Some v → v.is_array ≡ false → get_or (entry_lengths count rows) n 0 ≡ 0
  entry_length_none count n v lt there no_array =
      get_or-map-range_with_len (entry_length rows) 0 count n n 0 lt (omega arith)
      ∙ length_none rows n (λ i row at id.
      let right : IsRowOf p f (Local n) row = subst (λ x. IsRowOf p f x row) id (each_row (IsRowFor p f) rows inputs.each i row at) in
      ap (λ (w : Variable). w.is_array) (same_Some row.variable v (sym right.0 ∙ there)) ∙ no_array)

-- ---- in all

-- what a row has of the words of entry arrays
abbrev words_in : Row → ℕ
words_in row = if row.variable.is_array && row.variable.is_parameter then length row.words else 0

-- a parameter's number is that of a parameter
abbrev IsMarked : Row → Type 0
IsMarked row = (n : ℕ) → row.variable.id ≡ Local n → row.variable.is_parameter ≡ true

-- the lengths of so many parameters from a number on
abbrev counted : List Row → (first count : ℕ) → ℕ
counted rows first count = sum (map (entry_length rows) (range_with_len first count))

counted_more : (rows : List Row) (a count : ℕ) → counted rows a (suc count) ≡ entry_length rows a + counted rows (a + 1) count
counted_more rows a count = sum_by-cons (λ x. x) (entry_length rows a) (map (entry_length rows) (range_with_len (a + 1) count))

-- past a row's number the row counts nothing
counted_past : (row : Row) (rows : List Row) (n a count : ℕ) → row.variable.id ≡ Local n → n < a → counted (row ∷ rows) a count ≡ counted rows a count
counted_past row rows n a zero id lt = refl
counted_past row rows n a (suc count) id lt =
    let later = counted_past row rows n (a + 1) count id (omega (arith, lt)) in
    let here : entry_length (row ∷ rows) a ≡ entry_length rows a = by (is_array_row a row) refl in
    omega (arith, counted_more (row ∷ rows) a count, counted_more rows a count, later, here)
  where
    by : (b : Bool) → is_array_row a row ≡ b → (if b then length row.words else entry_length rows a) ≡ entry_length rows a
    by true test =
        let same : Local n ≡ Local a = sym id ∙ own_is a row.variable.id (and_true row.variable.is_array (is_own a row.variable.id) test).1 in
        let equal : n ≡ a = cc same in
        absurd (omega (arith, lt, equal))
    by false test = refl

-- a row counts once at most
counted_once : (row : Row) (rows : List Row) (a count : ℕ) → IsMarked row → counted (row ∷ rows) a count ≤ words_in row + counted rows a count
counted_once row rows a zero marked = omega arith
counted_once row rows a (suc count) marked =
    let here = by (is_array_row a row) refl (counted_once row rows (a + 1) count marked) in
    omega (arith, counted_more (row ∷ rows) a count, counted_more rows a count, here)
  where
    by : (b : Bool) → is_array_row a row ≡ b → counted (row ∷ rows) (a + 1) count ≤ words_in row + counted rows (a + 1) count
        → (if b then length row.words else entry_length rows a) + counted (row ∷ rows) (a + 1) count ≤ words_in row + (entry_length rows a + counted rows (a + 1) count)
    by true test later =
        let parts = and_true row.variable.is_array (is_own a row.variable.id) test in
        let id = own_is a row.variable.id parts.1 in
        let past = counted_past row rows a (a + 1) count id (omega arith) in
        let own : words_in row ≡ length row.words = ap (λ b. if b && row.variable.is_parameter then length row.words else 0) parts.0 ∙ ap (λ b. if b then length row.words else 0) (marked a id) in
        omega (arith, past, own)
    by false test later = omega (arith, later)

nothing_counted : (a count : ℕ) → counted [] a count ≡ 0
nothing_counted a zero = refl
nothing_counted a (suc count) = let later = nothing_counted (a + 1) count in omega (arith, counted_more [] a count, later)

-- the lengths are at most the words of the rows of entry arrays
lengths_within : (rows : List Row) (a count : ℕ) → Each IsMarked rows → counted rows a count ≤ entry_words rows
lengths_within [] a count marked = let none = nothing_counted a count in omega (arith, none)
lengths_within (row ∷ rows) a count marked =
    let one = counted_once row rows a count marked.0 in
    let later = lengths_within rows a count marked.1 in
    omega (arith, one, later)

-- ---- rows of an accepted input

words_behind : (rows : List Row) (row : Row) → entry_words (rows ++ row ∷ []) ≡ entry_words rows + words_in row
words_behind [] row = omega arith
words_behind (r ∷ rows) row = omega (arith, words_behind rows row)

-- a parameter's row has no length of its own
abbrev IsUnbounded : Receiver → Type 0
IsUnbounded receiver = receiver.variable.is_parameter ≡ true → receiver.most ≡ None

unbounded : (p : Program) (f : Function) → ((k : ℕ) (g : Global) → slice_get p.globals k ≡ Some g → g.variable.is_parameter ≡ false) → Each IsUnbounded (receivers p (Some f))
unbounded p f own =
    each_join IsUnbounded (map parameter_receiver (parameters_of (Some f))) (map global_receiver (filter is_open p.globals))
    (each_map parameter_receiver IsUnbounded (parameters_of (Some f)) (each_at (λ v. IsUnbounded (parameter_receiver v)) (parameters_of (Some f)) (λ n v at is. refl)))
    (each_map global_receiver IsUnbounded (filter is_open p.globals)
    (each_passing (λ g. IsUnbounded (global_receiver g)) is_open p.globals (λ k g at free is. absurd (true≢false (sym is ∙ own k g at)))))

room_left : (words len : ℕ) → words ≤ 2 ^ 20 → nat_lt (2 ^ 20 - words) len ≡ false → words + len ≤ 2 ^ 20
room_left words len le fits = grind (arith, nat_tests)

words_more : (asked : List Receiver) → Each IsUnbounded asked → (rows : List Row) (row : Row) (name : List ℕ) (receiver : Receiver) → receiver_of asked rows name ≡ Some receiver
    → IsRowWith receiver rows row → entry_words rows ≤ 2 ^ 20 → entry_words (rows ++ row ∷ []) ≤ 2 ^ 20
words_more asked free rows row name receiver found is le =
    subst (λ n. n ≤ 2 ^ 20) (sym (words_behind rows row)) (by row.variable.is_array refl row.variable.is_parameter refl)
  where
    by : (array : Bool) → row.variable.is_array ≡ array → (parameter : Bool) → row.variable.is_parameter ≡ parameter → entry_words rows + (if array && parameter then length row.words else 0) ≤ 2 ^ 20
    by true a true b =
        let variable : receiver.variable ≡ row.variable = ap (λ (r : Row). r.variable) is.made in
        let at = find_at (λ r. same_text r.variable.name name) asked receiver (receiver_of_is asked rows name receiver found).1 in
        let none = each_get IsUnbounded asked at.0 receiver free at.1 (ap (λ (v : Variable). v.is_parameter) variable ∙ b) in
        let fits = is.few (ap (λ (v : Variable). v.is_array) variable ∙ a) in
        let count : length row.words ≡ length is.values = ap (λ (r : Row). length r.words) (sym is.made) ∙ length-map is.values (wrapped receiver.variable.type) in
        subst (λ n. entry_words rows + n ≤ 2 ^ 20) (sym count) (room_left (entry_words rows) (length is.values) le (subst (λ o. nat_lt (length_or_left o (entry_words rows)) (length is.values) ≡ false) none fits))
    by true a false b = omega (arith, le)
    by false a parameter b = omega (arith, le)

-- the rows of an accepted input have at most 2 ^ 20 words of entry arrays
words_few : (source : ParsedSource) (p : Program) → program_of source ≡ Some p
    → (entry : ℕ) (f : Function) → slice_get p.functions entry ≡ Some f → (bytes : List ℕ) (rows : List Row) → rows_of p entry bytes ≡ Ok rows → entry_words rows ≤ 2 ^ 20
words_few source p made entry f at bytes rows e =
    let asked = receivers p (Some f) in
    (rows_kept asked (parameters_of (Some f)) (λ rs. entry_words rs ≤ 2 ^ 20) (words_more asked (unbounded p f (global_own source p made))) (lines_of bytes) 1 [] rows (omega arith)
    (rows_of_lines p entry f bytes rows at e)).0

are_marked : (variables : List Variable) → Each (λ v. v.is_parameter ≡ true) (filter (λ v. v.is_parameter) variables)
are_marked variables = each_passing (λ (v : Variable). v.is_parameter ≡ true) (λ (v : Variable). v.is_parameter) variables (λ k v there is. is)

marked_from : (p : Program) (f : Function) (rows : List Row) → AreInputs p f rows → Each IsMarked rows
marked_from p f rows inputs =
    each_at IsMarked rows (λ i row at n id.
    let right : IsRowOf p f (Local n) row = subst (λ x. IsRowOf p f x row) id (each_row (IsRowFor p f) rows inputs.each i row at) in
    each_get (λ v. v.is_parameter ≡ true) (parameters_of (Some f)) n row.variable (are_marked (scope_of (standing_in (Some f) (closing_of (Some f))))) right.0)

-- the entry's arrays have at most 2 ^ 20 words in all
pub entry_lengths_few : (source : ParsedSource) (p : Program) → program_of source ≡ Some p
    → (entry : ℕ) (f : Function) → slice_get p.functions entry ≡ Some f → (bytes : List ℕ) (rows : List Row) → rows_of p entry bytes ≡ Ok rows → AreInputs p f rows
    → (count : ℕ) → sum (entry_lengths count rows) ≤ 2 ^ 20
entry_lengths_few source p made entry f at bytes rows e inputs count =
    let within = lengths_within rows 0 count (marked_from p f rows inputs) in
    let few = words_few source p made entry f at bytes rows e in
    omega (arith, within, few)
