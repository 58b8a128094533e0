-- Values of a watched variable, one after another.
use Rattle.std.proofs.Common.{◌≡◌, refl, sym, ap, subst, ◌∙◌, arith, ℕ, ◌+◌, ◌-◌, ◌<◌, ◌≤◌, Bool, true, false, List, [], ◌∷◌, ◌++◌, map, take, drop, length, get_or, min, Option, Some, None, length-append}
use Rattle.std.proofs.lemmas.List.{append-nil, append_assoc, drop-append-le, get_or-drop, length-drop, map-append, take-append-le, take-map, take_min, take_more, drop_more}
use Rattle.std.proofs.Math.Seq.{drop-append_seam, take-length}
use Rattle.std.specs.Prelude.{IfOk, Result, Ok, Err, is_none, slice_index}
use Rattle.gang_types.specs.declared.types.Rate.{Rate}
use Rattle.gang_model.specs.Types.Tree.{Program, Variable}
use Rattle.gang_model.specs.Running.State.{State}
use Rattle.gang_model.specs.Debugger.Debugger.{Debugger, Refusal, Setting, Target, bad_part, found, now, part_shown, shown_words, target_words}
use Rattle.debug_traits.specs.declared.machine.Position.{Position}
use Rattle.debug_traits.specs.declared.machine.Shown.{Shown}
use Rattle.debug_traits.specs.Machines.{Finds, IsShown}
use Rattle.lane_picture.specs.declared.columns.Column.{Column}
use Rattle.lane_picture.specs.declared.columns.Value.{Value}
use Rattle.lane_picture.specs.Seen.{IsColumnOf, next_state, state_after}
use Rattle.lane_picture.specs.Watched.{HasValues, HaveValues, NotesTarget, NotesWords, noted_values, value_view, values_of, with_type}

-- ---- words

-- one word more
words_more : (v : Variable) (words : List ℕ) (from index word : ℕ) (values : List Value) (value : Value) → from ≤ index → index < length words → word ≡ slice_index words index
    → value_view value ≡ (v.type, word) → map value_view values ≡ with_type v (take (index - from) (drop from words))
    → map value_view (values ++ value ∷ []) ≡ with_type v (take (index + 1 - from) (drop from words))
words_more v words from index word values value order inside read is so =
    let left = drop from words in
    let done = index - from in
    let long : done < length left = omega (arith, length-drop from words, order, inside) in
    let one : done + 1 ≡ index + 1 - from = omega (arith, order) in
    let back : from + done ≡ index = omega (arith, order) in
    let next : get_or left done 0 ≡ word = get_or-drop from words done 0 ∙ ap (λ n. get_or words n 0) back ∙ sym read in
    map-append value_view values (value ∷ []) ∙ ap (λ xs. xs ++ value_view value ∷ []) so ∙ ap (λ x. with_type v (take done left) ++ x ∷ []) is
    ∙ sym (map-append (λ word. (v.type, word)) (take done left) (word ∷ []))
    ∙ ap (λ x. with_type v (take done left ++ x ∷ [])) (sym next) ∙ ap (with_type v) (sym (take_more left done 0 long)) ∙ ap (λ n. with_type v (take n left)) one

module _ {M : Type 0} (stands : M → Setting → Debugger → Type 0) (m : M) (shown : Shown) (from : ℕ) where
  -- no words yet
  pub none_noted : (values : List Value) → NotesWords stands m shown from from values values
  none_noted values = ([], sym (append-nil values), λ s d v st is few. let none : from - from ≡ 0 = omega arith in ap (λ n. with_type v (take n (drop from (shown_words (now s d) v)))) (sym none))

  -- one word more
  pub one_noted : (index : ℕ) (old values new : List Value) (value : Value) → from ≤ index → new ≡ values ++ value ∷ [] → value.value_type ≡ shown.value_type
      → ((s : Setting) (d : Debugger) (v : Variable) → stands m s d → IsShown s d v shown → index < shown.count → value.word ≡ slice_index (shown_words (now s d) v) index)
      → NotesWords stands m shown from index old values → NotesWords stands m shown from (index + 1) old new
  one_noted index old values new value order more type read (noted, is, same) = (
    noted ++ value ∷ [],
    more ∙ ap (λ xs. xs ++ value ∷ []) is ∙ append_assoc old noted (value ∷ []),
    λ s d v st shows few.
        let inside : index < shown.count = omega (arith, few) in
        let there : index < length (shown_words (now s d) v) = omega (arith, inside, shows.count) in
        let here : value_view value ≡ (v.type, value.word) = ap (λ t. (t, value.word)) (type ∙ sym shows.type) in
        words_more v (shown_words (now s d) v) from index value.word noted value order there (read s d v st shows inside) here (same s d v st shows (omega (arith, inside))),
  )

-- ---- what `print` shows

-- a whole variable can be shown
whole_part : (is_array : Bool) (rate : Rate) (n : ℕ) → bad_part true None is_array rate n ≡ None
whole_part true rate n = refl
whole_part false rate n = refl

module _ (p : Program) (state : State) (target : Target) where
  -- a variable whose part cannot be had
  refused_printed : (v : Variable) (r : Refusal) → found p state target.name ≡ Some v → bad_part true target.at v.is_array v.rate (length (shown_words state v)) ≡ Some r → noted_values p state (Some target) ≡ []
  refused_printed v r is bad = rw (is, bad) refl

  -- a variable whose part can be had
  some_printed : (v : Variable) → found p state target.name ≡ Some v → bad_part true target.at v.is_array v.rate (length (shown_words state v)) ≡ None
      → noted_values p state (Some target) ≡ take 16 (with_type v (target_words state target v))
  some_printed v is good = rw (is, good) refl

-- where there is a refusal and where there is none
none_of : (o : Option Refusal) → is_none o ≡ true → o ≡ None
none_of None e = refl
none_of (Some r) e = grind arith

some_of : (o : Option Refusal) → is_none o ≡ false → (r : Refusal) × (o ≡ Some r)
some_of None e = grind arith
some_of (Some r) e = (r, refl)

-- a call that found its memory
pub ok_more : {X E P Q : Type 0} (r : Result X E) → (P → Q) → IfOk r (λ _. P) → IfOk r (λ _. Q)
ok_more (Ok x) more p = more p
ok_more (Err e) more p = p

module _ {M : Type 0} (stands : M → Setting → Debugger → Type 0) (m : M) (target : Target) (shown : Shown) (finds : (s : Setting) (d : Debugger) → stands m s d → Finds s d target.name (Some shown)) where
  -- the part of a variable, and what can be shown of it
  part_same : (s : Setting) (d : Debugger) (v : Variable) (k : ℕ) → target.at ≡ Some k → IsShown s d v shown
      → bad_part true target.at v.is_array v.rate (length (shown_words (now s d) v)) ≡ bad_part true (Some k) shown.is_array shown.rate shown.count
  part_same s d v k at shows = rw (shows.count, at, shows.is_array, shows.rate) refl

  -- the first words of a whole variable
  pub whole_noted : (count : ℕ) (old new : List Value) → target.at ≡ None → count ≡ min shown.count 16 → NotesWords stands m shown 0 count old new → NotesTarget stands m (Some target) old new
  whole_noted count old new at is noted = (
    noted.0,
    noted.1,
    λ s d st.
        let there = finds s d st in
        let v = there.0 in
        let shows = there.2 in
        let words = shown_words (now s d) v in
        let good : bad_part true target.at v.is_array v.rate (length words) ≡ None = ap (λ at. bad_part true at v.is_array v.rate (length words)) at ∙ whole_part v.is_array v.rate (length words) in
        let few : count ≤ shown.count = omega (arith, is) in
        let many : count - 0 ≡ min 16 (length words) = omega (arith, is, shows.count) in
        let all : target_words (now s d) target v ≡ words = ap (λ at. part_shown at words) at in
        noted.2 s d v st shows few ∙ ap (λ n. with_type v (take n words)) many ∙ ap (with_type v) (take_min 16 words) ∙ sym (take-map (λ word. (v.type, word)) 16 words)
        ∙ ap (λ words. take 16 (with_type v words)) (sym all) ∙ sym (some_printed s.program (now s d) target v there.1 good),
  )

  -- one word
  pub part_noted : (k : ℕ) (old new : List Value) → target.at ≡ Some k → is_none (bad_part true (Some k) shown.is_array shown.rate shown.count) ≡ true → k < shown.count
      → NotesWords stands m shown k (k + 1) old new → NotesTarget stands m (Some target) old new
  part_noted k old new at can inside noted = (
    noted.0,
    noted.1,
    λ s d st.
        let there = finds s d st in
        let v = there.0 in
        let shows = there.2 in
        let words = shown_words (now s d) v in
        let good : bad_part true target.at v.is_array v.rate (length words) ≡ None = part_same s d v k at shows ∙ none_of (bad_part true (Some k) shown.is_array shown.rate shown.count) can in
        let one : k + 1 - k ≡ 1 = omega arith in
        let here : k < length words = omega (arith, inside, shows.count) in
        let first : take (k + 1 - k) (drop k words) ≡ slice_index words k ∷ [] = ap (λ n. take n (drop k words)) one ∙ ap (take 1) (drop_more words k 0 here) in
        let part : target_words (now s d) target v ≡ slice_index words k ∷ [] = ap (λ at. part_shown at words) at in
        noted.2 s d v st shows (omega (arith, inside)) ∙ ap (with_type v) first ∙ ap (λ words. take 16 (with_type v words)) (sym part) ∙ sym (some_printed s.program (now s d) target v there.1 good),
  )

  -- no word, where the part cannot be had
  pub refused_noted : (k : ℕ) (values : List Value) → target.at ≡ Some k → is_none (bad_part true (Some k) shown.is_array shown.rate shown.count) ≡ false → NotesTarget stands m (Some target) values values
  refused_noted k values at cannot = (
    [],
    sym (append-nil values),
    λ s d st.
        let there = finds s d st in
        let bad = some_of (bad_part true (Some k) shown.is_array shown.rate shown.count) cannot in
        sym (refused_printed s.program (now s d) target there.0 bad.0 there.1 (part_same s d there.0 k at there.2 ∙ bad.1)),
  )

-- ---- columns

module _ (p : Program) (target : Option Target) where
  -- a column's values stay where others are put behind them
  value_stays : (values more : List Value) (state : State) (column : Column) → HasValues p target values state column → HasValues p target (values ++ more) state column
  value_stays values more state column has =
      let from = column.first_value in
      let count = column.end_of_values - from in
      let start : from ≤ length values = omega (arith, has.order, has.inside) in
      let room : count ≤ length (drop from values) = omega (arith, length-drop from values, has.inside) in
      let kept : values_of (values ++ more) column ≡ values_of values column = ap (take count) (drop-append-le from values more start) ∙ take-append-le count (drop from values) more room in
      record { order = has.order; inside = omega (arith, has.inside, length-append values more); same = ap (map value_view) kept ∙ has.same }

  values_stay : (values more : List Value) (state : State) (columns : List Column) → HaveValues p target values state columns → HaveValues p target (values ++ more) state columns
  values_stay values more state [] have = tt
  values_stay values more state (column ∷ columns) have = (value_stays values more state column have.0, values_stay values more (next_state p state) columns have.1)

  -- one column more
  with_values : (values : List Value) (state : State) (columns : List Column) (column : Column) → HaveValues p target values state columns → HasValues p target values (state_after p (length columns) state) column → HaveValues p target values state (columns ++ column ∷ [])
  with_values values state [] column have has = (has, tt)
  with_values values state (first ∷ columns) column have has = (have.0, with_values values (next_state p state) columns column have.1 has)

  -- the values that were put behind others are those of the column
  last_values : (old values : List Value) (state : State) (column : Column) → column.first_value ≡ length old → column.end_of_values ≡ length (old ++ values)
      → map value_view values ≡ noted_values p state target → HasValues p target (old ++ values) state column
  last_values old values state column from to are =
      let long = length-append old values in
      let count : column.end_of_values - column.first_value ≡ length values = omega (arith, from, to, long) in
      let rest : drop column.first_value (old ++ values) ≡ values = ap (λ n. drop n (old ++ values)) from ∙ drop-append_seam old values in
      let own : values_of (old ++ values) column ≡ values = ap (λ xs. take (column.end_of_values - column.first_value) xs) rest ∙ ap (λ n. take n values) count ∙ take-length values in
      record { order = omega (arith, from, to, long); inside = omega (arith, to); same = ap (map value_view) own ∙ are }

-- columns with the one of where the run stands now
pub values_more : {M : Type 0} (stands : M → Setting → Debugger → Type 0) (s : Setting) (m : M) (target : Option Target) (first : State) (e : Debugger) → stands m s e
    → (taken : ℕ) (position : Position) (from to : ℕ) (values new_values : List Value) (column : Column) (old new : List Column) → length old ≡ taken → now s e ≡ state_after s.program taken first
    → IsColumnOf position from to column → from ≡ length values → to ≡ length new_values → new ≡ old ++ column ∷ [] → NotesTarget stands m target values new_values
    → HaveValues s.program target values first old → HaveValues s.program target new_values first new
values_more stands s m target first e st taken position from to values new_values column old new each stood is from_is to_is more noted have =
    let p = s.program in
    let own = noted.0 in
    let reached : now s e ≡ state_after p (length old) first = stood ∙ ap (λ n. state_after p n first) (sym each) in
    let ends : column.end_of_values ≡ length (values ++ own) = is.to_is ∙ to_is ∙ ap length noted.1 in
    let last = last_values p target values own (now s e) column (is.from_is ∙ from_is) ends (noted.2 s e st) in
    let all : HaveValues p target (values ++ own) first (old ++ column ∷ []) =
    with_values p target (values ++ own) first old column (values_stay p target values own first old have) (subst (λ state. HasValues p target (values ++ own) state column) reached last) in
    subst (λ columns. HaveValues p target new_values first columns) (sym more) (subst (λ given. HaveValues p target given first (old ++ column ∷ [])) (sym noted.1) all)
