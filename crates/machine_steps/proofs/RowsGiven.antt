-- The rows of an input are given one after the other.
use Rattle.std.proofs.Common.{◌≡◌, refl, sym, ap, ◌∙◌, subst, ℕ, zero, suc, ◌+◌, ◌^◌, ◌≤◌, Bool, true, false, List, [], ◌∷◌, length, Some, arith}
use Rattle.std.specs.Prelude.{drop, map, slice_get, if◌then◌else◌}
use Rattle.std.proofs.lemmas.List.{drop_all}
use Rattle.std.proofs.lemmas.Option.{none-some, same_Some, slice_get_within}
use Rattle.gang_types.specs.declared.places.VarId.{VarId}
use Rattle.gang_types.specs.declared.places.VarId.TheVariants.{File, Local}
use Rattle.gang_model.specs.Debugger.Events.{Given, Row, with_row, with_rows}
use Rattle.gang_model.specs.Running.State.{words_for}
use Rattle.gang_model.specs.Texts.InputText as text
use Rattle.gang_model.specs.Types.Tree.{Function}
use Rattle.undo_log.specs.History.{History}
use Rattle.typed_tree.specs.declared.program.Global.{Global}
use Rattle.typed_tree.specs.Views.{global_view}
use Rattle.gang_memory.specs.Layouts.{global_words as layout_words}
use Rattle.gang_memory.specs.Recorded.{without_words}
use Rattle.input_rows.specs.declared.row.InputRow.{InputRow}
use Rattle.input_rows.specs.Inputs.{AreWordsOf, IsFileRow, IsRowFor, IsRowOf}
use Rattle.input_rows.specs.Rows.{AreRows, numbered, row_view}
use Rattle.input_rows.proofs.EntryLengths.{length_at}
use Rattle.input_rows.proofs.InputRows.{each_row}
use Rattle.machine_states.specs.GivenRows.{FitsParameter, FitsRow, GivesRow, ShowsGiven}
use Rattle.machine_states.specs.Regions.{OfEntry, OfFile, OfLocal}
use Rattle.machine_states.specs.Variables.{is_array_of, own_of, rate_of}
use Rattle.machine_states.proofs.GivenRows.{IsParameterRow, row_given}
use Rattle.machine_states.proofs.Elements.{get_mapped}
use Rattle.machine_words.specs.declared.words.MachineWords.{MachineWords}
use Rattle.machine_words.specs.Words.{regions_in}
use Rattle.frame_steps.specs.declared.compiled.CompiledProgram.{CompiledProgram}
use Rattle.frame_steps.specs.Compiled.{program_of, variables_of}
use Rattle.frame_steps.specs.Standing.{AreFor}
use Rattle.frame_steps.proofs.GangLanes.{gang_wide}
use Rattle.frame_steps.proofs.Standings.{own_sized}
use Rattle.machine_steps.specs.Beginning.{AreChanged, GivesRows, HaveEntryLengths, MayBegin}
use Rattle.machine_steps.proofs.FirstWords.{file_long, lie_kept}
use Rattle.machine_steps.proofs.RowWords.{regions_long}

-- ---- lists

-- the row of the definitions that an input row is
pub row_beside : (given : List Row) (rows : List InputRow) → AreRows given rows → (i : ℕ) (input : InputRow) → slice_get rows i ≡ Some input
    → (row : Row) × (slice_get given i ≡ Some row) × (row.variable.id ≡ input.var) × (row.words ≡ input.values.items)
row_beside [] [] are i input is = absurd (none-some input is)
row_beside [] (x ∷ rows) are i input is = absurd (cc are)
row_beside (y ∷ given) [] are i input is = absurd (cc are)
row_beside (y ∷ given) (x ∷ rows) are zero input is =
    let pair : numbered y ≡ row_view x = cc are in
    let same = same_Some x input is in
    (y, refl, ap (λ (p : VarId × List ℕ). p.0) pair ∙ ap (λ (r : InputRow). r.var) same, ap (λ (p : VarId × List ℕ). p.1) pair ∙ ap (λ (r : InputRow). r.values.items) same)
row_beside (y ∷ given) (x ∷ rows) are (suc i) input is = row_beside given rows (let rest : map numbered given ≡ map row_view rows = cc are in rest) i input is

behind : {A : Type 0} (xs : List A) (i : ℕ) (x : A) → slice_get xs i ≡ Some x → drop i xs ≡ x ∷ drop (suc i) xs
behind [] i x is = absurd (none-some x is)
behind (y ∷ xs) zero x is = ap (λ z. z ∷ xs) (same_Some y x is)
behind (y ∷ xs) (suc i) x is = behind xs i x is

-- ---- one row fits

module _ {T : Type 0} (history : T → History) (width : ℕ) (compiled : CompiledProgram) (entry : ℕ) (mid : MachineWords T) (lie : AreFor history width compiled mid)
    (f : Function) (given : List Row) (rows : List InputRow) (may : MayBegin compiled.program entry f given rows) (lengths : HaveEntryLengths (regions_in history width mid) given)
    (i : ℕ) (row : Row) (is_row : slice_get given i ≡ Some row) where
  right : IsRowFor (program_of compiled) f row
  right = each_row (IsRowFor (program_of compiled) f) given may.inputs.each i row is_row

  room : (g : Global) (b : Bool) → g.variable.is_array ≡ b → IsFileRow (global_view g) row → length row.words ≤ layout_words width g
  room g true is r =
      let few = r.words.array is in
      let size : layout_words width g ≡ g.length = ap (λ b. if b then g.length else words_for width g.variable.rate) is in
      omega (arith, few, size)
  room g false is r =
      let one = r.words.scalar is in
      let size : layout_words width g ≡ 1 = ap (λ b. if b then g.length else words_for width g.variable.rate) is ∙ ap (words_for width) r.uniform in
      omega (arith, one, size)

  pub file_fits : (k : ℕ) → row.variable.id ≡ File k → length row.words ≤ length (regions_in history width mid (OfFile k))
  file_fits k id =
      let mine : IsRowOf (program_of compiled) f (File k) row = subst (λ v. IsRowOf (program_of compiled) f v row) id right in
      let found = get_mapped global_view compiled.program.globals.items k mine.0 mine.1 in
      let fits = room found.0 found.0.variable.is_array refl (subst (λ g. IsFileRow g row) (sym found.2) mine.2) in
      let long = file_long history width compiled mid lie k found.0 found.1 in
      omega (arith, fits, long)

  module _ (k : ℕ) (id : row.variable.id ≡ Local k) where
    parameter : (slice_get (text.parameters_of (Some f)) k ≡ Some row.variable) × AreWordsOf row.variable (2 ^ 20) row.words
    parameter = subst (λ v. IsRowOf (program_of compiled) f v row) id right

    own : slice_get (own_of (variables_of compiled) entry) k ≡ Some row.variable
    own = may.parameters.own k row.variable parameter.0

    pub is_parameter_row : IsParameterRow (variables_of compiled) entry (regions_in history width mid) k row
    is_parameter_row = record {
      is_array = ap is_array_of own;
      long = λ array. lengths k ∙ length_at given may.inputs.once i k row is_row id array;
      uniform = λ scalar. ap rate_of own ∙ may.parameters.uniform k row.variable parameter.0;
      one = λ scalar. parameter.1.scalar scalar;
    }

    local_long : length (regions_in history width mid (OfLocal 0 k)) ≡ width
    local_long = own_sized history width compiled mid mid lie refl lie.laid 0 entry k row.variable (omega arith) own

    fits_parameter : (b : Bool) → row.variable.is_array ≡ b → FitsParameter width (regions_in history width mid) k b row.words
    fits_parameter true array =
        let long = is_parameter_row.long array in
        (omega (arith, long), local_long)
    fits_parameter false scalar =
        let one = parameter.1.scalar scalar in
        let wide = gang_wide width lie.gang in
        omega (arith, one, wide, local_long)

    pub parameter_fits : FitsParameter width (regions_in history width mid) k (is_array_of (slice_get (own_of (variables_of compiled) entry) k)) row.words
    parameter_fits =
        subst (λ b. FitsParameter width (regions_in history width mid) k b row.words) (sym (ap is_array_of own)) (fits_parameter row.variable.is_array refl)

  row_fits : (v : VarId) → row.variable.id ≡ v → FitsRow (variables_of compiled) width entry (regions_in history width mid) v row.words
  row_fits (File k) id = file_fits k id
  row_fits (Local k) id = parameter_fits k id

  pub input_fits : (input : InputRow) → row.variable.id ≡ input.var → row.words ≡ input.values.items
      → FitsRow (variables_of compiled) width entry (regions_in history width mid) input.var input.values.items
  input_fits input id words =
      subst (FitsRow (variables_of compiled) width entry (regions_in history width mid) input.var) words (row_fits input.var id)

-- ---- the loop

-- what the first so many rows give is shown, and the words lie as before
pub record AreGivenSoFar {T : Type 0} (history : T → History) (width : ℕ) (compiled : CompiledProgram) (entry count : ℕ) (rows : List InputRow) (old mid : MachineWords T) : Type 0 where
  pub shown : (f : Function) (given : List Row) (first : Given) → MayBegin compiled.program entry f given rows → HaveEntryLengths (regions_in history width old) given
      → ShowsGiven (variables_of compiled) width entry (regions_in history width old) given 0 first
      → (so_far : Given) × (with_rows (drop count given) so_far ≡ with_rows given first) × ShowsGiven (variables_of compiled) width entry (regions_in history width mid) given count so_far
  pub within : count ≤ length rows
  pub lie : AreFor history width compiled mid
  pub layout : mid.layout ≡ old.layout
  pub rest : without_words (history mid.store.timeline) ≡ without_words (history old.store.timeline)

module _ {T : Type 0} (history : T → History) (left : T → ℕ) (width : ℕ) (compiled : CompiledProgram) (entry : ℕ) (rows : List InputRow) (old : MachineWords T) (lie : AreFor history width compiled old) where
  pub none_given : AreGivenSoFar history width compiled entry 0 rows old old
  none_given = record { shown = λ f given first may lengths begun. (first, refl, begun); within = omega arith; lie = lie; layout = refl; rest = refl }

  module _ (count : ℕ) (mid : MachineWords T) (so_far : AreGivenSoFar history width compiled entry count rows old mid) where
    lengths_now : (given : List Row) → HaveEntryLengths (regions_in history width old) given → HaveEntryLengths (regions_in history width mid) given
    lengths_now given lengths n = regions_long history left width old mid lie.laid so_far.lie.laid so_far.layout (OfEntry n) ∙ lengths n

    module _ (input : InputRow) (is : slice_get rows count ≡ Some input) where
      pub next_fits : (f : Function) (given : List Row) → MayBegin compiled.program entry f given rows → HaveEntryLengths (regions_in history width old) given
          → FitsRow (variables_of compiled) width entry (regions_in history width mid) input.var input.values.items
      next_fits f given may lengths =
          let (row, is_row, id, words) = row_beside given rows may.rows_are count input is in
          input_fits history width compiled entry mid so_far.lie f given rows may (lengths_now given lengths) count row is_row input id words

      pub one_given : (new : MachineWords T) → AreChanged history width (GivesRow (variables_of compiled) width entry input.var input.values.items) mid new
          → AreGivenSoFar history width compiled entry (count + 1) rows old new
      one_given new changed = subst (λ n. AreGivenSoFar history width compiled entry n rows old new) (let next : suc count ≡ count + 1 = omega arith in next) (record {
        shown = λ f given first may lengths begun.
            let (so_far_given, same, shows) = so_far.shown f given first may lengths begun in
            let (row, is_row, id, words) = row_beside given rows may.rows_are count input is in
            let variables = variables_of compiled in
            let before = regions_in history width mid in
            let after = regions_in history width new in
            let now_lengths = lengths_now given lengths in
            let wide = gang_wide width lie.gang in
            let gives : GivesRow variables width entry row.variable.id row.words before after =
            subst (λ v. GivesRow variables width entry v row.words before after) (sym id) (subst (λ ws. GivesRow variables width entry input.var ws before after) (sym words) changed.change) in (
              with_row row.variable.id row so_far_given,
              sym (ap (λ rs. with_rows rs so_far_given) (behind given count row is_row)) ∙ same,
              row_given variables width entry (omega (arith, wide)) given count before after so_far_given shows row is_row
                  (file_fits history width compiled entry mid so_far.lie f given rows may now_lengths count row is_row)
                  (is_parameter_row history width compiled entry mid so_far.lie f given rows may now_lengths count row is_row) gives,
            );
        within = slice_get_within rows count input is;
        lie = lie_kept history left width compiled mid so_far.lie new changed.layout changed.laid changed.rest;
        layout = changed.layout ∙ so_far.layout;
        rest = changed.rest ∙ so_far.rest;
      })

    rows_long : (given : List Row) (all : List InputRow) → AreRows given all → length given ≡ length all
    rows_long [] [] are = refl
    rows_long [] (x ∷ all) are = absurd (cc are)
    rows_long (y ∷ given) [] are = absurd (cc are)
    rows_long (y ∷ given) (x ∷ all) are = let more = rows_long given all (let rest : map numbered given ≡ map row_view all = cc are in rest) in omega (arith, more)

    pub all_given : length rows ≤ count → GivesRows history width compiled entry rows old mid
    all_given past = record {
      shown = λ f given first may lengths begun.
          let (so_far_given, same, shows) = so_far.shown f given first may lengths begun in
          let long = rows_long given rows may.rows_are in
          let over : count ≡ length given = omega (arith, past, so_far.within, long) in
          let done : with_rows given first ≡ so_far_given = sym same ∙ ap (λ rs. with_rows rs so_far_given) (drop_all count given (omega (arith, over))) in
          subst (λ g. ShowsGiven (variables_of compiled) width entry (regions_in history width mid) given (length given) g) (sym done)
          (subst (λ n. ShowsGiven (variables_of compiled) width entry (regions_in history width mid) given n so_far_given) over shows);
      lie = so_far.lie;
      layout = so_far.layout;
      rest = so_far.rest;
    }
