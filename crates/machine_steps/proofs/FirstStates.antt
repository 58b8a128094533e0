-- The first state of a run: the first words of the file, those of the rows, and the entry's frame.
use Rattle.std.proofs.Common.{◌≡◌, refl, sym, ap, ◌∙◌, subst, ℕ, ◌<◌, true, true≢false, List, [], ◌∷◌, length, inr, Some, arith}
use Rattle.std.specs.Prelude.{replicate, slice_get}
use Rattle.std.proofs.lemmas.Option.{same_Some, slice_get_within}
use Rattle.gang_types.specs.Lanes.{Lanes}
use Rattle.gang_types.specs.declared.places.VarId.TheVariants.{File, Local}
use Rattle.gang_model.specs.Debugger.Events.{Given, Row, with_rows}
use Rattle.gang_model.specs.Running.State.{words_of}
use Rattle.gang_model.specs.Texts.InputText as text
use Rattle.gang_model.specs.Types.Tree.{Function, Variable}
use Rattle.undo_log.specs.History.{History}
use Rattle.gang_memory.specs.Recorded.{without_words}
use Rattle.input_rows.specs.declared.row.InputRow.{InputRow}
use Rattle.input_rows.proofs.EntryLengths.{length_none}
use Rattle.mask_states.specs.Masked.{entered_body}
use Rattle.mask_states.specs.MaskedStep.{masked_start}
use Rattle.machine_states.specs.ArrayParts.{AreMemory}
use Rattle.machine_states.specs.Declared.{HasAll, scalar_parameters}
use Rattle.machine_states.specs.GivenRows.{HasNoArrayRow, ShowsGiven}
use Rattle.machine_states.specs.Regions.{OfEntry, Regions}
use Rattle.machine_states.specs.Shows.{IsScalarIn}
use Rattle.machine_states.specs.Steps.{IsBegun}
use Rattle.machine_states.specs.Variables.{Variables, is_array_of, own_of, parameters_of, rate_of}
use Rattle.machine_states.proofs.AlwaysDeclared.{start_declared}
use Rattle.machine_states.proofs.ArrayViews.{view_same}
use Rattle.machine_states.proofs.Beginnings.{begins, nothing_given}
use Rattle.machine_states.proofs.ChangedRegions.{HaveSameLengths}
use Rattle.machine_states.proofs.DeclaredRows.{rows_declare}
use Rattle.machine_states.proofs.GivenRows.{given_memory, given_views}
use Rattle.machine_states.proofs.StoreEntries.{among_scalars}
use Rattle.machine_states.proofs.Elements.{item_at}
use Rattle.codegen.specs.Programs.{IsRunnable}
use Rattle.machine_words.specs.declared.words.MachineWords.{MachineWords}
use Rattle.machine_words.specs.Words.{regions_in}
use Rattle.frame_steps.specs.declared.compiled.CompiledProgram.{CompiledProgram}
use Rattle.frame_steps.specs.Compiled.{program_of, variables_of}
use Rattle.frame_steps.specs.Standing.{AreFor, IsShown}
use Rattle.frame_steps.proofs.GangLanes.{gang_wide}
use Rattle.machine_steps.specs.Beginning.{FillsFile, GivesRows, HaveEntryLengths, MayBegin}
use Rattle.machine_steps.specs.Calls.{BeginsFrame}
use Rattle.machine_steps.proofs.FirstWords.{first_entry, lie_kept}
use Rattle.machine_steps.proofs.OwnParameters.{array_there}
use Rattle.machine_steps.proofs.RowWords.{regions_long}

-- ---- rows of parameters

module _ (compiled : CompiledProgram) (entry : ℕ) (f : Function) (given : List Row) (rows : List InputRow) (may : MayBegin compiled.program entry f given rows)
    (runnable : IsRunnable compiled.program) where
  -- a parameter is the variable of its number, and has a row
  pub record HasRow (n : ℕ) : Type 0 where
    pub variable : Variable
    pub number : ℕ
    pub row : Row
    pub is_own : slice_get (own_of (variables_of compiled) entry) n ≡ Some variable
    pub is_row : slice_get given number ≡ Some row
    pub row_is : row.variable ≡ variable
    pub id : row.variable.id ≡ Local n

  pub has_row : (n : ℕ) → n < parameters_of (variables_of compiled) entry → HasRow n
  has_row n below =
      let there = item_at (text.parameters_of (Some f)) n (omega (arith, below, may.parameters.count)) in
      let v = there.0 in
      let own = may.parameters.own n v there.1 in
      let (number, row, is_row, row_is) = may.inputs.all n v there.1 in
      record {
        variable = v;
        number = number;
        row = row;
        is_own = own;
        is_row = is_row;
        row_is = row_is;
        id = ap (λ (u : Variable). u.id) row_is ∙ runnable.well_scoped.own entry n v own;
      }

  -- so each scalar parameter is declared
  pub rows_declare_all : (first : Given) → HasAll (scalar_parameters (variables_of compiled) entry) (with_rows given first).passed.vars
  rows_declare_all first k among =
      let (below, scalar) = among_scalars (own_of (variables_of compiled) entry) (parameters_of (variables_of compiled) entry) k among in
      let has = has_row k below in
      rows_declare given first has.number has.row k has.is_row has.id (ap (λ (u : Variable). u.is_array) has.row_is ∙ sym (ap is_array_of has.is_own) ∙ scalar)

  -- and each array parameter has an array's row
  pub rows_give_all : (n : ℕ) → is_array_of (slice_get (own_of (variables_of compiled) entry) n) ≡ true → HasNoArrayRow given (length given) n → ⊥
  rows_give_all n array none =
      let (v, own, is_array) = array_there (slice_get (own_of (variables_of compiled) entry) n) array in
      let has = has_row n (runnable.well_scoped.arrays entry n v own is_array) in
      let same : has.variable ≡ v = same_Some has.variable v (sym has.is_own ∙ own) in
      let no_array = none has.number has.row (slice_get_within given has.number has.row has.is_row) has.is_row has.id in
      true≢false (sym is_array ∙ ap (λ (u : Variable). u.is_array) (sym same ∙ sym has.row_is) ∙ no_array)

no_words : (words : List ℕ) → length words ≡ 0 → words ≡ []
no_words [] none = refl
no_words (x ∷ words) none = absurd (omega (arith, none))

no_array_words : (regions : Regions) (given : List Row) → HaveEntryLengths regions given → (n : ℕ) → HasNoArrayRow given (length given) n → regions (OfEntry n) ≡ []
no_array_words regions given lengths n none =
    no_words (regions (OfEntry n))
    (lengths n ∙ length_none given n (λ i row is id. none i row (slice_get_within given i row is) is id))

-- ---- the state

module _ {T : Type 0} (history : T → History) (left : T → ℕ) (width : ℕ) (compiled : CompiledProgram) (old filled mid new : MachineWords T) (lie : AreFor history width compiled old) (entry : ℕ) (rows : List InputRow)
    (files : FillsFile history width compiled old filled) (gives : GivesRows history width compiled entry rows filled mid) (f : Function) (lanes : Lanes)
    (begun : BeginsFrame history left width 0 entry f lanes mid new) where
  pub start_rest : without_words (history new.store.timeline) ≡ without_words (history old.store.timeline)
  start_rest = begun.rest ∙ gives.rest ∙ files.rest

  pub start_lie : AreFor history width compiled new
  start_lie = lie_kept history left width compiled mid gives.lie new begun.layout begun.laid begun.rest

  module _ (all : lanes ≡ replicate width true) (given : List Row) (may : MayBegin compiled.program entry f given rows) (lengths : HaveEntryLengths (regions_in history width old) given) where
    abbrev variables : Variables
    variables = variables_of compiled

    abbrev first : Given
    first = nothing_given (program_of compiled) width

    abbrev final : Given
    final = with_rows given first

    abbrev before : Regions
    before = regions_in history width mid

    abbrev after : Regions
    after = regions_in history width new

    filled_lengths : HaveEntryLengths (regions_in history width filled) given
    filled_lengths n = regions_long history left width old filled lie.laid files.lie.laid files.layout (OfEntry n) ∙ lengths n

    mid_lengths : HaveEntryLengths before given
    mid_lengths n = regions_long history left width filled mid files.lie.laid gives.lie.laid gives.layout (OfEntry n) ∙ filled_lengths n

    -- nothing is given before the rows
    first_given : ShowsGiven variables width entry (regions_in history width filled) given 0 first
    first_given = record {
      file = λ n. sym (files.file n);
      arrays = λ n. inr (record {
        no_row = λ i row below e id. absurd (omega (arith, below));
        words = first_entry history left width compiled old lie n;
      });
      scalars = λ n h. absurd (cc h);
    }

    all_shown : ShowsGiven variables width entry before given (length given) final
    all_shown = gives.shown f given first may filled_lengths first_given

    memory : AreMemory after final.memory
    memory (File n) = given_memory variables width entry before given (length given) final all_shown (no_array_words before given mid_lengths) (File n) ∙ sym (begun.kept.file n)
    memory (Local n) = given_memory variables width entry before given (length given) final all_shown (no_array_words before given mid_lengths) (Local n) ∙ sym (begun.kept.entry n)

    same_lengths : HaveSameLengths before after
    same_lengths (File n) = ap length (begun.kept.file n)
    same_lengths (Local n) = ap length (begun.kept.entry n)

    first_begun : IsBegun variables width after 0 entry f (replicate width true) final.passed
    first_begun = record {
      depth = begun.begun.depth;
      function = begun.begun.function;
      lanes_are = begun.begun.lanes_are ∙ all;
      none_returned = begun.begun.none_returned;
      none_open = begun.begun.none_open;
      numbers = begun.begun.numbers ∙ ap (λ l. (entered_body f l).numbers) all;
      result_sized = begun.begun.result_sized;
      declared = λ n h. subst (IsScalarIn width (rate_of (slice_get (own_of variables entry) n)) (words_of final.passed.vars (Local n))) (sym (begun.kept.locals 0 n)) (all_shown.scalars n h).1;
      views = λ n array.
          given_views variables width entry before given (length given) final all_shown (rows_give_all compiled entry f given rows may lie.compiled_is.runnable) n array
          ∙ sym (view_same before after same_lengths 0 n (begun.kept.locals 0 n));
    }

    pub start_shown : IsShown history width compiled new (masked_start (program_of compiled) entry given width)
    start_shown =
        let runnable = lie.compiled_is.runnable in
        let wide = gang_wide width lie.gang in
        record {
          shows = begins (program_of compiled) variables width after entry given f may.is_function first_begun memory;
          declared = start_declared variables runnable.most (program_of compiled) runnable.well_scoped runnable.lowerable.numbered entry width given f may.is_function
              (omega (arith, wide)) (rows_declare_all compiled entry f given rows may runnable first);
        }
