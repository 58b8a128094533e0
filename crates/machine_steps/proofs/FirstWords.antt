-- The first words of a run: those of the file's variables, one after the other.
use Rattle.std.proofs.Common.{◌≡◌, refl, sym, ap, ◌∙◌, subst, ℕ, zero, suc, ◌+◌, ◌<◌, ◌≤◌, cond, List, [], ◌∷◌, length, Option, Some, None, inl, inr, zero-add, arith}
use Rattle.std.specs.Prelude.{map, option_map, slice_get}
use Rattle.std.proofs.lemmas.Bool.{cases_lt, ne_eqb}
use Rattle.std.proofs.lemmas.List.{length-map}
use Rattle.std.proofs.lemmas.Option.{none-some, same_Some, slice_get-map}
use Rattle.gang_types.specs.declared.places.VarId.TheVariants.{File, Local}
use Rattle.gang_types.specs.MaskLaws.{gang_width-le}
use Rattle.gang_model.specs.Types.Tree.{Function}
use Rattle.gang_model.specs.Types.Tree as model
use Rattle.gang_model.specs.Running.State.{same_id, words_of}
use Rattle.gang_model.specs.Debugger.Events.{global_words, initial_memory}
use Rattle.undo_log.specs.History.{History}
use Rattle.typed_tree.specs.declared.program.Global.{Global}
use Rattle.typed_tree.specs.Views.{global_view, variable_view}
use Rattle.gang_memory.specs.declared.layout.Layout.{Layout}
use Rattle.gang_memory.specs.declared.parts.Part.{Part}
use Rattle.gang_memory.specs.Layouts.{IsLayoutOf, global_words as layout_words}
use Rattle.gang_memory.specs.Ranges.{sizes_of}
use Rattle.gang_memory.specs.Recorded.{without_words}
use Rattle.machine_states.specs.Nesting.{most_levels}
use Rattle.machine_states.specs.Regions.{OfFile}
use Rattle.machine_states.proofs.StoreWords.{another, itself}
use Rattle.machine_states.proofs.Elements.{get_mapped, item_at}
use Rattle.machine_words.specs.declared.words.MachineWords.{MachineWords}
use Rattle.machine_words.proofs.Sizes.{file_words}
use Rattle.machine_words.specs.Ranges.{head_sizes, machine_sizes}
use Rattle.machine_words.specs.Words.{AreLaid, left_of, regions_in, words_of as all_words}
use Rattle.frame_steps.specs.declared.compiled.CompiledProgram.{CompiledProgram}
use Rattle.frame_steps.specs.Compiled.{program_of, variables_of}
use Rattle.frame_steps.specs.Standing.{AreFor}
use Rattle.frame_steps.proofs.RegionStates.{no_file_words}
use Rattle.machine_steps.specs.Beginning.{FillsFile, FillsVariable}
use Rattle.machine_steps.proofs.FilledVariables.{plenty_left}

same_variables : (o : Option Global) → option_map (λ (h : Global). variable_view h.variable) o ≡ option_map (λ (u : model.Global). u.variable) (option_map global_view o)
same_variables None = refl
same_variables (Some h) = refl

same_file : (m n : ℕ) → File m ≡ File n → m ≡ n
same_file m n e = cc

-- ---- the memory of a run

module _ (w : ℕ) where
  -- the variables from a number on
  abbrev pub AreNumbered : (first : ℕ) → List model.Global → Type 0
  AreNumbered first globals = (k : ℕ) (g : model.Global) → slice_get globals k ≡ Some g → g.variable.id ≡ File (first + k)

  numbered_behind : (first : ℕ) (g : model.Global) (globals : List model.Global) → AreNumbered first (g ∷ globals) → AreNumbered (suc first) globals
  numbered_behind first g globals ids k h e = ids (suc k) h e ∙ ap File (let next : first + suc k ≡ suc first + k = omega arith in next)

  behind_first : (first : ℕ) (g : model.Global) (globals : List model.Global) → AreNumbered first (g ∷ globals) → (k : ℕ)
      → words_of (initial_memory w (g ∷ globals)) (File (first + suc k)) ≡ words_of (initial_memory w globals) (File (suc first + k))
  behind_first first g globals ids k =
      let next : first + suc k ≡ suc first + k = omega arith in
      ap (λ b. cond b (global_words w g) (words_of (initial_memory w globals) (File (first + suc k))))
      (ap (λ v. same_id v (File (first + suc k))) (ids 0 g refl) ∙ another (File (first + 0)) (File (first + suc k)) (λ e. omega (arith, same_file (first + 0) (first + suc k) e)))
      ∙ ap (λ n. words_of (initial_memory w globals) (File n)) next

  pub initial_at : (first : ℕ) (globals : List model.Global) → AreNumbered first globals
      → (k : ℕ) (g : model.Global) → slice_get globals k ≡ Some g → words_of (initial_memory w globals) (File (first + k)) ≡ global_words w g
  initial_at first [] ids k g is = absurd (none-some g is)
  initial_at first (h ∷ globals) ids zero g is =
      ap (λ b. cond b (global_words w h) (words_of (initial_memory w globals) (File (first + 0)))) (ap (λ v. same_id v (File (first + 0))) (ids 0 h refl) ∙ itself (File (first + 0)))
      ∙ ap (global_words w) (same_Some h g is)
  initial_at first (h ∷ globals) ids (suc k) g is = behind_first first h globals ids k ∙ initial_at (suc first) globals (numbered_behind first h globals ids) k g is

  -- it has no arrays of the entry
  pub initial_entry : (first : ℕ) (globals : List model.Global) → AreNumbered first globals → (n : ℕ) → words_of (initial_memory w globals) (Local n) ≡ []
  initial_entry first [] ids n = refl
  initial_entry first (h ∷ globals) ids n =
      ap (λ v. cond (same_id v (Local n)) (global_words w h) (words_of (initial_memory w globals) (Local n))) (ids 0 h refl)
      ∙ initial_entry (suc first) globals (numbered_behind first h globals ids) n

  pub initial_past : (first : ℕ) (globals : List model.Global) → AreNumbered first globals → (k : ℕ) → length globals ≤ k → words_of (initial_memory w globals) (File (first + k)) ≡ []
  initial_past first [] ids k above = refl
  initial_past first (h ∷ globals) ids zero above = absurd (omega (arith, above))
  initial_past first (h ∷ globals) ids (suc k) above =
      behind_first first h globals ids k ∙ initial_past (suc first) globals (numbered_behind first h globals ids) k (omega (arith, above))

-- ---- the loop

-- the first so many variables of the file have their words, and the words lie as before
pub record AreFilled {T : Type 0} (history : T → History) (width count : ℕ) (globals : List Global) (old new : MachineWords T) : Type 0 where
  pub file : (k : ℕ) (g : Global) → k < count → slice_get globals k ≡ Some g → regions_in history width new (OfFile k) ≡ global_words width (global_view g)
  pub layout : new.layout ≡ old.layout
  pub laid : AreLaid history width new
  pub rest : without_words (history new.store.timeline) ≡ without_words (history old.store.timeline)

-- a variable of the file has as many words as the layout says
pub file_long : {T : Type 0} (history : T → History) (width : ℕ) (compiled : CompiledProgram) (words : MachineWords T) → AreFor history width compiled words
    → (k : ℕ) (g : Global) → slice_get compiled.program.globals.items k ≡ Some g → length (regions_in history width words (OfFile k)) ≡ layout_words width g
file_long history width compiled words lie k g is =
    let mine : slice_get (sizes_of words.layout.file.items) k ≡ Some (layout_words width g) =
    ap (λ sizes. slice_get sizes k) lie.layout.file ∙ slice_get-map (layout_words width) compiled.program.globals.items k ∙ ap (option_map (layout_words width)) is in
    let found = get_mapped (λ (p : Part). p.len) words.layout.file.items k (layout_words width g) mine in
    file_words width words.layout (all_words history words) lie.laid k found.0 found.1 ∙ found.2

module _ {T : Type 0} (history : T → History) (left : T → ℕ) (width : ℕ) (compiled : CompiledProgram) (old : MachineWords T) (lie : AreFor history width compiled old) where
  abbrev globals : List Global
  globals = compiled.program.globals.items

  -- the words lie as before
  pub lie_kept : (new : MachineWords T) → new.layout ≡ old.layout → AreLaid history width new → without_words (history new.store.timeline) ≡ without_words (history old.store.timeline)
      → AreFor history width compiled new
  lie_kept new layout laid rest = record {
    gang = lie.gang;
    compiled_is = lie.compiled_is;
    lengths = lie.lengths;
    layout = subst (λ l. IsLayoutOf width compiled.program lie.lengths machine_sizes (head_sizes width (most_levels (program_of compiled))) l) (sym layout) lie.layout;
    laid = laid;
    room = omega (arith, lie.room, ap (λ h. h.room) rest);
  }

  pub none_filled : AreFilled history width 0 globals old old
  none_filled = record {
    file = λ k g below e. absurd (omega (arith, below));
    layout = refl;
    laid = lie.laid;
    rest = refl;
  }

  -- any number of words may be set
  module _ (fresh : (history old.store.timeline).past ≡ []) (mid : MachineWords T) (rest : without_words (history mid.store.timeline) ≡ without_words (history old.store.timeline)) where
    pub still_fresh : (history mid.store.timeline).past ≡ []
    still_fresh = ap (λ h. h.past) rest ∙ fresh

    pub width_left : width + 5 ≤ left_of history left mid
    width_left =
        let plenty = plenty_left history left old mid fresh rest in
        omega (arith, gang_width-le width lie.gang, plenty)

  module _ (count : ℕ) (mid : MachineWords T) (filled : AreFilled history width count globals old mid) where
    module _ (g : Global) (is : slice_get globals count ≡ Some g) where
      pub next_file : length (regions_in history width mid (OfFile count)) ≡ layout_words width g
      next_file = file_long history width compiled mid (lie_kept mid filled.layout filled.laid filled.rest) count g is

      pub one_filled : (new : MachineWords T) → FillsVariable history width count (global_words width (global_view g)) mid new → AreFilled history width (count + 1) globals old new
      one_filled new fills = record {
        file = λ k h below e. elim (cases_lt k count) [
          | inl before ↦ fills.others (OfFile k) (ne_eqb count k (λ q. omega (arith, q, before))) ∙ filled.file k h before e
          | inr past ↦
              let same : k ≡ count = omega (arith, below, past) in
              let this : g ≡ h = same_Some g h (sym is ∙ sym (ap (slice_get globals) same) ∙ e) in
              ap (λ j. regions_in history width new (OfFile j)) same ∙ fills.filled ∙ ap (λ (f : Global). global_words width (global_view f)) this
        ];
        layout = fills.layout ∙ filled.layout;
        laid = fills.laid;
        rest = fills.rest ∙ filled.rest;
      }

  -- ---- all variables of the file

  -- a region of no variable of the file has no words
  no_file : (new : MachineWords T) → new.layout ≡ old.layout → (k : ℕ) → length globals ≤ k → regions_in history width new (OfFile k) ≡ []
  no_file new same k above =
      let files : length old.layout.file.items ≡ length globals =
      sym (length-map old.layout.file.items (λ p. p.len)) ∙ ap length lie.layout.file ∙ length-map globals (layout_words width) in
      no_file_words history width new 0 k (omega (arith, above, files, ap (λ (l : Layout). length l.file.items) same))

  -- the variables of the file have their numbers
  file_ids : (k : ℕ) (g : model.Global) → slice_get (map global_view globals) k ≡ Some g → g.variable.id ≡ File (0 + k)
  file_ids k g e =
      let variable : slice_get (variables_of compiled).file k ≡ Some g.variable =
      slice_get-map (λ (h : Global). variable_view h.variable) globals k ∙ same_variables (slice_get globals k)
      ∙ ap (option_map (λ (u : model.Global). u.variable)) (sym (slice_get-map global_view globals k) ∙ e) in
      lie.compiled_is.runnable.well_scoped.file k g.variable variable ∙ ap File (sym (zero-add k))

  -- no array of the entry is in the memory yet
  pub first_entry : (n : ℕ) → words_of (initial_memory width (program_of compiled).globals) (Local n) ≡ []
  first_entry = initial_entry width 0 (map global_view globals) file_ids

  module _ (count : ℕ) (mid : MachineWords T) (filled : AreFilled history width count globals old mid) (over : length globals ≤ count) where
    first_file : (k : ℕ) → regions_in history width mid (OfFile k) ≡ words_of (initial_memory width (program_of compiled).globals) (File k)
    first_file k =
        let views = map global_view globals in
        let names = ap (λ n. words_of (initial_memory width views) (File n)) (zero-add k) in
        elim (cases_lt k (length globals)) [
          | inl below ↦
              let there = item_at globals k below in
              let g = there.0 in
              let is_view : slice_get views k ≡ Some (global_view g) = slice_get-map global_view globals k ∙ ap (option_map global_view) there.1 in
              filled.file k g (omega (arith, below, over)) there.1 ∙ sym (initial_at width 0 views file_ids k (global_view g) is_view) ∙ names
          | inr past ↦
              let above : length views ≤ k = omega (arith, past, length-map globals global_view) in
              no_file mid filled.layout k past ∙ sym (initial_past width 0 views file_ids k above) ∙ names
        ]

    pub file_filled : FillsFile history width compiled old mid
    file_filled = record {
      file = first_file;
      lie = lie_kept mid filled.layout filled.laid filled.rest;
      layout = filled.layout;
      rest = filled.rest;
    }
