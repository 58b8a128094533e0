-- Variables of the file whose words are as they were show what they showed.
use Rattle.std.proofs.Common.{◌≡◌, refl, sym, ap, subst, ◌∙◌, ℕ, suc, ◌+◌, ◌-◌, ◌<◌, ◌≤◌, arith, List, [], ◌∷◌, ◌++◌, length, get_or, drop, take, All, Option, Some, None}
use Rattle.std.specs.Prelude.{nat_lt, slice_get, if◌then◌else◌}
use Rattle.std.proofs.lemmas.Bool.{ltb-true}
use Rattle.std.proofs.lemmas.List.{ext_get_or}
use Rattle.std.proofs.lemmas.List.Elements.{All-head}
use Rattle.std.proofs.lemmas.Option.{get_or_from_slice_get, none-some, slice_get-get_or, slice_get_within}
use Rattle.undo_log.specs.History.{History, Moment, AreKeptBetween, HasSetNone, SameBetween}
use Rattle.gang_types.specs.declared.places.VarId.TheVariants.{File}
use Rattle.gang_model.specs.Types.Tree.{Variable}
use Rattle.gang_model.specs.Running.State.{State, view_of as array_of, words_in, words_of}
use Rattle.gang_model.specs.Debugger.Events.{Event}
use Rattle.gang_model.specs.Debugger.Debugger.{Debugger, Setting, elements, now, shown_words, taken_back}
use Rattle.debug_traits.specs.Machines.{ShowsFileAsBefore}
use Rattle.typed_tree.specs.declared.program.Program.{Program}
use Rattle.typed_tree.specs.Views.{program_view}
use Rattle.mask_states.specs.Masked.{Masked}
use Rattle.codegen.specs.Programs.{IsRunnable}
use Rattle.machine_states.specs.Regions.{OfFile}
use Rattle.gang_memory.specs.declared.parts.Part.{Part}
use Rattle.gang_memory.specs.declared.layout.Layout.{Layout}
use Rattle.gang_memory.specs.Layouts.{ranges, ranges_of_frames}
use Rattle.gang_memory.specs.Ranges.{AreInOrder}
use Rattle.machine_words.specs.Ranges.{IsLaid, IsPlanned, range_of, regions_of, words_at}
use Rattle.machine_words.proofs.Found.{file_found, there}
use Rattle.machine_words.proofs.InOrder.{lies_between}
use Rattle.machine_words.proofs.RangeWords.{length-words_in, word_in, words_in as words_of_part}
use Rattle.machine_words.specs.declared.words.MachineWords.{MachineWords}
use Rattle.frame_steps.specs.declared.compiled.CompiledProgram.{CompiledProgram}
use Rattle.gang_machine.specs.FileWords.{LieBefore}
use Rattle.gang_machine.specs.Machines.{IsMachine, IsSoundMoment}
use Rattle.gang_machine.specs.Standings.{AreKept, SeenStands, ShowsWords, masked_at, view_of}
use Rattle.gang_machine.proofs.Agreeing.{shown_are}
use Rattle.gang_machine.proofs.Seeing.{file_here, file_same}

-- ---- the end of the file's words

-- ranges in order lie before the end of the last one
front_in_order : (from to : ℕ) (parts others : List Part) (last : Part) → AreInOrder from (parts ++ others) to → slice_get parts (length parts - 1) ≡ Some last → AreInOrder from parts (last.first + last.len)
front_in_order from to [] others last order e = absurd (none-some last e)
front_in_order from to (x ∷ []) others last order e = let same : x ≡ last = cc e in subst (λ (p : Part). AreInOrder from (x ∷ []) (p.first + p.len)) same (order.0, omega arith)
front_in_order from to (x ∷ y ∷ parts) others last order e = (order.0, front_in_order (x.first + x.len) to (y ∷ parts) others last order.1 (last_on e))
  where
    last_on : slice_get (x ∷ y ∷ parts) (length (x ∷ y ∷ parts) - 1) ≡ Some last → slice_get (y ∷ parts) (length (y ∷ parts) - 1) ≡ Some last
    last_on h =
        let next : length (x ∷ y ∷ parts) - 1 ≡ suc (length (y ∷ parts) - 1) = omega arith in
        sym (ap (slice_get (x ∷ y ∷ parts)) next) ∙ h

lies_in : (parts : List Part) (end : ℕ) → ((i : ℕ) (p : Part) → slice_get parts i ≡ Some p → p.first + p.len ≤ end) → LieBefore end parts
lies_in parts end each i d below = each i (get_or parts i d) (slice_get-get_or parts i d below)

module _ (width : ℕ) (layout : Layout) (planned : IsPlanned width layout) where
  abbrev others : List Part
  others = layout.entry.items ++ (layout.machine.items ++ ranges_of_frames width layout.frames)

  pub lie_before : (last : Part) → slice_get layout.file.items (length layout.file.items - 1) ≡ Some last → LieBefore (last.first + last.len) layout.file.items
  lie_before last e =
      let order = front_in_order 0 layout.words layout.file.items others last planned.order e in
      lies_in layout.file.items (last.first + last.len) (λ i p at. (lies_between 0 (last.first + last.len) layout.file.items i p order at).1)

  -- a range of the file is one of all ranges
  file_range : (k : ℕ) (p : Part) → range_of width layout (OfFile k) ≡ Some p → (slice_get layout.file.items k ≡ Some p) × (p.first + p.len ≤ layout.words)
  file_range k p e =
      let (inside, found) = there (nat_lt k (length layout.file.items)) (slice_get (ranges width layout) k) p e in
      let here = slice_get-get_or layout.file.items k p (ltb-true k (length layout.file.items) inside) in
      (here ∙ sym (file_found width layout (get_or layout.file.items k p) k here) ∙ e, (lies_between 0 layout.words (ranges width layout) k p planned.order found).1)

  pub last_within : (last : Part) → slice_get layout.file.items (length layout.file.items - 1) ≡ Some last → last.first + last.len ≤ layout.words
  last_within last e = (file_range (length layout.file.items - 1) last (file_found width layout last (length layout.file.items - 1) e)).1

-- ---- words of the file that are as they were

module _ (width : ℕ) (layout : Layout) (end : ℕ) (before : LieBefore end layout.file.items) (old new : List ℕ) (old_laid : IsLaid width layout old) (new_laid : IsLaid width layout new)
    (same : SameBetween 0 end old new) where
  part_same : (p : Part) → p.first + p.len ≤ end → p.first + p.len ≤ layout.words → words_of_part p new ≡ words_of_part p old
  part_same p ends within =
      let long = length-words_in p new (omega (arith, within, new_laid.long)) in
      ext_get_or 0 (words_of_part p new) (words_of_part p old) (long ∙ sym (length-words_in p old (omega (arith, within, old_laid.long))))
      (λ i h.
      let inside : i < p.len = omega (arith, h, long) in
      word_in p new i inside ∙ same (p.first + i) (omega arith) (omega (arith, ends, inside)) ∙ sym (word_in p old i inside))

  range_same : (o : Option Part) → ((p : Part) → o ≡ Some p → (p.first + p.len ≤ end) × (p.first + p.len ≤ layout.words)) → words_at o new ≡ words_at o old
  range_same None each = refl
  range_same (Some p) each = part_same p (each p refl).0 (each p refl).1

  pub region_same : (k : ℕ) → regions_of width layout new (OfFile k) ≡ regions_of width layout old (OfFile k)
  region_same k =
      range_same (range_of width layout (OfFile k))
      (λ p e.
      let (is, within) = file_range width layout new_laid.planned k p e in
      (file_ends k p is, within))
    where
      file_ends : (k : ℕ) (p : Part) → slice_get layout.file.items k ≡ Some p → p.first + p.len ≤ end
      file_ends k p is = subst (λ (q : Part). q.first + q.len ≤ end) (get_or_from_slice_get layout.file.items k p p is) (before k p (slice_get_within layout.file.items k p is))

  -- a variable of the file shows the same in masked states that the words show
  pub file_shown : (program : Program) (masked_old masked_new : Masked) → ShowsWords width program layout old masked_old → ShowsWords width program layout new masked_new
      → (v : Variable) (k : ℕ) → v.id ≡ File k → shown_words masked_new.state v ≡ shown_words masked_old.state v
  file_shown program masked_old masked_new shows_old shows_new v k is =
      shown_by masked_new.state ∙ ap shown (shows_new.shows.memory (File k) ∙ region_same k ∙ sym (shows_old.shows.memory (File k))) ∙ sym (shown_by masked_old.state)
    where
      shown : List ℕ → List ℕ
      shown words = if v.is_array then take (length words) (drop 0 words) else words

      shown_by : (state : State) → shown_words state v ≡ shown (words_of state.memory (File k))
      shown_by state = ap (λ id. if v.is_array then elements (array_of state id) state else words_in state id) is

-- ---- where a machine stands

module _ {T : Type 0} (history : T → History) (w entry : ℕ) (compiled : CompiledProgram) (lines : List ℕ) (words : MachineWords T) (is_machine : IsMachine history w compiled words) (s : Setting) (d : Debugger)
    (stands : SeenStands (view_of w entry compiled.program lines words.layout (history words.store.timeline)) s d) where
  abbrev h : History
  h = history words.store.timeline

  abbrev runnable : IsRunnable compiled.program
  runnable = is_machine.lie.compiled_is.runnable

  module _ (end : ℕ) (before : LieBefore end words.layout.file.items) (v : Variable) (k : ℕ) (id : v.id ≡ File k) where
    -- the newest event that is kept, and what the words before it show
    shown_since : (past : List Moment) → h.past ≡ past → (events : List Event) → d.events ≡ events → AreKeptBetween 0 end h.words past
        → AreKept w entry compiled.program words.layout stands.rows events past → All (IsSoundMoment w compiled words.layout) past → shown_words (now s d) v ≡ shown_words (now s (taken_back d)) v
    shown_since [] is events are none kept sound = absurd none
    shown_since (m ∷ past) is [] are none kept sound = absurd kept
    shown_since (m ∷ past) is (event ∷ events) are none kept sound =
        let p = compiled.program in
        let keeps : d.kept ≡ suc (length past) = stands.kept ∙ ap length is in
        let was : History = record { words = m.before; past = past; limit = h.limit; room = h.room } in
        let stood : SeenStands (view_of w entry p lines words.layout was) s (taken_back d) = record {
          program = stands.program;
          rows = stands.rows;
          first = stands.first;
          lines = stands.lines;
          words = rw are kept.1;
          past = rw are kept.2;
          kept = omega (arith, keeps);
          limit = stands.limit;
        } in
        let old = masked_at w entry (program_view p) stands.rows (taken_back d).events in
        let new = masked_at w entry (program_view p) stands.rows d.events in
        let laid = (All-head (IsSoundMoment w compiled words.layout) m past sound).laid in
        shown_are w entry p lines words.layout h runnable.lowerable s d stands v
        ∙ file_shown w words.layout end before m.before h.words laid is_machine.lie.laid none p old new stood.words stands.words v k id
        ∙ sym (shown_are w entry p lines words.layout was runnable.lowerable s (taken_back d) stood v)

  pub shows_as_before : (end : ℕ) → LieBefore end words.layout.file.items → HasSetNone 0 end h → ShowsFileAsBefore s d
  shows_as_before end before none v (k, e) =
      let file = file_here history w entry compiled lines words is_machine s d stands ∙ file_same compiled.program.globals.items in
      let id = runnable.well_scoped.file k v (ap (λ vs. slice_get vs k) (sym file) ∙ e) in
      shown_since end before v k id h.past refl d.events refl none stands.past is_machine.past
