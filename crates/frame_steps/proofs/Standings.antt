-- What follows for each step from how the words of a machine stand.
use Rattle.std.proofs.Common.{ℕ, suc, ◌+◌, ◌-◌, ◌^◌, ◌<◌, ◌≤◌, false, cond, ◌≡◌, refl, sym, ◌∙◌, ap, ap₂, subst, arith, List, [], ◌∷◌, length, map, Option, Some, None}
use Rattle.std.specs.Prelude.{All, Ok, min, option_map, slice_get, slice_index_or}
use Rattle.std.proofs.lemmas.List.{length-map}
use Rattle.std.proofs.lemmas.Option.{get_or_from_slice_get, none-some, slice_get-map, slice_get_within}
use Rattle.gang_types.specs.declared.masks.Mask.{Mask}
use Rattle.gang_types.specs.Lanes.{no_lane}
use Rattle.gang_types.specs.Masks.{lanes_of}
use Rattle.gang_types.specs.MaskLaws.{gang_width-le, length-lanes_of_word}
use Rattle.gang_model.specs.Types.Tree.{Variable, Function, Program}
use Rattle.gang_model.specs.Running.State.{words_for}
use Rattle.undo_log.specs.History.{History, Moment, marked}
use Rattle.undo_log.specs.declared.timeline.Undone.{Undone}
use Rattle.undo_log.specs.declared.timeline.Undone.TheVariants as undone
use Rattle.typed_tree.specs.declared.program.Function.{Function as TypedFunction}
use Rattle.typed_tree.specs.declared.program.Global.{Global as FileVariable}
use Rattle.typed_tree.specs.Views.{variable_view}
use Rattle.gang_memory.specs.declared.parts.Part.{Part}
use Rattle.gang_memory.specs.Layouts.{IsLayoutOf, global_words}
use Rattle.gang_memory.specs.Recorded.{left_in, without_words}
use Rattle.mask_states.specs.Points.{Point}
use Rattle.mask_states.specs.Masked.{Masked}
use Rattle.mask_states.specs.MaskedStep.{Goes, masked_step}
use Rattle.mask_states.proofs.LaneNumbers.{length-waiting_for}
use Rattle.machine_states.specs.Cells.{cells_of, words_left, words_set}
use Rattle.machine_states.specs.Variables.{Variables, or_none, own_of}
use Rattle.machine_states.specs.Nesting.{most_levels}
use Rattle.machine_states.specs.Regions.{Head, LevelOf, NumbersOf, OfFile, OfLevel, Depth, OfHead, OfLocal, Region, Regions, same_region, with_region}
use Rattle.machine_states.specs.Shows.{AreSized}
use Rattle.machine_states.specs.Steps.{GoesTo}
use Rattle.machine_states.proofs.AwaitedLevels.{IsNoTurn}
use Rattle.machine_states.proofs.Cells.{cells_enough, cells_few, leaving_enough}
use Rattle.machine_states.proofs.DeclaredSteps.{step_declared}
use Rattle.machine_states.proofs.Elements.{get_mapped}
use Rattle.machine_states.proofs.LeaveSteps.{shows_alike}
use Rattle.machine_states.proofs.NextPoints.{same_word}
use Rattle.machine_states.proofs.TopFrame.{length-waiting, some_waiting}
use Rattle.codegen.specs.Programs.{own_variables}
use Rattle.machine_words.specs.declared.words.MachineWords.{MachineWords}
use Rattle.machine_words.specs.Ranges.{head_sizes, machine_sizes, regions_of, head_size, levels_of}
use Rattle.machine_words.specs.Words.{AreLaid, Writes, left_of, regions_in, words_of}
use Rattle.machine_words.specs.Ranges.{IsLaid}
use Rattle.machine_words.proofs.Sizes.{depth_words, file_words, head_words, local_words}
use Rattle.frame_steps.specs.declared.active.Active.{Active}
use Rattle.frame_steps.specs.declared.compiled.CompiledProgram.{CompiledProgram}
use Rattle.frame_steps.specs.Compiled.{program_of, variables_of}
use Rattle.frame_steps.specs.Standing.{AreFor, AreSound, Begins, EndsAs, IsActive, IsShown, Records, event_room}
use Rattle.frame_steps.specs.Written.{Sets}

-- ---- how many words an event sets

module _ {T : Type 0} (history : T → History) (width : ℕ) (compiled : CompiledProgram) (old : MachineWords T) (lie : AreFor history width compiled old) where
  cells_within : cells_of width (program_of compiled) ≤ event_room history old
  cells_within =
      let small = gang_width-le width lie.gang in
      let few = cells_few width (variables_of compiled) lie.compiled_is.runnable.most (program_of compiled) lie.compiled_is.runnable.well_scoped in
      omega (arith, small, few, lie.room)

  -- leaving a frame sets no more than there is room for
  pub leaving_within : words_left width ≤ event_room history old
  leaving_within = omega (arith, cells_within, leaving_enough width (program_of compiled))

  -- nor does the next step
  pub step_within : (active : Active) (f : Function) (point : Point) → IsActive width compiled (regions_in history width old) active f (Some point) → words_set width point ≤ event_room history old
  step_within active f point at =
      let enough = cells_enough width (program_of compiled) active.function f at.next.is_function active.step point at.next.is_point in
      omega (arith, cells_within, enough)

-- ---- events

-- after a mark as many words may be set as there is room for, if a word counts them
pub left_after : (past : List Moment) (left room : ℕ) → left ≡ room → min room (2 ^ 64 - 1) ≤ left_in past left
left_after [] left room e = omega arith
left_after (m ∷ past) left room e = omega arith

-- An event is open, and at most so many words were set in it, so that the regions are these.
pub record IsUnderWay {T : Type 0} (history : T → History) (left : T → ℕ) (width : ℕ) (event : Undone) (regions : Regions) (writes : ℕ) (old new : MachineWords T) : Type 0 where
  pub regions_are : (r : Region) → regions_in history width new r ≡ regions r
  pub layout : new.layout ≡ old.layout
  pub laid : AreLaid history width new
  pub recorded : without_words (history new.store.timeline) ≡ without_words (marked event (history old.store.timeline))
  pub left_is : event_room history old ≤ left_of history left new + writes

-- it was opened
module _ {T : Type 0} (history : T → History) (left : T → ℕ) (width : ℕ) (compiled : CompiledProgram) (event : Undone) (old new : MachineWords T)
    (lie : AreFor history width compiled old) (begins : Begins history left width event old new) where
  pub begun_laid : AreLaid history width new
  begun_laid =
      subst (λ l. IsLaid width l (words_of history new)) (sym begins.layout)
      (subst (λ ws. IsLaid width old.layout ws) (sym begins.words) lie.laid)

  pub begun_regions : regions_in history width new ≡ regions_in history width old
  begun_regions = ap₂ (λ l ws. regions_of width l ws) begins.layout begins.words

  pub begun : IsUnderWay history left width event (regions_in history width old) 0 old new
  begun = record {
    regions_are = λ r. ap (λ regions. regions r) begun_regions;
    layout = begins.layout;
    laid = begun_laid;
    recorded = begins.recorded;
    left_is = omega (arith, begins.left_is);
  }

module _ {T : Type 0} (history : T → History) (left : T → ℕ) (width : ℕ) (event : Undone) (regions : Regions) (writes : ℕ) (old mid : MachineWords T)
    (so_far : IsUnderWay history left width event regions writes old mid) where
  -- so many words may still be set
  pub may_write : (more : ℕ) → writes + more ≤ event_room history old → more ≤ left_of history left mid
  may_write more h = omega (arith, h, so_far.left_is)

  -- one more region is written, with what is made of its words
  pub wrote : (new : MachineWords T) (region : Region) (make : List ℕ → List ℕ) (more : ℕ) → Writes history left width region (make (regions_in history width mid region)) more mid new
      → IsUnderWay history left width event (with_region region (make (regions region)) regions) (writes + more) old new
  wrote new region make more made = record {
    regions_are = λ r.
        ap (λ l. regions_of width l (words_of history new) r) made.layout ∙ made.changes r
        ∙ ap₂ (λ ws others. cond (same_region region r) ws others) (ap make (so_far.regions_are region)) (so_far.regions_are r);
    layout = made.layout ∙ so_far.layout;
    laid = made.laid;
    recorded = made.rest ∙ so_far.recorded;
    left_is = omega (arith, made.few, so_far.left_is);
  }

  -- more regions are set, said by other regions
  pub set_more : (new : MachineWords T) (set others : Regions) → ((r : Region) → set r ≡ others r) → (more : ℕ) → Sets history left width set more mid new
      → IsUnderWay history left width event others (writes + more) old new
  set_more new set others same more sets = record {
    regions_are = λ r. sets.regions_are r ∙ same r;
    layout = sets.layout ∙ so_far.layout;
    laid = sets.laid;
    recorded = sets.rest ∙ so_far.recorded;
    left_is = omega (arith, sets.few, so_far.left_is);
  }

  -- the same, said by other regions
  pub under_way_alike : (others : Regions) → ((r : Region) → regions r ≡ others r) → IsUnderWay history left width event others writes old mid
  under_way_alike others same = record {
    regions_are = λ r. so_far.regions_are r ∙ same r;
    layout = so_far.layout;
    laid = so_far.laid;
    recorded = so_far.recorded;
    left_is = so_far.left_is;
  }

  pub recorded_so_far : Records history width event old mid
  recorded_so_far = record { recorded = so_far.recorded; layout = so_far.layout; laid = so_far.laid }

-- a step that leaves regions leaves the same regions
pub goes_alike : (p : Program) (variables : Variables) (width : ℕ) (masked : Masked) (old new : Regions) → ((r : Region) → new r ≡ old r) → GoesTo p variables width masked old → GoesTo p variables width masked new
goes_alike p variables width masked old new same goes = (goes.0, goes.1, shows_alike p variables width old new same goes.0 goes.2)

-- a step has ended that leaves such regions
pub ends_well : {T : Type 0} (history : T → History) (left : T → ℕ) (width : ℕ) (compiled : CompiledProgram) (masked : Masked) (regions : Regions) (writes : ℕ) (old new : MachineWords T)
    → IsUnderWay history left width undone.Step regions writes old new → GoesTo (program_of compiled) (variables_of compiled) width masked regions
    → EndsAs history width compiled masked old (Ok tt) new
ends_well history left width compiled masked regions writes old new done goes = (
  goes_alike (program_of compiled) (variables_of compiled) width masked regions (regions_in history width new) done.regions_are goes,
  recorded_so_far history left width undone.Step regions writes old new done,
)

-- ---- states

-- words with the same regions show the same
pub shown_alike : {T : Type 0} (history : T → History) (width : ℕ) (compiled : CompiledProgram) (old new : MachineWords T) (masked : Masked)
    → ((r : Region) → regions_in history width new r ≡ regions_in history width old r) → IsShown history width compiled old masked → IsShown history width compiled new masked
shown_alike history width compiled old new masked same shown = record {
  shows = shows_alike (program_of compiled) (variables_of compiled) width (regions_in history width old) (regions_in history width new) same masked shown.shows;
  declared = shown.declared;
}

module _ {T : Type 0} (history : T → History) (width : ℕ) (compiled : CompiledProgram) (event : Undone) (old new : MachineWords T)
    (lie : AreFor history width compiled old) (records : Records history width event old new) where
  -- the words lie so behind an event
  pub lie_behind : AreFor history width compiled new
  lie_behind =
      let room : (history new.store.timeline).room ≡ (history old.store.timeline).room = ap (λ h. h.room) records.recorded in
      record {
        gang = lie.gang;
        compiled_is = lie.compiled_is;
        lengths = lie.lengths;
        layout = subst (λ l. IsLayoutOf width compiled.program lie.lengths machine_sizes (head_sizes width (most_levels (program_of compiled))) l) (sym records.layout) lie.layout;
        laid = records.laid;
        room = omega (arith, room, lie.room);
      }

  -- and show the masked state after a step
  pub shown_behind : (masked : Masked) → IsShown history width compiled old masked → GoesTo (program_of compiled) (variables_of compiled) width masked (regions_in history width new)
      → (next : Masked) × (masked_step (program_of compiled) masked ≡ Goes next) × IsShown history width compiled new next
  shown_behind masked shown goes =
      let runnable = lie.compiled_is.runnable in (
        goes.0,
        goes.1,
        record {
          shows = goes.2;
          declared = step_declared (variables_of compiled) runnable.most (program_of compiled) runnable.well_scoped runnable.lowerable.numbered
              (regions_in history width old) width masked goes.0 shown.shows shown.declared goes.1;
        },
      )

-- ---- how many words each region has

mapped_at : {A B C : Type 0} (f : A → C) (g : B → C) (xs : List A) (ys : List B) (k : ℕ) (y : B) → map f xs ≡ map g ys → slice_get ys k ≡ Some y → slice_get (map f xs) k ≡ Some (g y)
mapped_at f g xs ys k y same e = ap (λ zs. slice_get zs k) same ∙ slice_get-map g ys k ∙ ap (option_map g) e

scalar_words : (width : ℕ) (g : FileVariable) → g.variable.is_array ≡ false → global_words width g ≡ words_for width g.variable.rate
scalar_words width g e = ap (λ b. cond b g.length (words_for width g.variable.rate)) e

-- a variable of a function is one of so many
module _ (functions : List TypedFunction) (most : ℕ) (all : All (λ f. length f.variables.items ≤ most) functions) (n k : ℕ) (v : Variable) where
  among : (o : Option (List Variable)) → slice_get (map own_variables functions) n ≡ o → slice_get (or_none o) k ≡ Some v → k < most
  among None e is = absurd (none-some v is)
  among (Some own) e is =
      let found = get_mapped own_variables functions n own e in
      let f = found.0 in
      let within : k < length own = slice_get_within own k v is in
      let long : length own ≡ length f.variables.items = sym (ap length found.2) ∙ length-map f.variables.items variable_view in
      let most_of_all : length (slice_index_or functions n f).variables.items ≤ most = all n f (slice_get_within functions n f found.1) in
      let few : length f.variables.items ≤ most =
      subst (λ (g : TypedFunction). length g.variables.items ≤ most) (get_or_from_slice_get functions n f f found.1) most_of_all in
      omega (arith, within, long, few)

module _ {T : Type 0} (history : T → History) (width : ℕ) (compiled : CompiledProgram) (old new : MachineWords T)
    (lie : AreFor history width compiled old) (layout : new.layout ≡ old.layout) (laid : AreLaid history width new) where
  is_layout : IsLayoutOf width compiled.program lie.lengths machine_sizes (head_sizes width (most_levels (program_of compiled))) new.layout
  is_layout = subst (λ l. IsLayoutOf width compiled.program lie.lengths machine_sizes (head_sizes width (most_levels (program_of compiled))) l) (sym layout) lie.layout

  pub depth_sized : length (regions_in history width new Depth) ≡ 1
  depth_sized = depth_words width new.layout (words_of history new) laid

  -- 1 for the function, the lanes and the lanes that have returned; a word for each lane for the numbers and the result
  pub head_sized : (i : ℕ) (part : Head) → i < 64 → length (regions_in history width new (OfHead i part)) ≡ head_size width (levels_of new.layout) part
  head_sized i part h = head_words width new.layout (words_of history new) laid i part (omega (arith, is_layout.frames, h))

  pub file_sized : (k : ℕ) (v : Variable) → slice_get (variables_of compiled).file k ≡ Some v → v.is_array ≡ false → length (regions_in history width new (OfFile k)) ≡ words_for width v.rate
  file_sized k v is scalar =
      let globals = compiled.program.globals.items in
      let view : FileVariable → Variable = λ g. variable_view g.variable in
      let found = get_mapped view globals k v is in
      let g = found.0 in
      let part = get_mapped (λ (p : Part). p.len) new.layout.file.items k (global_words width g)
      (mapped_at (λ (p : Part). p.len) (global_words width) new.layout.file.items globals k g is_layout.file found.1) in
      file_words width new.layout (words_of history new) laid k part.0 part.1
      ∙ part.2 ∙ scalar_words width g (ap (λ (u : Variable). u.is_array) found.2 ∙ scalar)
      ∙ ap (λ (u : Variable). words_for width u.rate) found.2

  pub own_sized : (i n k : ℕ) (v : Variable) → i < 64 → slice_get (own_of (variables_of compiled) n) k ≡ Some v → length (regions_in history width new (OfLocal i k)) ≡ width
  own_sized i n k v h is =
      let functions = compiled.program.functions.items in
      local_words width new.layout (words_of history new) laid i k (omega (arith, is_layout.frames, h))
      (among functions new.layout.frames.variables is_layout.variables n k v (slice_get (map own_variables functions) n) refl is)

  pub sized : AreSized (variables_of compiled) width (regions_in history width new)
  sized = record { file = file_sized; own = own_sized }

-- ---- the next step

pub lanes_long : (width : ℕ) (lanes : Mask) → length (lanes_of width lanes) ≡ width
lanes_long width lanes = length-lanes_of_word width lanes.word

module _ {T : Type 0} (history : T → History) (width : ℕ) (compiled : CompiledProgram) (words : MachineWords T) (sound : AreSound history width compiled words) (active : Active) (f : Function) where
  pub frame_below : (point : Option Point) → IsActive width compiled (regions_in history width words) active f point → active.frame < 64
  frame_below point is_active =
      let masked = sound.masked in
      let shows = sound.shown.shows in
      let height : suc active.frame ≡ length masked.state.frames =
      same_word (regions_in history width words Depth) (suc active.frame) (length masked.state.frames) is_active.next.depth shows.depth in
      omega (arith, height, shows.few)

  -- the level of the next step has a number for each lane, whatever was written since
  pub active_numbers : (point : Option Point) → IsActive width compiled (regions_in history width words) active f point → (mid : MachineWords T) → mid.layout ≡ words.layout → AreLaid history width mid
      → length (regions_in history width mid (OfLevel active.frame active.level NumbersOf)) ≡ width
  active_numbers point is_active mid layout laid =
      let numbers : Head = LevelOf active.level NumbersOf in
      let below = frame_below point is_active in
      head_sized history width compiled words mid sound.lie layout laid active.frame numbers below
      ∙ ap (λ l. head_size width (levels_of l) numbers) layout
      ∙ sym (head_sized history width compiled words words sound.lie refl sound.lie.laid active.frame numbers below)
      ∙ sym (length-waiting_for active.step (regions_in history width words (OfHead active.frame numbers)))
      ∙ length-waiting (program_of compiled) (variables_of compiled) width (regions_in history width words) sound.masked sound.shown.shows active.frame active.level active.function f active.step point is_active.next

  -- a step that is no round of a form is done by some lane
  pub some_active : (point : Point) → IsActive width compiled (regions_in history width words) active f (Some point) → IsNoTurn point → no_lane (lanes_of width active.lanes) ≡ false
  some_active point is_active unturned =
      ap no_lane is_active.lanes
      ∙ some_waiting (program_of compiled) (variables_of compiled) width (regions_in history width words) sound.masked sound.shown.shows active.frame active.level active.function f active.step point is_active.next unturned
