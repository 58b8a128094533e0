-- The words of a variable lie in their region.
use Rattle.std.proofs.Common.{◌≡◌, refl, sym, ap, ◌∙◌, subst, ℕ, suc, ◌+◌, ◌<◌, ◌≤◌, Bool, true, false, [], ◌∷◌, length, drop, take, min, Some, arith}
use Rattle.std.specs.Prelude.{slice_get, slice_index, if◌then◌else◌}
use Rattle.std.proofs.lemmas.List.{length-drop, length-take}
use Rattle.gang_types.specs.declared.places.VarId.{VarId}
use Rattle.gang_types.specs.declared.places.VarId.TheVariants.{File, Local}
use Rattle.undo_log.specs.History.{History}
use Rattle.gang_model.specs.Types.Tree.{Variable}
use Rattle.gang_types.specs.declared.types.Rate.{Rate}
use Rattle.gang_model.specs.Running.State.{View, words_for}
use Rattle.mask_states.specs.Points.{points_in}
use Rattle.machine_states.specs.ArrayParts.{array_region, view_at}
use Rattle.machine_states.specs.Effects.{region_of}
use Rattle.machine_states.specs.Regions.{Depth, OfFile, OfLocal, Regions}
use Rattle.machine_states.specs.Variables.{own_of}
use Rattle.machine_states.proofs.ArrayViews.{view_inside, view_same}
use Rattle.machine_states.proofs.ChangedRegions.{lengths_kept}
use Rattle.machine_states.proofs.NextPoints.{same_word}
use Rattle.machine_words.specs.declared.words.MachineWords.{MachineWords}
use Rattle.machine_words.specs.Words.{regions_in}
use Rattle.frame_steps.specs.declared.compiled.CompiledProgram.{CompiledProgram}
use Rattle.frame_steps.specs.Compiled.{variables_of}
use Rattle.frame_steps.specs.Standing.{AreSound}
use Rattle.frame_steps.proofs.Standings.{file_sized, frame_below, own_sized}
use Rattle.frame_steps.proofs.GangLanes.{words_few}
use Rattle.machine_shown.specs.Frames.{regions_up_to}
use Rattle.machine_shown.specs.ShownWords.{AreInRegion, HasWords, OfElements, OfScalar, WordsShown, count_shown, first_shown, region_shown, shown_of, words_shown}

-- ---- the frames up to a depth have the words that they have among all frames

module _ (deep : ℕ) (regions : Regions) where
  pub shown_of_same : (frame : ℕ) (id : VarId) (v : Variable) → shown_of (regions_up_to deep regions) frame id v ≡ shown_of regions frame id v
  shown_of_same frame (File k) v = refl
  shown_of_same frame (Local k) v =
      ap (λ view. if v.is_array then OfElements view else OfScalar (region_of frame (Local k)) v.rate)
      (view_same regions (regions_up_to deep regions) (lengths_kept (min deep (slice_index (regions Depth) 0) ∷ []) regions 0 Depth tt) frame k refl)

  pub shown_of_up_to : (frame : ℕ) (id : VarId) (v : Variable) (shown : WordsShown) → shown ≡ shown_of regions frame id v → shown ≡ shown_of (regions_up_to deep regions) frame id v
  shown_of_up_to frame id v shown is = is ∙ sym (shown_of_same frame id v)

  array_same : (array : VarId) → regions_up_to deep regions (array_region array) ≡ regions (array_region array)
  array_same (File k) = refl
  array_same (Local k) = refl

  scalar_same : (frame : ℕ) (id : VarId) → regions_up_to deep regions (region_of frame id) ≡ regions (region_of frame id)
  scalar_same frame (File k) = refl
  scalar_same frame (Local k) = refl

  same_by : (width frame : ℕ) (id : VarId) (view : View) (rate : Rate) (b : Bool)
      → words_shown width (regions_up_to deep regions) (if b then OfElements view else OfScalar (region_of frame id) rate) ≡ words_shown width regions (if b then OfElements view else OfScalar (region_of frame id) rate)
  same_by width frame id view rate true = ap (λ ws. take view.len (drop view.first ws)) (array_same view.array)
  same_by width frame id view rate false = ap (λ ws. take (words_for width rate) ws) (scalar_same frame id)

  shown_same : (width frame : ℕ) (id : VarId) (v : Variable) (shown : WordsShown) → shown ≡ shown_of (regions_up_to deep regions) frame id v
      → words_shown width (regions_up_to deep regions) shown ≡ words_shown width regions shown
  shown_same width frame id v shown is =
      subst (λ x. words_shown width (regions_up_to deep regions) x ≡ words_shown width regions x) (sym (is ∙ shown_of_same frame id v))
      (same_by width frame id (view_at regions frame id) v.rate v.is_array)

  pub words_same : (width : ℕ) (compiled : CompiledProgram) (id : VarId) (shown : WordsShown) → HasWords width compiled (regions_up_to deep regions) id shown
      → words_shown width (regions_up_to deep regions) shown ≡ words_shown width regions shown
  words_same width compiled (File k) shown (v, is, shown_is) = shown_same width 0 (File k) v shown shown_is
  words_same width compiled (Local k) shown has = shown_same width has.active.frame (Local k) has.variable shown has.shown_is

module _ {T : Type 0} (history : T → History) (width : ℕ) (compiled : CompiledProgram) (words : MachineWords T) (sound : AreSound history width compiled words) where
  abbrev regions : Regions
  regions = regions_in history width words

  file_room : (k : ℕ) (v : Variable) → slice_get (variables_of compiled).file k ≡ Some v → (b : Bool) → v.is_array ≡ b
      → AreInRegion width regions (if b then OfElements (view_at regions 0 (File k)) else OfScalar (region_of 0 (File k)) v.rate)
  file_room k v is true e = view_inside regions 0 (File k)
  file_room k v is false e =
      let long : length (regions (OfFile k)) ≡ words_for width v.rate = file_sized history width compiled words words sound.lie refl sound.lie.laid k v is e in
      (omega (arith, long), omega (arith, long, words_few width sound.lie.gang v.rate))

  own_room : (i n k : ℕ) (v : Variable) → i < 64 → slice_get (own_of (variables_of compiled) n) k ≡ Some v → (b : Bool)
      → AreInRegion width regions (if b then OfElements (view_at regions i (Local k)) else OfScalar (region_of i (Local k)) v.rate)
  own_room i n k v below is true = view_inside regions i (Local k)
  own_room i n k v below is false =
      let long : length (regions (OfLocal i k)) ≡ width = own_sized history width compiled words words sound.lie refl sound.lie.laid i n k v below is in
      (omega (arith, long, words_few width sound.lie.gang v.rate), omega (arith, long))

  pub words_room : (id : VarId) (shown : WordsShown) → HasWords width compiled (regions_in history width words) id shown → AreInRegion width (regions_in history width words) shown
  words_room (File k) shown (v, is, shown_is) = subst (AreInRegion width regions) (sym shown_is) (file_room k v is v.is_array refl)
  words_room (Local k) shown has =
      let active = has.active in
      let below = frame_below history width compiled words sound active has.f (slice_get (points_in has.f) active.step) has.active_is in
      subst (AreInRegion width regions) (sym has.shown_is) (own_room active.frame active.function k has.variable below has.is_variable has.variable.is_array)

  -- those of a variable of the frame at a depth, too
  pub room_up_to : (deep : ℕ) (id : VarId) (shown : WordsShown) → HasWords width compiled (regions_up_to deep (regions_in history width words)) id shown
      → AreInRegion width (regions_in history width words) shown
  room_up_to deep (File k) shown (v, is, shown_is) = subst (AreInRegion width regions) (sym (shown_is ∙ shown_of_same deep regions 0 (File k) v)) (file_room k v is v.is_array refl)
  room_up_to deep (Local k) shown has =
      let active = has.active in
      let height : min deep (slice_index (regions Depth) 0) ≡ suc active.frame =
      same_word (regions_up_to deep regions Depth) (min deep (slice_index (regions Depth) 0)) (suc active.frame) refl has.active_is.next.depth in
      let all : slice_index (regions Depth) 0 ≡ length sound.masked.state.frames = ap (λ ws. slice_index ws 0) sound.shown.shows.depth in
      subst (AreInRegion width regions) (sym (has.shown_is ∙ shown_of_same deep regions active.frame (Local k) has.variable))
      (own_room active.frame active.function k has.variable (omega (arith, height, all, sound.shown.shows.few)) has.is_variable has.variable.is_array)

-- ---- words that lie in their region

module _ (width : ℕ) (regions : Regions) where
  pub within : (shown : WordsShown) → AreInRegion width regions shown → first_shown shown + count_shown width shown ≤ length (regions (region_shown shown))
  within (OfScalar region rate) there = omega (arith, there.0)
  within (OfElements view) there = there

  -- they are as many as are shown
  pub words_long : (shown : WordsShown) → AreInRegion width regions shown → length (words_shown width regions shown) ≡ count_shown width shown
  words_long shown there = let room = within shown there in simp (length-take, length-drop) (omega (arith, room))
