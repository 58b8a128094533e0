-- What a poke in the frame at a depth leaves: it is recorded, and the words show a masked state; a variable that is seen there is shown as it was
-- set.
use Rattle.std.proofs.Common.{◌≡◌, refl, sym, ap, ◌∙◌, subst, ℕ, zero, suc, ◌+◌, ◌-◌, ◌<◌, ◌≤◌, Bool, true, false, List, [], ◌∷◌, length, drop, map, Option, Some, None, arith}
use Rattle.std.specs.Prelude.{replicate, take, if◌then◌else◌}
use Rattle.std.proofs.lemmas.List.{length-replicate, length-set, length-take-le}
use Rattle.gang_types.specs.declared.types.Rate.{Rate}
use Rattle.gang_types.specs.declared.types.Rate.TheVariants.{Uniform, Varying}
use Rattle.gang_types.specs.declared.places.VarId.{VarId}
use Rattle.gang_types.specs.declared.places.VarId.TheVariants.{File, Local}
use Rattle.gang_types.specs.Lanes.{no_lane}
use Rattle.undo_log.specs.History.{History}
use Rattle.undo_log.specs.declared.timeline.Undone.TheVariants as undone
use Rattle.gang_model.specs.Types.Tree.{Variable, Program}
use Rattle.gang_model.specs.Running.State.{Frame, State, View, with_words, with_words_in, words_for}
use Rattle.gang_model.specs.Debugger.Debugger.{poked_by}
use Rattle.gang_model.specs.Debugger.Events.{InFrame, poked}
use Rattle.gang_model.specs.Debugger.Frames.{frames_above, state_at, under}
use Rattle.mask_states.specs.Masked.{Masked}
use Rattle.machine_states.specs.ArrayParts.{array_region, view_at}
use Rattle.machine_states.specs.Declared.{AreDeclared, FramesDeclared}
use Rattle.machine_states.specs.Effects.{assigned_region, region_of}
use Rattle.machine_states.specs.Regions.{OfLocal, Region, Regions, with_region}
use Rattle.machine_states.specs.Shows.{IsScalarIn, Shows}
use Rattle.machine_states.specs.Steps.{poked_region}
use Rattle.machine_states.specs.Variables.{Variables, is_array_of, rate_of}
use Rattle.machine_states.proofs.AlwaysDeclared.{poked_declared}
use Rattle.machine_states.proofs.LeaveSteps.{shows_alike}
use Rattle.machine_states.proofs.Pokes.{poked_long}
use Rattle.machine_states.proofs.StoredElements.{array_shows}
use Rattle.machine_states.proofs.WrittenVariables.{StandsIn, written_shows}
use Rattle.machine_words.specs.declared.words.MachineWords.{MachineWords}
use Rattle.machine_words.specs.Words.{AreLaid, Writes, left_of, regions_in}
use Rattle.machine_words.proofs.AllLanes.{merged_all}
use Rattle.frame_steps.specs.declared.compiled.CompiledProgram.{CompiledProgram}
use Rattle.frame_steps.specs.Compiled.{program_of, variables_of}
use Rattle.frame_steps.specs.Standing.{AreSound, Begins, HaveLanes, IsShown, Records}
use Rattle.frame_steps.proofs.CalledFrames.{under_called, words_called}
use Rattle.frame_steps.proofs.Standings.{IsUnderWay, begun, begun_laid, begun_regions, leaving_within, lie_behind, may_write, recorded_so_far, sized, wrote}
use Rattle.machine_shown.specs.Frames.{masked_up_to, regions_up_to}
use Rattle.machine_shown.specs.Seen.{IsPartAt, IsSeenAt}
use Rattle.machine_shown.specs.ShownWords.{AreInRegion, HasNoWords, HasWords, IsSetAt, OfElements, OfScalar, WordsShown, has_part, part_set, region_shown}
use Rattle.machine_shown.proofs.FramePlaces.{declared_up_to, shows_up_to, sized_up_to}
use Rattle.machine_shown.proofs.ReadWords.{counted, seen_up_to}
use Rattle.machine_shown.proofs.SameWords.{no_words, same_words}
use Rattle.machine_shown.proofs.SeenVariables.{part_there, poke_shows}
use Rattle.machine_shown.proofs.SetRegions.{same_lower, words_lower}
use Rattle.machine_shown.proofs.SetWords.{words_declared}
use Rattle.machine_shown.proofs.UnderFrames.{declared_above, shows_under}
use Rattle.machine_shown.proofs.WordsRoom.{room_up_to, words_same}

-- ---- words

every_word : (word : ℕ) (region : List ℕ) → replicate (length region) word ≡ map (λ x. word) region
every_word word [] = refl
every_word word (x ∷ region) = ap (λ words. word ∷ words) (every_word word region)

-- an assignment of one word by all lanes is a poke
pub assigned_poked : (width : ℕ) → 0 < width → (rate : Rate) (word : ℕ) (region : List ℕ) → words_for width rate ≤ length region → length region ≤ width
    → assigned_region rate (replicate width true) (replicate width word) region ≡ poked_region rate None word region
assigned_poked zero some rate word region room most = absurd (omega (arith, some))
assigned_poked (suc w) some Uniform word region room most = refl
assigned_poked (suc w) some Varying word region room most =
    let long : length region ≡ suc w = omega (arith, room, most) in
    merged_all (suc w) (replicate (suc w) word) region (length-replicate (suc w) word) long
    ∙ ap (λ n. replicate n word) (sym long) ∙ every_word word region

-- as many words as before
set_long : (shown : WordsShown) (part : Option ℕ) (word : ℕ) (region : List ℕ) → length (part_set shown part word region) ≡ length region
set_long (OfScalar at rate) part word region = poked_long rate part word region
set_long (OfElements view) None word region = refl
set_long (OfElements view) (Some k) word region = length-set region (view.first + k) word

-- some lane is in the gang
pub all_some : (width : ℕ) → 0 < width → no_lane (replicate width true) ≡ false
all_some zero some = absurd (omega (arith, some))
all_some (suc w) some = refl

-- frames that are left have the lanes that they had
called_left : (n : ℕ) (frames : List Frame) → HaveLanes frames → HaveLanes (drop n frames)
called_left zero frames called = called
called_left (suc n) [] called = tt
called_left (suc n) (frame ∷ frames) called = called_left n frames called.1

module _ {T : Type 0} (history : T → History) (left : T → ℕ) (width : ℕ) (compiled : CompiledProgram) (old : MachineWords T) (sound : AreSound history width compiled old) (deep : ℕ) where
  abbrev p : Program
  p = program_of compiled

  abbrev variables : Variables
  variables = variables_of compiled

  abbrev regions : Regions
  regions = regions_in history width old

  abbrev masked : Masked
  masked = sound.masked

  -- ---- the frames up to the depth

  abbrev lower : Regions
  lower = regions_up_to deep (regions_in history width old)

  abbrev below : Masked
  below = masked_up_to deep sound.masked

  below_shows : Shows p variables width lower below
  below_shows = shows_up_to p variables width regions masked sound.shown.shows deep

  below_declared : AreDeclared variables p below
  below_declared = declared_up_to p variables width regions masked sound.shown.shows deep sound.shown.declared

  below_called : HaveLanes below.state.frames
  below_called = called_left (length masked.state.frames - deep) masked.state.frames sound.called

  -- some frames are shown there in which a region has these words
  abbrev AreShown : Region → List ℕ → Type 0
  AreShown region words = (after : State) × Shows p variables width (with_region region words lower) (record { state = after; levels = below.levels })
      × FramesDeclared variables p after.frames below.levels × HaveLanes after.frames

  -- whatever words an array has
  array_some : (array : VarId) (words : List ℕ) → length words ≡ length (lower (array_region array)) → AreShown (array_region array) words
  array_some array words long = (
    record below.state { memory = with_words below.state.memory array words },
    array_shows array words lower p variables width below below_shows long,
    below_declared,
    below_called,
  )

  -- or a scalar of the frame at the depth
  local_some : (k : ℕ) (words : List ℕ) (shown : WordsShown) (has : HasWords width compiled lower (Local k) shown) → has.variable.is_array ≡ false → length words ≡ length (lower (OfLocal has.active.frame k))
      → words_for width has.variable.rate ≤ length (lower (OfLocal has.active.frame k)) → AreShown (OfLocal has.active.frame k) words
  local_some k words shown has well_scoped long room =
      let active = has.active in
      let next = has.active_is.next in
      let n = words_for width has.variable.rate in
      let first : IsScalarIn width has.variable.rate (take n words) words = record {
        long = length-take-le n words (omega (arith, room, long));
        stands = refl;
      } in
      let stands : StandsIn variables width active.function (Local k) (take n words) words (lower (OfLocal active.frame k)) = (
        subst (λ r. IsScalarIn width r (take n words) words) (sym (ap rate_of has.is_variable)) first,
        ap is_array_of has.is_variable ∙ well_scoped,
      ) in (
        with_words_in below.state (Local k) (take n words),
        written_shows p variables width active.frame active.function lower below below_shows next.depth next.function (Local k) (take n words) words stands,
        words_declared variables p below.state.memory below.state.frames below.levels (Local k) (take n words) below_declared,
        words_called below.state (Local k) (take n words) below_called,
      )

  module _ (words : List ℕ) where
    abbrev Some_shown : WordsShown → Type 0
    Some_shown shown = length words ≡ length (lower (region_shown shown)) → AreShown (region_shown shown) words

    file_kind : (k : ℕ) (rate : Rate) (b : Bool) → Some_shown (if b then OfElements (view_at lower 0 (File k)) else OfScalar (region_of 0 (File k)) rate)
    file_kind k rate true long = array_some (File k) words long
    file_kind k rate false long = array_some (File k) words long

    local_kind : (k : ℕ) (shown : WordsShown) (has : HasWords width compiled lower (Local k) shown) (b : Bool) → has.variable.is_array ≡ b
        → AreInRegion width regions (if b then OfElements (view_at lower has.active.frame (Local k)) else OfScalar (region_of has.active.frame (Local k)) has.variable.rate)
        → Some_shown (if b then OfElements (view_at lower has.active.frame (Local k)) else OfScalar (region_of has.active.frame (Local k)) has.variable.rate)
    local_kind k shown has true e room long = let view : View = view_at lower has.active.frame (Local k) in array_some view.array words long
    local_kind k shown has false e room long = local_some k words shown has e long room.0

    -- whatever words a variable's region has
    some_shown : (id : VarId) (shown : WordsShown) → HasWords width compiled lower id shown → Some_shown shown
    some_shown (File k) shown (v, is, shown_is) = subst Some_shown (sym shown_is) (file_kind k v.rate v.is_array)
    some_shown (Local k) shown has =
        subst Some_shown (sym has.shown_is)
        (local_kind k shown has has.variable.is_array refl
        (subst (AreInRegion width regions) has.shown_is (room_up_to history width compiled old sound deep (Local k) shown has)))

  -- ---- an event is open

  module _ (mid : MachineWords T) (begins : Begins history left width undone.Poke old mid) where
    opened : IsUnderWay history left width undone.Poke regions 0 old mid
    opened = begun history left width compiled undone.Poke old mid sound.lie begins

    -- an empty poke
    pub empty_records : Records history width undone.Poke old mid
    empty_records = recorded_so_far history left width undone.Poke regions 0 old mid opened

    pub empty_sound : AreSound history width compiled mid
    empty_sound = record {
      lie = lie_behind history width compiled undone.Poke old mid sound.lie empty_records;
      masked = sound.masked;
      shown = record {
        shows = shows_alike p variables width regions (regions_in history width mid) opened.regions_are sound.masked sound.shown.shows;
        declared = sound.shown.declared;
      };
      called = sound.called;
    }

    -- nothing is set where there is no such variable
    pub none_set : (id : VarId) → HasNoWords width compiled (regions_up_to deep (regions_in history width old)) id → (part : Option ℕ) (word : ℕ)
        → IsSetAt width compiled deep id part word (regions_in history width old) (regions_in history width mid)
    none_set id none part word = record {
      there = λ shown is. absurd (no_words width compiled lower id shown is none);
      none = λ _. opened.regions_are;
    }

    -- what a write asks for
    pub mid_laid : AreLaid history width mid
    mid_laid = begun_laid history left width compiled undone.Poke old mid sound.lie begins

    pub mid_left : width ≤ left_of history left mid
    mid_left = may_write history left width undone.Poke regions 0 old mid opened width (omega (arith, leaving_within history width compiled old sound.lie))

    module _ (id : VarId) (shown : WordsShown) (has : HasWords width compiled (regions_up_to deep (regions_in history width old)) id shown) where
      pub mid_room : AreInRegion width (regions_in history width mid) shown
      mid_room =
          subst (λ rs. AreInRegion width rs shown) (sym (begun_regions history left width compiled undone.Poke old mid sound.lie begins))
          (room_up_to history width compiled old sound deep id shown has)

      -- its region has the words that it has among all frames
      region_same : lower (region_shown shown) ≡ regions (region_shown shown)
      region_same = same_lower deep regions (region_shown shown) (words_lower deep regions width compiled id shown has)

      module _ (part : Option ℕ) (word : ℕ) (new : MachineWords T)
          (sets : has_part width shown part ≡ true → Writes history left width (region_shown shown) (part_set shown part word (regions_in history width mid (region_shown shown))) width mid new)
          (keeps : has_part width shown part ≡ false → new ≡ mid) where
        abbrev after : List ℕ
        after = part_set shown part word (regions (region_shown shown))

        after_long : length (part_set shown part word (regions (region_shown shown))) ≡ length (regions (region_shown shown))
        after_long = set_long shown part word (regions (region_shown shown))

        -- what is true of the new words whether there is such a part or not
        either : (P : MachineWords T → Type 0) → P mid → ((done : IsUnderWay history left width undone.Poke (with_region (region_shown shown) after regions) (0 + width) old new) → P new) → P new
        either P none some = by_test (has_part width shown part) refl
          where
            by_test : (b : Bool) → has_part width shown part ≡ b → P new
            by_test true there = some (wrote history left width undone.Poke regions 0 old mid opened new (region_shown shown) (part_set shown part word) width (sets there))
            by_test false lacks = subst P (sym (keeps lacks)) none

        pub poke_records : Records history width undone.Poke old new
        poke_records =
            either (λ m. Records history width undone.Poke old m) empty_records
            (λ done. recorded_so_far history left width undone.Poke (with_region (region_shown shown) after regions) (0 + width) old new done)

        -- the frames above the depth show what they showed before
        shown_after : IsUnderWay history left width undone.Poke (with_region (region_shown shown) after regions) (0 + width) old new → (now : Masked) → Shows p variables width regions now → (to : State)
            → Shows p variables width (with_region (region_shown shown) after lower) (record { state = to; levels = drop (length now.state.frames - deep) now.levels })
            → AreDeclared variables p (record now { state = under (frames_above deep now.state.frames) to })
            → IsShown history width compiled new (record now { state = under (frames_above deep now.state.frames) to })
        shown_after done now shows to left_shows declared =
            let all : Masked = record now { state = under (frames_above deep now.state.frames) to } in
            record {
              shows = shows_alike p variables width (with_region (region_shown shown) after regions) (regions_in history width new) done.regions_are all
                  (shows_under p variables width regions now shows deep (region_shown shown) (words_lower deep regions width compiled id shown has) after after_long to left_shows);
              declared = declared;
            }

        pub poke_sound : AreSound history width compiled new
        poke_sound =
            either (λ m. AreSound history width compiled m) empty_sound
            (λ done.
            let frames = masked.state.frames in
            let n = length masked.state.frames - deep in
            let some = some_shown after id shown has (after_long ∙ ap length (sym region_same)) in
            record {
              lie = lie_behind history width compiled undone.Poke old new sound.lie poke_records;
              masked = record masked { state = under (frames_above deep frames) some.0 };
              shown = shown_after done masked sound.shown.shows some.0 some.1 (declared_above variables p n frames some.0.frames masked.levels (omega arith) sound.shown.declared some.2);
              called = under_called n frames some.0.frames sound.called (λ left. some.3);
            })

        regions_set : (b : Bool) → has_part width shown part ≡ b → (r : Region)
            → regions_in history width new r ≡ (if b then with_region (region_shown shown) after regions else regions) r
        regions_set true there r =
            (wrote history left width undone.Poke regions 0 old mid opened new (region_shown shown) (part_set shown part word) width (sets there)).regions_are r
        regions_set false lacks r = ap (λ m. regions_in history width m r) (keeps lacks) ∙ opened.regions_are r

        -- that part is set, and no other word
        pub part_is_set : IsSetAt width compiled deep id part word (regions_in history width old) (regions_in history width new)
        part_is_set = record {
          there = λ other is r.
              regions_set (has_part width shown part) refl r
              ∙ ap (λ x. (if has_part width x part then with_region (region_shown x) (part_set x part word (regions (region_shown x))) regions else regions) r)
              (same_words width compiled lower id shown other has is);
          none = λ none. absurd (no_words width compiled lower id shown has none);
        }

        pub poke_shown : (now : Masked) (v : Variable) → IsShown history width compiled old now → IsSeenAt compiled deep now v → v.id ≡ id → IsPartAt deep now v part
            → IsShown history width compiled new (record now { state = poked (InFrame deep (poked_by v part)) word now.state })
        poke_shown now v shows seen e set =
            let runnable = sound.lie.compiled_is.runnable in
            let here = shows_up_to p variables width regions now shows.shows deep in
            let declared = declared_up_to p variables width regions now shows.shows deep shows.declared in
            let sizes = sized_up_to p variables width regions now shows.shows deep (sized history width compiled old old sound.lie refl sound.lie.laid) in
            let top = seen_up_to history width compiled old sound deep id now shows v seen in
            let long = ap length (words_same deep regions width compiled id shown has) ∙ counted history width compiled old sound deep id shown has in
            let there = part_there compiled runnable width lower (masked_up_to deep now) here declared sizes id v top e shown has long part set in
            let to : State = poked (poked_by v part) word (state_at deep now.state) in
            shown_after (wrote history left width undone.Poke regions 0 old mid opened new (region_shown shown) (part_set shown part word) width (sets there)) now shows.shows to
            (subst (λ ws. Shows p variables width (with_region (region_shown shown) (part_set shown part word ws) lower) (record { state = to; levels = drop (length now.state.frames - deep) now.levels })) region_same
            (poke_shows compiled runnable width lower (masked_up_to deep now) here declared sizes id v top e shown has long part set word))
            (poked_declared variables p now (InFrame deep (poked_by v part)) word shows.declared)
