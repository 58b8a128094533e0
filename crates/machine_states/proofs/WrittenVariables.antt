-- A variable is written: the regions show the state after it.
use Rattle.std.proofs.Common.{◌≡◌, ◌≢◌, sym, ap, ◌∙◌, subst, ℕ, suc, ◌<◌, true, false, true≢false, List, [], ◌∷◌, length, arith, ⊎_elim}
use Rattle.std.specs.Prelude.{slice_get, Some}
use Rattle.std.proofs.lemmas.Bool.{cases_eq}
use Rattle.std.proofs.lemmas.List.{take_all}
use Rattle.gang_types.specs.declared.places.VarId.{VarId}
use Rattle.gang_types.specs.declared.places.VarId.TheVariants.{File, Local}
use Rattle.gang_types.specs.Lanes.{Lanes}
use Rattle.gang_model.specs.Types.Tree.{Var, Variable, Program}
use Rattle.gang_model.specs.Running.State.{Store, Frame, words_of, with_words, words_in, with_var, with_words_in, declared_words, assigned_words, words_for}
use Rattle.mask_states.specs.Masked.{Level, Masked}
use Rattle.machine_states.specs.Variables.{Variables, IsScalar, IsOwn, is_array_of, own_of, variable_of, rate_of}
use Rattle.machine_states.specs.Declared.{has_entry}
use Rattle.machine_states.specs.ArrayParts.{AreMemory}
use Rattle.machine_states.specs.Regions.{FunctionOf, OfFile, Depth, OfHead, OfLocal, Regions, with_region}
use Rattle.machine_states.specs.Shows.{IsScalarIn, AreSized, ShowsLocal, ShowsView, ShowsFrame, ShowsCall, Shows}
use Rattle.machine_states.specs.Effects.{region_of, declared_region, assigned_region, declared_in, assigned_in}
use Rattle.machine_states.proofs.ArrayViews.{memory_kept}
use Rattle.machine_states.proofs.ChangedRegions.{region_here, file_away, local_away, frames_kept, lengths_kept}
use Rattle.machine_states.proofs.FramesBelow.{frames_below, view_shown}
use Rattle.machine_states.proofs.NextPoints.{same_word}
use Rattle.machine_states.proofs.StoreWords.{words_set, words_kept, entry_kept}
use Rattle.machine_states.proofs.ScalarRegions.{declared_stands, assigned_stands, assigned_same, assigned_long}

-- a call is the same whatever its frame's variables are
pub call_kept : (p : Program) (frame : Frame) (vars : Store) (frames : List Frame) (levels : List (List Level)) → ShowsCall p frame frames levels
    → ShowsCall p (record frame { vars = vars }) frames levels
call_kept p frame vars [] levels c = c
call_kept p frame vars (below ∷ frames) [] c = c
call_kept p frame vars (below ∷ frames) ([] ∷ rest) c = c
call_kept p frame vars (below ∷ frames) ((level ∷ levels) ∷ rest) c = c

-- the words of a scalar stand in this region: one of the file has no other words there, and as many as before
abbrev pub StandsIn : Variables → (width n : ℕ) → VarId → (words region old : List ℕ) → Type 0
StandsIn variables w n (File k) words region old = (words ≡ region) × (length region ≡ length old)
StandsIn variables w n (Local k) words region old = IsScalarIn w (rate_of (slice_get (own_of variables n) k)) words region × (is_array_of (slice_get (own_of variables n) k) ≡ false)

-- the top frame has the variable, or the file
abbrev pub HasVariable : List Frame → VarId → Type 0
HasVariable frames (File k) = Unit {0}
HasVariable [] (Local k) = ⊥
HasVariable (frame ∷ frames) (Local k) = has_entry frame.vars (Local k) ≡ true

module _ (p : Program) (variables : Variables) (w i n : ℕ) (old : Regions) where
  -- ---- a variable of the file
  module _ (k : ℕ) (words region : List ℕ) (stands : words ≡ region) (long : length region ≡ length (old (OfFile k))) where
    file_written : (memory : Store) → AreMemory old memory → AreMemory (with_region (OfFile k) region old) (with_words memory (File k) words)
    file_written memory all (Local j) = words_kept (File k) (Local j) words (λ e. other_kind e) memory ∙ all (Local j)
      where
        other_kind : Local j ≡ File k → ⊥
        other_kind e = cc
    file_written memory all (File j) = ⊎_elim
        (λ same. subst (λ m. words_of (with_words memory (File k) words) (File m) ≡ with_region (OfFile k) region old (OfFile m)) same
        (words_set memory (File k) words ∙ stands ∙ sym (region_here region old (OfFile k))))
        (λ other. words_kept (File k) (File j) words (λ e. other (file_number j k e)) memory ∙ all (File j) ∙ sym (file_away region old k j other))
        (cases_eq k j)
      where
        file_number : (j k : ℕ) → File j ≡ File k → k ≡ j
        file_number j k e = cc

    -- a variable of the file has these words, whatever frames there are
    pub file_shows : (masked : Masked) → Shows p variables w old masked
        → Shows p variables w (with_region (OfFile k) region old) (record { state = with_words_in masked.state (File k) words; levels = masked.levels })
    file_shows masked shows = record {
      memory = file_written masked.state.memory shows.memory;
      depth = shows.depth;
      few = shows.few;
      frames = frames_below p variables w old (with_region (OfFile k) region old) (length masked.state.frames)
          (frames_kept region old (length masked.state.frames) (OfFile k) long) masked.state.frames masked.levels (omega arith) shows.frames;
    }

  -- ---- a variable of the top frame
  module _ (k : ℕ) (words region : List ℕ) (stands : IsScalarIn w (rate_of (slice_get (own_of variables n) k)) words region)
      (scalar : is_array_of (slice_get (own_of variables n) k) ≡ false) where
    abbrev new : Regions
    new = with_region (OfLocal i k) region old

    abbrev written : Frame → Frame
    written frame = with_var (Local k) words frame

    local_written : (frame : Frame) → frame.function ≡ n → ((j : ℕ) → ShowsLocal variables w old i frame j) → (j : ℕ) → ShowsLocal variables w new i (written frame) j
    local_written frame function locals j there = ⊎_elim
        (λ same. subst (λ m. IsScalarIn w (rate_of (slice_get (own_of variables frame.function) m)) (words_of (written frame).vars (Local m)) (new (OfLocal i m))) same
        (subst (λ f. IsScalarIn w (rate_of (slice_get (own_of variables f) k)) (words_of (written frame).vars (Local k)) (new (OfLocal i k))) (sym function)
        (subst (λ ws. IsScalarIn w (rate_of (slice_get (own_of variables n) k)) ws (new (OfLocal i k))) (sym (words_set frame.vars (Local k) words))
        (subst (λ ws. IsScalarIn w (rate_of (slice_get (own_of variables n) k)) words ws) (sym (region_here region old (OfLocal i k))) stands))))
        (λ other.
        let apart : Local j ≢ Local k = λ e. other (local_number j k e) in
        let was = locals j (sym (entry_kept (Local k) (Local j) words apart frame.vars) ∙ there) in
        subst (λ ws. IsScalarIn w (rate_of (slice_get (own_of variables frame.function) j)) ws (new (OfLocal i j))) (sym (words_kept (Local k) (Local j) words apart frame.vars))
        (subst (λ ws. IsScalarIn w (rate_of (slice_get (own_of variables frame.function) j)) (words_of frame.vars (Local j)) ws) (sym (local_away region old i k j other)) was))
        (cases_eq k j)
      where
        local_number : (j k : ℕ) → Local j ≡ Local k → k ≡ j
        local_number j k e = cc

    -- another variable's region is the same, and this one is no array
    views_written : (frame : Frame) → frame.function ≡ n → ((j : ℕ) → ShowsView variables old i frame.function frame.views j) → (j : ℕ) → ShowsView variables new i frame.function frame.views j
    views_written frame function views j = ⊎_elim
        (λ same is. absurd (true≢false (sym is ∙ ap (λ m. is_array_of (slice_get (own_of variables m) j)) function ∙ ap (λ m. is_array_of (slice_get (own_of variables n) m)) (sym same) ∙ scalar)))
        (λ other. view_shown p variables w old new (lengths_kept region old i (OfLocal i k) (omega arith)) i frame j (local_away region old i k j other) (views j))
        (cases_eq k j)

    frame_written : (frame : Frame) (levels : List Level) → frame.function ≡ n → ShowsFrame p variables w old i frame levels → ShowsFrame p variables w new i (written frame) levels
    frame_written frame levels function shown = record {
      function = shown.function;
      is_function = shown.is_function;
      number = shown.number;
      lanes = shown.lanes;
      waits = shown.waits;
      untasked = shown.untasked;
      views = views_written frame function shown.views;
      locals = local_written frame function shown.locals;
      result = shown.result;
      result_sized = shown.result_sized;
    }

    state_written : (memory : Store) (frames : List Frame) (levels : List (List Level)) → Shows p variables w old (record { state = record { memory = memory; frames = frames }; levels = levels })
        → length frames ≡ suc i → old (OfHead i FunctionOf) ≡ n ∷ []
        → Shows p variables w new (record { state = with_words_in (record { memory = memory; frames = frames }) (Local k) words; levels = levels })
    state_written memory [] levels shows e is = absurd (omega (arith, e))
    state_written memory (frame ∷ frames) [] shows e is = absurd shows.frames
    state_written memory (frame ∷ frames) (levels ∷ rest) shows e is =
        let below : length frames ≡ i = omega (arith, e) in
        let top : ShowsFrame p variables w old i frame levels = subst (λ j. ShowsFrame p variables w old j frame levels) below shows.frames.0 in
        record {
          memory = memory_kept (OfLocal i k) tt region old memory shows.memory;
          depth = shows.depth;
          few = shows.few;
          frames = (
            subst (λ j. ShowsFrame p variables w new j (written frame) levels) (sym below) (frame_written frame levels (same_word (old (OfHead i FunctionOf)) frame.function n top.number is) top),
            call_kept p frame (written frame).vars frames rest shows.frames.1,
            frames_below p variables w old new i (frames_kept region old i (OfLocal i k) (omega arith)) frames rest (omega (arith, below)) shows.frames.2,
          );
        }

  module _ (masked : Masked) (shows : Shows p variables w old masked) (depth : old Depth ≡ suc i ∷ []) (function : old (OfHead i FunctionOf) ≡ n ∷ []) where
    top_length : length masked.state.frames ≡ suc i
    top_length = same_word (old Depth) (length masked.state.frames) (suc i) shows.depth depth

    -- a variable has words that stand in its region
    pub written_shows : (v : VarId) (words region : List ℕ) → StandsIn variables w n v words region (old (region_of i v))
        → Shows p variables w (with_region (region_of i v) region old) (record { state = with_words_in masked.state v words; levels = masked.levels })
    written_shows (File k) words region stands = file_shows k words region stands.0 stands.1 masked shows
    written_shows (Local k) words region stands = state_written k words region stands.0 stands.1 masked.state.memory masked.state.frames masked.levels shows top_length function

    module _ (sized : AreSized variables w old) where
      local_in : (k : ℕ) (memory : Store) (frames : List Frame) (levels : List (List Level)) → Shows p variables w old (record { state = record { memory = memory; frames = frames }; levels = levels })
          → length frames ≡ suc i → HasVariable frames (Local k)
          → IsScalarIn w (rate_of (slice_get (own_of variables n) k)) (words_in (record { memory = memory; frames = frames }) (Local k)) (old (OfLocal i k))
      local_in k memory [] levels s e there = absurd there
      local_in k memory (frame ∷ frames) [] s e there = absurd s.frames
      local_in k memory (frame ∷ frames) (levels ∷ rest) s e there =
          let top : ShowsFrame p variables w old i frame levels = subst (λ j. ShowsFrame p variables w old j frame levels) (omega (arith, e)) s.frames.0 in
          subst (λ m. IsScalarIn w (rate_of (slice_get (own_of variables m) k)) (words_of frame.vars (Local k)) (old (OfLocal i k)))
          (same_word (old (OfHead i FunctionOf)) frame.function n top.number function) (top.locals k there)

      pub variable_in : (id : VarId) (v : Variable) → variable_of variables n id ≡ Some v → v.is_array ≡ false → HasVariable masked.state.frames id
          → IsScalarIn w v.rate (words_in masked.state id) (old (region_of i id))
      variable_in (File k) v is well_scoped there =
          let size : length (old (OfFile k)) ≡ words_for w v.rate = sized.file k v is well_scoped in
          record { long = ap length (shows.memory (File k)) ∙ size; stands = shows.memory (File k) ∙ sym (take_all (words_for w v.rate) (old (OfFile k)) (omega (arith, size))) }
      variable_in (Local k) v is well_scoped there =
          subst (λ rate. IsScalarIn w rate (words_in masked.state (Local k)) (old (OfLocal i k))) (ap rate_of is)
          (local_in k masked.state.memory masked.state.frames masked.levels shows top_length there)

      -- a scalar's words stand in its region
      pub scalar_in : (x : Var) → IsScalar variables n x → HasVariable masked.state.frames x.id → IsScalarIn w x.rate (words_in masked.state x.id) (old (region_of i x.id))
      scalar_in x (v, is, well_scoped, same) there =
          subst (λ rate. IsScalarIn w rate (words_in masked.state x.id) (old (region_of i x.id))) (sym (ap (λ y. y.rate) same)) (variable_in x.id v is well_scoped there)

      module _ (lanes : Lanes) (values : List ℕ) (long : length lanes ≡ w) where
        module _ (given : length values ≡ w) where
          assigned_in_place : (id : VarId) (v : Variable) → variable_of variables n id ≡ Some v → v.is_array ≡ false → HasVariable masked.state.frames id
              → StandsIn variables w n id (assigned_words v.rate lanes values (words_in masked.state id)) (assigned_region v.rate lanes values (old (region_of i id))) (old (region_of i id))
          assigned_in_place (File k) v is well_scoped there =
              let size : length (old (OfFile k)) ≡ words_for w v.rate = sized.file k v is well_scoped in (
                ap (assigned_words v.rate lanes values) (shows.memory (File k)) ∙ assigned_same w v.rate lanes values (old (OfFile k)) size,
                assigned_long w lanes long values given v.rate (old (OfFile k)) size,
              )
          assigned_in_place (Local k) v is well_scoped there = (
            subst (λ rate. IsScalarIn w rate (assigned_words v.rate lanes values (words_in masked.state (Local k))) (assigned_region v.rate lanes values (old (OfLocal i k)))) (sym (ap rate_of is))
                (assigned_stands w lanes long values given v.rate (words_in masked.state (Local k)) (old (OfLocal i k)) (variable_in (Local k) v is well_scoped there)),
            ap is_array_of is ∙ well_scoped,
          )

          -- a scalar is assigned to
          pub assigned_shows : (x : Var) → IsScalar variables n x → HasVariable masked.state.frames x.id
              → Shows p variables w (assigned_in i x.id x.rate lanes values old)
              (record { state = with_words_in masked.state x.id (assigned_words x.rate lanes values (words_in masked.state x.id)); levels = masked.levels })
          assigned_shows x (v, is, well_scoped, same) there =
              written_shows x.id (assigned_words x.rate lanes values (words_in masked.state x.id)) (assigned_region x.rate lanes values (old (region_of i x.id)))
              (subst (λ rate. StandsIn variables w n x.id (assigned_words rate lanes values (words_in masked.state x.id)) (assigned_region rate lanes values (old (region_of i x.id))) (old (region_of i x.id)))
              (sym (ap (λ y. y.rate) same)) (assigned_in_place x.id v is well_scoped there))

        declared_in_place : 0 < w → (k : ℕ) (id : VarId) (v : Variable) → id ≡ Local k → variable_of variables n id ≡ Some v → v.is_array ≡ false
            → StandsIn variables w n id (declared_words v.rate lanes values) (declared_region v.rate lanes values (old (region_of i id))) (old (region_of i id))
        declared_in_place some k (File j) v e is well_scoped = absurd (apart e)
          where
            apart : File j ≡ Local k → ⊥
            apart e = cc
        declared_in_place some k (Local j) v e is well_scoped =
            let size : length (old (OfLocal i j)) ≡ w = sized.own i n j v (omega (arith, top_length, shows.few)) is in (
              subst (λ rate. IsScalarIn w rate (declared_words v.rate lanes values) (declared_region v.rate lanes values (old (OfLocal i j)))) (sym (ap rate_of is))
                  (declared_stands w lanes long values v.rate (old (OfLocal i j)) (omega (arith, size, some))),
              ap is_array_of is ∙ well_scoped,
            )

        -- a scalar is declared
        pub declared_shows : 0 < w → (k : ℕ) (x : Var) → IsOwn variables n k x
            → Shows p variables w (declared_in i x.id x.rate lanes values old)
            (record { state = with_words_in masked.state x.id (declared_words x.rate lanes values); levels = masked.levels })
        declared_shows some k x own =
            let (v, is, well_scoped, same) = own.scalar in
            written_shows x.id (declared_words x.rate lanes values) (declared_region x.rate lanes values (old (region_of i x.id)))
            (subst (λ rate. StandsIn variables w n x.id (declared_words rate lanes values) (declared_region rate lanes values (old (region_of i x.id))) (old (region_of i x.id)))
            (sym (ap (λ y. y.rate) same)) (declared_in_place some k x.id v own.id is well_scoped))
