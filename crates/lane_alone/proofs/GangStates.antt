-- Each state of a run is one of its gang, as the law of lane-pure functions asks: from the start, after each step and each poke.
use Rattle.std.proofs.Common.{◌≡◌, refl, ap, ◌∙◌, subst, ℕ, zero, suc, ◌+◌, ◌-◌, ◌≤◌, Bool, true, false, List, [], ◌∷◌, ◌++◌, length, drop, arith}
use Rattle.std.specs.Prelude.{slice_get, replicate, take, Option, Some, None, if◌then◌else◌}
use Rattle.std.proofs.lemmas.List.{length-append, length-drop, length-map, length-replicate, length-set}
use Rattle.gang_types.specs.declared.types.Rate.TheVariants.{Varying}
use Rattle.gang_types.specs.declared.places.VarId.{VarId}
use Rattle.gang_types.specs.declared.places.VarId.TheVariants.{File, Local}
use Rattle.gang_model.specs.Types.Tree.{Global, Function, Program, Nothing}
use Rattle.gang_model.specs.Types.Resolved.{program_of}
use Rattle.gang_model.specs.Source.Parsed.{ParsedSource}
use Rattle.gang_model.specs.Running.State.{Frame, State, same_id, words_of, view_of}
use Rattle.gang_model.specs.Running.Step.{settled, new_frame, step, Stepped, Goes, Fails, Over}
use Rattle.gang_model.specs.Running.SeparateInstances.{IsVaryingScalar, IsOfGang}
use Rattle.gang_model.specs.Debugger.Events.{Event, Step, Poke, Poked, WholeOf, LaneOf, ElementAt, InFrame, Row, Given, scalar_words, global_words, initial_memory, covered, with_row, with_rows, started, start, poked, gone, happen, after}
use Rattle.gang_model.specs.Debugger.Frames.{state_at}
use Rattle.gang_model.proofs.StandingLaws.{Each}
use Rattle.gang_model.proofs.StateLanes.{StateSized, sized-start, sized-after}
use Rattle.lane_alone.proofs.FileVariables.{numbered_file, sound_body}
use Rattle.lane_alone.proofs.Gangs.{frames_wide}
use Rattle.lane_alone.proofs.PurePrograms.{none_some, some_same}
use Rattle.lane_alone.proofs.WideStates.{IsFrameSound, IsPart, IsWide, IsStateWide, sound_settled, wide_words, wide_with, old_words, wide_tasks}
use Rattle.lane_alone.proofs.WideSteps.{IsSteppedWide, wide_step}
use Rattle.lane_alone.proofs.Words.{itself, another, file_apart}

-- a state of a gang of w lanes whose tasks name variables as they are declared
pub record IsRunning (source : ParsedSource) (p : Program) (w : ℕ) (state : State) : Type 0 where
  pub sized : StateSized w state
  pub wide : IsStateWide source p w state

-- it is one of the gang
pub running_of_gang : (source : ParsedSource) (p : Program) (w : ℕ) (state : State) → IsRunning source p w state → IsOfGang p w state
running_of_gang source p w state h = record { frames = frames_wide w state.frames h.sized; scalars = h.wide.1 }

-- a row gives a varying scalar of the file no more words than the gang has lanes
abbrev pub FitsRow : Program → ℕ → Row → Type 0
FitsRow p w row = (n : ℕ) → row.variable.id ≡ File n → IsVaryingScalar p n → length row.words ≤ w

module _ (source : ParsedSource) (p : Program) (w : ℕ) where
  -- ---- the first words

  initial_words : (k : ℕ) (globals : List Global) → ((i : ℕ) (g : Global) → slice_get globals i ≡ Some g → g.variable.id ≡ File (k + i)) → (n : ℕ) (g : Global) → slice_get globals n ≡ Some g
      → words_of (initial_memory w globals) (File (k + n)) ≡ global_words w g
  initial_words k [] numbered n g e = absurd (none_some e)
  initial_words k (x ∷ globals) numbered zero g e =
      ap (λ b. if b then global_words w x else words_of (initial_memory w globals) (File (k + 0))) (ap (λ i. same_id i (File (k + 0))) (numbered 0 x refl) ∙ itself (File (k + 0)))
      ∙ ap (global_words w) (some_same e)
  initial_words k (x ∷ globals) numbered (suc n) g e =
      let apart : same_id x.variable.id (File (k + suc n)) ≡ false =
      ap (λ i. same_id i (File (k + suc n))) (numbered 0 x refl) ∙ another (File (k + 0)) (File (k + suc n)) (file_apart (k + 0) (k + suc n) (λ q. omega (arith, q))) in
      let next : k + suc n ≡ suc k + n = omega arith in
      ap (λ b. if b then global_words w x else words_of (initial_memory w globals) (File (k + suc n))) apart ∙ ap (λ i. words_of (initial_memory w globals) (File i)) next
      ∙ initial_words (suc k) globals (λ i y h. numbered (suc i) y h ∙ ap File (omega arith)) n g e

  wide_global : (g : Global) → g.variable.is_array ≡ false → g.variable.rate ≡ Varying → length (global_words w g) ≡ w
  wide_global g plain varying =
      ap (λ b. length (if b then replicate g.len 0 else scalar_words g.variable.rate w g.word)) plain ∙ ap (λ r. length (scalar_words r w g.word)) varying ∙ length-replicate w g.word

  -- ---- the rows of the input

  -- what the entry begins with, where varying scalars of the file have their words and array parameters their parts
  abbrev IsGivenWide : Given → Type 0
  IsGivenWide given = IsWide source p w given.memory × Each (IsPart source p) given.passed.views

  covered_long : (new old : List ℕ) → length new ≤ w → length old ≡ w → length (covered new old) ≡ w
  covered_long new old few long = omega (arith, length-append new (drop (length new) old), length-drop (length new) old, few, long)

  given_if : (b : Bool) (x y : Given) → IsGivenWide x → IsGivenWide y → IsGivenWide (if b then x else y)
  given_if true x y h k = h
  given_if false x y h k = k

  wide_row : (v : VarId) (row : Row) (given : Given) → ((n : ℕ) → v ≡ File n → IsVaryingScalar p n → length row.words ≤ w) → IsGivenWide given → IsGivenWide (with_row v row given)
  wide_row (File m) row given fits h = (
    wide_words source p w given.memory (File m) _ h.0
        (λ n named varying. covered_long row.words (words_of given.memory (File m)) (fits n named varying) (ap (λ i. length (words_of given.memory i)) named ∙ h.0 n varying)),
    h.1,
  )
  wide_row (Local m) row given fits h =
      given_if row.variable.is_array _ _ (wide_words source p w given.memory (Local m) row.words h.0 (λ n named. absurd (apart n named)), (tt, h.1)) h
    where
      apart : (n : ℕ) → Local m ≡ File n → ⊥
      apart n named = cc

  wide_rows : (rows : List Row) (given : Given) → Each (FitsRow p w) rows → IsGivenWide given → IsGivenWide (with_rows rows given)
  wide_rows [] given fits h = h
  wide_rows (row ∷ rows) given fits h = wide_rows rows _ fits.1 (wide_row row.variable.id row given fits.0 h)

  -- ---- pokes

  sound_below : (n : ℕ) (frames : List Frame) → Each (IsFrameSound source p) frames → Each (IsFrameSound source p) (drop n frames)
  sound_below zero frames h = h
  sound_below (suc n) [] h = tt
  sound_below (suc n) (frame ∷ frames) h = sound_below n frames h.1

  -- frames under others are sound where those under them are
  sound_under : (n : ℕ) (frames below : List Frame) → Each (IsFrameSound source p) frames → (Each (IsFrameSound source p) (drop n frames) → Each (IsFrameSound source p) below)
      → Each (IsFrameSound source p) (take n frames ++ below)
  sound_under zero frames below h k = k h
  sound_under (suc n) [] below h k = k tt
  sound_under (suc n) (frame ∷ frames) below h k = (h.0, sound_under n frames below h.1 k)

  wide_poked : (what : Poked) (word : ℕ) (state : State) → IsStateWide source p w state → IsStateWide source p w (poked what word state)
  wide_poked (WholeOf v) word state h = wide_with source p w state v _ h (λ n named varying. length-map _ _ ∙ old_words source p w state v n h named varying)
  wide_poked (LaneOf v k) word state h = wide_with source p w state v _ h (λ n named varying. length-set _ k word ∙ old_words source p w state v n h named varying)
  wide_poked (ElementAt v k) word state h =
      let view = view_of state v in (
        h.0,
        wide_words source p w state.memory view.array _ h.1
            (λ n named varying. length-set (words_of state.memory view.array) _ word ∙ ap (λ i. length (words_of state.memory i)) named ∙ h.1 n varying),
      )
  wide_poked (InFrame deep what) word state h =
      let n = length state.frames - deep in (
        sound_under n state.frames (poked what word (state_at deep state)).frames h.0 (λ below. (wide_poked what word (state_at deep state) (below, h.1)).0),
        (wide_poked what word (state_at deep state) (sound_below n state.frames h.0, h.1)).1,
      )

  -- the state after a poke
  pub poked_running : (what : Poked) (word : ℕ) (state : State) → IsRunning source p w state → IsRunning source p w (poked what word state)
  poked_running what word state h = record { sized = sized-after w p state (Poke what word ∷ []) h.sized; wide = wide_poked what word state h.wide }

  pub poked_of_gang : (what : Poked) (word : ℕ) (state : State) → IsRunning source p w state → IsOfGang p w (poked what word state)
  poked_of_gang what word state h = running_of_gang source p w (poked what word state) (poked_running what word state h)

  module _ (is : program_of source ≡ Some p) where
    -- ---- steps

    wide_gone : (r : Stepped) (state : State) → IsStateWide source p w state → IsSteppedWide source p is w r → IsStateWide source p w (gone r state)
    wide_gone (Goes next) state h k = k
    wide_gone (Fails fault) state h k = h
    wide_gone Over state h k = h

    -- the state after an event
    pub event_running : (event : Event) (state : State) → IsRunning source p w state → IsRunning source p w (happen p event state)
    event_running Step state h = record { sized = sized-after w p state (Step ∷ []) h.sized; wide = wide_gone (step p state) state h.wide (wide_step source p is w state h.sized h.wide) }
    event_running (Poke what word) state h = poked_running what word state h

    -- the state after a step
    pub step_running : (state next : State) → IsRunning source p w state → step p state ≡ Goes next → IsRunning source p w next
    step_running state next h goes = subst (λ r. IsRunning source p w (gone r state)) goes (event_running Step state h)

    pub step_of_gang : (state next : State) → IsRunning source p w state → step p state ≡ Goes next → IsOfGang p w next
    step_of_gang state next h goes = running_of_gang source p w next (step_running state next h goes)

    -- ---- the start

    wide_initial : IsWide source p w (initial_memory w p.globals)
    wide_initial n (g, there, plain, varying) =
        let same : n ≡ 0 + n = omega arith in
        ap (λ i. length (words_of (initial_memory w p.globals) (File i))) same
        ∙ ap length (initial_words 0 p.globals (λ i x at. numbered_file source p is i x at ∙ ap File (omega arith)) n g there) ∙ wide_global g plain varying

    wide_started : (f : Option Function) (entry : ℕ) (given : Given) → slice_get p.functions entry ≡ f → IsGivenWide given → IsStateWide source p w (started f entry w given)
    wide_started None entry given at h = (tt, h.0)
    wide_started (Some f) entry given at h =
        let frame = new_frame entry f (replicate w true) None Nothing given.passed in
        wide_tasks source p w settled (sound_settled source p) (record { memory = given.memory; frames = frame ∷ [] }) ((((sound_body source p is entry f at, tt), ([], tt), h.1), tt), h.0)

    -- the first state of a run
    pub start_running : (entry : ℕ) (rows : List Row) → Each (FitsRow p w) rows → IsRunning source p w (start p entry rows w)
    start_running entry rows fits = record {
      sized = sized-start w p entry rows;
      wide = wide_started (slice_get p.functions entry) entry _ refl (wide_rows rows (record { passed = record { views = []; vars = [] }; memory = initial_memory w p.globals }) fits (wide_initial, tt));
    }

    pub start_of_gang : (entry : ℕ) (rows : List Row) → Each (FitsRow p w) rows → IsOfGang p w (start p entry rows w)
    start_of_gang entry rows fits = running_of_gang source p w (start p entry rows w) (start_running entry rows fits)

    -- ---- each state

    pub events_running : (state : State) (events : List Event) → IsRunning source p w state → IsRunning source p w (after p state events)
    events_running state [] h = h
    events_running state (event ∷ events) h = event_running event (after p state events) (events_running state events h)

    -- each state of a run is one of its gang
    pub state_of_gang : (entry : ℕ) (rows : List Row) (events : List Event) → Each (FitsRow p w) rows → IsOfGang p w (after p (start p entry rows w) events)
    state_of_gang entry rows events fits =
        running_of_gang source p w (after p (start p entry rows w) events) (events_running (start p entry rows w) events (start_running entry rows fits))
