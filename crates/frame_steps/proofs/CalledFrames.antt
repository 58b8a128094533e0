-- Each frame was made for some lane: a run begins so, and each step and poke keeps it.
use Rattle.std.proofs.Common.{ℕ, zero, suc, ◌-◌, ◌<◌, ◌≡◌, refl, sym, ◌∙◌, ap, subst, true, false, arith, List, [], ◌∷◌, ◌++◌, length, Option, Some, None}
use Rattle.std.specs.Prelude.{drop, take, Err, IfOk, Ok, Result, map, replicate, slice_get, ◌==◌}
use Rattle.undo_log.specs.History.{History}
use Rattle.gang_types.specs.declared.faults.FaultName.TheVariants.{CallDepth}
use Rattle.gang_types.specs.declared.places.VarId.{VarId}
use Rattle.gang_types.specs.declared.places.VarId.TheVariants.{File, Local}
use Rattle.gang_types.specs.declared.types.IntType.{IntType}
use Rattle.gang_types.specs.declared.types.IntType.TheVariants.{Int32}
use Rattle.gang_types.specs.Values.{binary_result, converted}
use Rattle.gang_types.specs.Lanes.{Lanes, lowest, no_lane}
use Rattle.gang_types.specs.LaneLaws.{some_lane}
use Rattle.gang_model.specs.Types.Tree.{Assign, Assigns, Call, Change, Check, PackedLoad, PackedStore, Declare, Declares, ElementOf, Function, Nothing, Program, ResultFor, Return, Returns, Scalar, StepNumber, Stmt}
use Rattle.gang_model.specs.Running.Lanes.{Fault, ◌>>=◌, at, each, try_each}
use Rattle.gang_model.specs.Running.Rounds.{Turn, rounds}
use Rattle.gang_model.specs.Running.State.{Frame, State, Store, view_of, with_var, with_words_in}
use Rattle.gang_model.specs.Running.Step.{Passed, ToElements, deliver, entered, initial, left, old_values, part, passed, returned_on, run, with_store, write}
use Rattle.gang_model.specs.Running.Value.{value}
use Rattle.gang_model.specs.Debugger.Frames.{state_at}
use Rattle.gang_model.specs.Debugger.Events.{ElementAt, InFrame, LaneOf, Poked, Row, WholeOf, poked, started, with_rows}
use Rattle.gang_model.proofs.LaneWords.{if_ok_after, if_ok_bind, if_or_ok}
use Rattle.mask_states.specs.Points.{Begin, Branch, Choose, Enter, Go, Point, Put, Turn as TakeTurn, points_in}
use Rattle.mask_states.specs.Masked.{Level, Masked, next_in, next_waiting}
use Rattle.mask_states.specs.MaskedStep.{Acted, Goes, act, acted, masked_start, masked_step, points_at, step_levels, step_point, turn_taken, untasked, untasked_frame}
use Rattle.machine_states.specs.WellScoped.{IsWellScopedProgram}
use Rattle.machine_states.specs.Regions.{Regions}
use Rattle.machine_states.specs.Shows.{Shows, ShowsFrames}
use Rattle.machine_states.specs.Awaited.{EndHolds}
use Rattle.machine_states.specs.Declared.{AreDeclared, FramesDeclared, IsAwaited}
use Rattle.machine_states.specs.Variables.{Variables}
use Rattle.machine_states.proofs.Beginnings.{nothing_given}
use Rattle.machine_states.proofs.AwaitedLevels.{IsNoTurn, Waits, point_below, waits_below}
use Rattle.machine_states.proofs.DeclaredPoints.{IsWellScopedPoint, IsWellScopedPut, well_scoped_point}
use Rattle.machine_states.proofs.DeclaredSteps.{IfGoes, goes_at}
use Rattle.machine_words.specs.declared.words.MachineWords.{MachineWords}
use Rattle.machine_words.specs.Words.{regions_in}
use Rattle.frame_steps.specs.declared.compiled.CompiledProgram.{CompiledProgram}
use Rattle.frame_steps.specs.Compiled.{program_of, variables_of}
use Rattle.frame_steps.specs.Standing.{AreSound, HaveLanes}

-- ---- words of variables

pub words_called : (state : State) (v : VarId) (words : List ℕ) → HaveLanes state.frames → HaveLanes (with_words_in state v words).frames
words_called state (File n) words h = h
words_called state (Local n) words h = by_frames state.frames h
  where
    by_frames : (frames : List Frame) → HaveLanes frames → HaveLanes (with_words_in (record { memory = state.memory; frames = frames }) (Local n) words).frames
    by_frames [] h = tt
    by_frames (frame ∷ frames) h = h

pub store_called : (store : Store) (state : State) → HaveLanes state.frames → HaveLanes (with_store store state).frames
store_called [] state h = h
store_called (entry ∷ store) state h = store_called store (with_words_in state entry.0 entry.1) (words_called state entry.0 entry.1 h)

-- frames under others have lanes where those under them do
pub under_called : (n : ℕ) (frames below : List Frame) → HaveLanes frames → (HaveLanes (drop n frames) → HaveLanes below) → HaveLanes (take n frames ++ below)
under_called zero frames below h k = k h
under_called (suc n) [] below h k = k tt
under_called (suc n) (frame ∷ frames) below h k = (h.0, under_called n frames below h.1 k)

-- a poke keeps each frame's lanes
pub poked_called : (what : Poked) (word : ℕ) (state : State) → HaveLanes state.frames → HaveLanes (poked what word state).frames
poked_called (WholeOf v) word state h = words_called state v _ h
poked_called (LaneOf v k) word state h = words_called state v _ h
poked_called (ElementAt v k) word state h = h
poked_called (InFrame deep what) word state h =
    under_called (length state.frames - deep) state.frames (poked what word (state_at deep state)).frames h (λ below. poked_called what word (state_at deep state) below)

untasked_called : (frames : List Frame) → HaveLanes frames → HaveLanes (map untasked_frame frames)
untasked_called [] h = tt
untasked_called (frame ∷ frames) h = (h.0, untasked_called frames h.1)

-- ---- results

module _ (p : Program) (type : IntType) (lanes : Lanes) (values : List ℕ) (memory : Store) where
  given_called : (frames : List Frame) → HaveLanes frames → HaveLanes (deliver p type Returns lanes values (record { memory = memory; frames = frames })).frames
  given_called [] h = tt
  given_called (frame ∷ frames) h = (by_function (slice_get p.functions frame.function) refl, h.1)
    where
      by_function : (o : Option Function) → slice_get p.functions frame.function ≡ o → no_lane (returned_on (slice_get p.functions frame.function) type lanes values frame).lanes ≡ false
      by_function None e = ap (λ o. no_lane (returned_on o type lanes values frame).lanes) e ∙ h.0
      by_function (Some f) e = ap (λ o. no_lane (returned_on o type lanes values frame).lanes) e ∙ h.0

  delivered_called : (result_for : ResultFor) (frames : List Frame) → HaveLanes frames → HaveLanes (deliver p type result_for lanes values (record { memory = memory; frames = frames })).frames
  delivered_called Nothing frames h = h
  delivered_called (Declares x) frames h = words_called (record { memory = memory; frames = frames }) x.id _ h
  delivered_called (Assigns x) frames h = words_called (record { memory = memory; frames = frames }) x.id _ h
  delivered_called Returns frames h = given_called frames h

loaded_called : (p : Program) (lanes : Lanes) (values : List ℕ) (memory : Store) (frame : Frame) (frames : List Frame) (v : VarId) (words : List ℕ) (result_for : ResultFor) → HaveLanes (frame ∷ frames)
    → HaveLanes (deliver p Int32 result_for lanes values (with_words_in (record { memory = memory; frames = frame ∷ frames }) v words)).frames
loaded_called p lanes values memory frame frames (File n) words result_for h = delivered_called p Int32 lanes values _ result_for (frame ∷ frames) h
loaded_called p lanes values memory frame frames (Local n) words result_for h = delivered_called p Int32 lanes values memory result_for (with_var (Local n) words frame ∷ frames) h

left_called : (p : Program) (o : Option Function) (above : Frame) (memory : Store) (frames : List Frame) → HaveLanes frames → HaveLanes (left p o above (record { memory = memory; frames = frames })).frames
left_called p None above memory frames h = h
left_called p (Some f) above memory frames h = delivered_called p f.result_type above.lanes _ memory above.result_for frames h

-- ---- a step

abbrev After : State → Type 0
After state = HaveLanes state.frames

module _ (variables : Variables) (p : Program) (m : ℕ) (memory : Store) (frame : Frame) (frames : List Frame) (h : HaveLanes (frame ∷ frames)) where
  abbrev state : State
  state = record { memory = memory; frames = frame ∷ frames }

  run_called : (s : Stmt) (lanes : Lanes) → IsWellScopedPut variables m s → IfOk (run p s lanes state) After
  run_called (Declare number x e) lanes well_scoped = if_ok_after After (initial e lanes state) _ (λ values. words_called state x.id _ h)
  run_called (Assign number (Scalar x) e) lanes well_scoped = if_ok_after After (value e lanes state) _ (λ values. words_called state x.id _ h)
  run_called (Assign number (ElementOf array rate index) e) lanes well_scoped = by_index (value index lanes state)
    where
      by_index : (r : Result (List ℕ) Fault) → IfOk ((r >>= λ x. Ok (ToElements (view_of state array) x)) >>= λ written. value e lanes state >>= λ y. old_values written lanes state >>= λ old. Ok (write written lanes y state)) After
      by_index (Ok x) = if_ok_after After (value e lanes state) _ (λ y. if_ok_after After (try_each lanes _) _ (λ old. h))
      by_index (Err fault) = tt
  run_called (Change number (Scalar x) type op in_type e) lanes well_scoped =
      if_ok_after After (value e lanes state) _ (λ y. if_ok_after After (try_each lanes _) _ (λ values. words_called state x.id _ h))
  run_called (Change number (ElementOf array rate index) type op in_type e) lanes well_scoped = by_index (value index lanes state)
    where
      by_index : (r : Result (List ℕ) Fault) → IfOk ((r >>= λ x. Ok (ToElements (view_of state array) x)) >>= λ written. value e lanes state >>= λ y. old_values written lanes state >>= λ old.
          try_each lanes (λ k. binary_result op in_type (converted type in_type (at old k)) (at y k)) >>= λ z. Ok (write written lanes (each lanes (λ k. converted in_type type (at z k))) state)) After
      by_index (Ok x) = if_ok_after After (value e lanes state) _ (λ y. if_ok_after After (try_each lanes _) _ (λ old. if_ok_after After (try_each lanes _) _ (λ z. h)))
      by_index (Err fault) = tt
  run_called (Return number e) lanes well_scoped = if_ok_after After (initial e lanes state) _ (λ values. h)
  run_called (Check number e) lanes well_scoped = if_ok_after After (value e lanes state) _ (λ c. if_ok_after After (try_each lanes _) _ (λ passes. h))
  run_called (PackedStore number array from e result_for) lanes well_scoped =
      if_ok_after After (part from (view_of state array) lanes state) _ (λ view. if_ok_after After (value e lanes state) _ (λ x. if_ok_after After (try_each lanes _) _
      (λ there. delivered_called p Int32 lanes _ _ result_for (frame ∷ frames) h)))
  run_called (PackedLoad number array from v result_for) lanes well_scoped =
      if_ok_after After (part from (view_of state array) lanes state) _ (λ view. if_ok_after After (try_each lanes _) _ (λ x. loaded_called p lanes _ memory frame frames v.id _ result_for h))
  run_called s lanes well_scoped = absurd well_scoped

  entered_called : (o : Option Function) (n : ℕ) (number : StepNumber) (result_for : ResultFor) (a : Passed) (lanes : Lanes) → no_lane lanes ≡ false
      → IfOk (entered o n number result_for a lanes state) After
  entered_called None n number result_for a lanes some = h
  entered_called (Some f) n number result_for a lanes some = if_or_ok After (length (frame ∷ frames) == 64) (record { name = CallDepth; lane = lowest lanes }) _ (some, h)

  round_called : (body : StepNumber) (turns : List Turn) (level : Level) (below : List Level) → HaveLanes (turn_taken body turns state level below).state.frames
  round_called body [] level below = h
  round_called body (turn ∷ turns) level below = store_called turn.indices state h

  act_called : (number : StepNumber) (point : Point) (lanes : Lanes) (level : Level) (below : List Level) → (IsNoTurn point → no_lane lanes ≡ false) → IsWellScopedPoint variables m number point
      → IfOk (act p number point lanes state level below) (λ a. HaveLanes a.state.frames)
  act_called number (Put s next) lanes level below some well_scoped = if_ok_bind After _ (run p s lanes state) _ (run_called s lanes well_scoped) (λ after kept. kept)
  act_called number (Go next) lanes level below some well_scoped = h
  act_called number (Branch test yes' no') lanes level below some well_scoped = if_ok_after _ (value test lanes state) _ (λ c. h)
  act_called number (Choose e segments entries next) lanes level below some well_scoped = if_ok_after _ (value e lanes state) _ (λ x. h)
  act_called number (Begin form rounds' next) lanes level below some well_scoped = if_ok_after _ (rounds form lanes state) _ (λ turns. h)
  act_called number (TakeTurn body) lanes level below some well_scoped = round_called body level.turns level below
  act_called number (Enter n args result_for next) lanes level below some well_scoped =
      if_ok_bind After _ (run p (Call number n args result_for) lanes state) _
      (if_ok_after After (passed args lanes state) _ (λ a. entered_called (slice_get p.functions n) n number result_for a lanes (some tt)))
      (λ after kept. untasked_called after.frames kept)

abbrev Kept : Masked → Type 0
Kept masked = HaveLanes masked.state.frames

if_acted : (r : Result Acted Fault) (rest : List (List Level)) → IfOk r (λ a. HaveLanes a.state.frames) → IfGoes (acted r rest) Kept
if_acted (Ok a) rest h = h
if_acted (Err fault) rest h = tt

module _ (variables : Variables) (most : ℕ) (p : Program) (well_scoped : IsWellScopedProgram variables most p) (regions : Regions) (w : ℕ) (memory : Store) where
  module _ (frame : Frame) (frames : List Frame) (h : HaveLanes (frame ∷ frames)) (rest : List (List Level)) (f : Function) (is : slice_get p.functions frame.function ≡ Some f)
      (P : StepNumber → Type 0) (top : Level) (below : List Level) (ends : EndHolds P f top below) where
    point_called : (o : Option Point) → slice_get (points_in f) (next_in top) ≡ o → IfGoes (step_point p memory frames frame o top below rest) Kept
    point_called None e = left_called p (slice_get p.functions frame.function) frame memory frames h.1
    point_called (Some point) e =
        let some : IsNoTurn point → no_lane (next_waiting top) ≡ false = λ unturned.
        let w : Waits top = waits_below top (point_below P f top below point ends unturned e) in some_lane (next_waiting top) w.lane w.waiting in
        if_acted (act p (next_in top) point (next_waiting top) (record { memory = memory; frames = frame ∷ frames }) top below) rest
        (act_called variables p frame.function memory frame frames h (next_in top) point (next_waiting top) top below some
        (well_scoped_point variables frame.function f (well_scoped.functions frame.function f is).body (next_in top) point e))

  frames_called : (frames : List Frame) (levels : List (List Level)) → ShowsFrames p variables w regions frames levels → FramesDeclared variables p frames levels → HaveLanes frames
      → IfGoes (step_levels p memory frames levels) Kept
  frames_called [] levels shown all h = tt
  frames_called (frame ∷ frames) [] shown all h = tt
  frames_called (frame ∷ frames) ([] ∷ rest) shown all h = tt
  frames_called (frame ∷ frames) ((top ∷ below) ∷ rest) shown all h =
      let f : Function = shown.0.function in
      let is = shown.0.is_function in
      subst (λ o. IfGoes (step_point p memory frames frame (slice_get (points_at o) (next_in top)) top below rest) Kept) (sym is)
      (point_called frame frames h rest f is (IsAwaited variables frame.function f frame.vars (length below)) top below (all.0 f is).1 (slice_get (points_in f) (next_in top)) refl)

-- a step keeps it
pub step_called : (variables : Variables) (most : ℕ) (p : Program) → IsWellScopedProgram variables most p → (regions : Regions) (w : ℕ) (masked next : Masked) → Shows p variables w regions masked
    → AreDeclared variables p masked → masked_step p masked ≡ Goes next → HaveLanes masked.state.frames → HaveLanes next.state.frames
step_called variables most p well_scoped regions w masked next shows all e h =
    goes_at Kept (masked_step p masked) next e (frames_called variables most p well_scoped regions w masked.state.memory masked.state.frames masked.levels shows.frames all h)

-- ---- the start

all_lanes : (w : ℕ) → 0 < w → no_lane (replicate w true) ≡ false
all_lanes zero h = absurd (omega (arith, h))
all_lanes (suc w) h = refl

-- a run begins for all lanes
pub start_called : (p : Program) (entry w : ℕ) (rows : List Row) (f : Function) → slice_get p.functions entry ≡ Some f → 0 < w → HaveLanes (masked_start p entry rows w).state.frames
start_called p entry w rows f is wide = subst (λ o. HaveLanes (untasked (started o entry w (with_rows rows (nothing_given p w)))).frames) (sym is) (all_lanes w wide, tt)

-- ---- words

-- each frame of the next state has a lane, if those of words that stand well have
pub called_behind : {T : Type 0} (history : T → History) (w : ℕ) (compiled : CompiledProgram) (words : MachineWords T) (sound : AreSound history w compiled words) (next : Masked)
    → masked_step (program_of compiled) sound.masked ≡ Goes next → HaveLanes next.state.frames
called_behind history w compiled words sound next e =
    let runnable = sound.lie.compiled_is.runnable in
    step_called (variables_of compiled) runnable.most (program_of compiled) runnable.well_scoped (regions_in history w words) w sound.masked next sound.shown.shows sound.shown.declared e sound.called
