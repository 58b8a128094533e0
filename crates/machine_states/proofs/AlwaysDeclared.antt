-- Where a program stands, each variable that its next step names and that is in scope there is declared.
use Rattle.std.proofs.Common.{◌≡◌, refl, sym, ap, ◌∙◌, subst, ℕ, zero, suc, ◌-◌, ◌<◌, ◌≤◌, true, false, List, [], ◌∷◌, ◌++◌, length, replicate, get_or-take, slice_get, slice_index_or, Option, Some, None, arith}
use Rattle.std.specs.Prelude.{All, drop, take}
use Rattle.gang_types.specs.declared.types.Rate.{Rate}
use Rattle.gang_types.specs.declared.types.Rate.TheVariants.{Uniform, Varying}
use Rattle.gang_types.specs.declared.places.VarId.{VarId}
use Rattle.gang_types.specs.declared.places.VarId.TheVariants.{File, Local}
use Rattle.gang_types.specs.Lanes.{has}
use Rattle.gang_model.specs.Types.Tree.{StepNumber, Var, Nothing, Variable, Standing, Function, Program}
use Rattle.gang_model.specs.Running.Lanes.{at}
use Rattle.gang_model.specs.Running.State.{Store, Frame, words_of, words_in, with_words, with_var, with_words_in}
use Rattle.gang_model.specs.Running.RunningOrder.{IsNumberedProgram}
use Rattle.gang_model.specs.Running.Step.{new_frame}
use Rattle.gang_model.specs.Debugger.Events.{Poked, WholeOf, LaneOf, ElementAt, InFrame, Given, Row, started, poked, with_rows}
use Rattle.gang_model.specs.Debugger.Frames.{state_at}
use Rattle.mask_states.specs.Points.{Point}
use Rattle.mask_states.specs.Masked.{Level, Masked, entered_body}
use Rattle.mask_states.specs.MaskedStep.{untasked, entered_levels, masked_start}
use Rattle.machine_states.specs.Variables.{Variables, own_of, variable_of, rate_of, IsScalar}
use Rattle.machine_states.specs.WellScoped.{IsWellScopedProgram}
use Rattle.machine_states.specs.Regions.{OfFile, OfLocal, Regions}
use Rattle.machine_states.specs.Declared.{IsThere, scalar_parameters, declared_before, AreDeclaredFirst, has_entry, HasAll, IsAwaited, FrameDeclared, FramesDeclared, AreDeclared}
use Rattle.machine_states.specs.Shows.{IsScalarIn, ShowsLocal, Shows}
use Rattle.machine_states.specs.Effects.{region_of}
use Rattle.machine_states.specs.Steps.{IsNext}
use Rattle.machine_states.proofs.Beginnings.{nothing_given}
use Rattle.machine_states.proofs.ReadValues.{AreReadAlike}
use Rattle.machine_states.proofs.DeclaredNames.{NamesBefore, point_names}
use Rattle.machine_states.proofs.StoreEntries.{with_words_keeps, has_all_kept}
use Rattle.machine_states.proofs.AwaitedLevels.{levels_kept}
use Rattle.machine_states.proofs.DeclaredSteps.{frame_declared, entered_awaited}
use Rattle.machine_states.proofs.TopFrame.{awaited, top_frame}

-- ---- the start

all_lanes : (width : ℕ) → 0 < width → has (replicate width true) 0 ≡ true
all_lanes zero h = absurd (omega (arith, h))
all_lanes (suc width) h = refl

some_lanes : (width : ℕ) → 0 < width → 0 < length (replicate width true)
some_lanes zero h = absurd (omega (arith, h))
some_lanes (suc width) h = omega arith

module _ (variables : Variables) (most : ℕ) (p : Program) (well_scoped : IsWellScopedProgram variables most p) (numbered : IsNumberedProgram p) where
  -- an entry begins with its scalar parameters
  pub start_declared : (entry width : ℕ) (rows : List Row) (f : Function) → slice_get p.functions entry ≡ Some f → 0 < width
      → HasAll (scalar_parameters variables entry) (with_rows rows (nothing_given p width)).passed.vars → AreDeclared variables p (masked_start p entry rows width)
  start_declared entry width rows f is wide given_all =
      let given : Given = with_rows rows (nothing_given p width) in
      let begun = entered_awaited variables most p well_scoped numbered entry f is given.passed.vars given_all (replicate width true) 0 (all_lanes width wide) (some_lanes width wide) in
      subst (λ o. FramesDeclared variables p (untasked (started o entry width given)).frames (entered_levels o (replicate width true))) (sym is)
      (frame_declared variables most p well_scoped numbered (new_frame entry f (replicate width true) None Nothing given.passed) (entered_body f (replicate width true) ∷ []) entry f is refl begun, tt)

-- ---- pokes

module _ (variables : Variables) (p : Program) where
  frame_kept : (frame : Frame) (v : VarId) (words : List ℕ) (levels : List Level) → FrameDeclared variables p frame levels → FrameDeclared variables p (with_var v words frame) levels
  frame_kept frame v words levels h f is =
      let more : Store = with_words frame.vars v words in
      levels_kept (IsAwaited variables frame.function f frame.vars) (IsAwaited variables frame.function f more) f
      (λ depth number awaited. record {
        has_all = has_all_kept (declared_before variables frame.function f number) frame.vars more (with_words_keeps frame.vars v words) awaited.has_all;
        nested = awaited.nested;
      }) levels (h f is)

  words_declared : (memory : Store) (frames : List Frame) (levels : List (List Level)) (v : VarId) (words : List ℕ) → FramesDeclared variables p frames levels
      → FramesDeclared variables p (with_words_in (record { memory = memory; frames = frames }) v words).frames levels
  words_declared memory frames levels (File n) words h = h
  words_declared memory [] levels (Local n) words h = tt
  words_declared memory (frame ∷ frames) [] (Local n) words h = tt
  words_declared memory (frame ∷ frames) (levels ∷ rest) (Local n) words h = (frame_kept frame (Local n) words levels h.0, h.1)

  -- frames under others have what is declared where those under them do
  declared_under : (n : ℕ) (frames below : List Frame) (levels : List (List Level)) → n ≤ length frames → FramesDeclared variables p frames levels
      → (FramesDeclared variables p (drop n frames) (drop n levels) → FramesDeclared variables p below (drop n levels)) → FramesDeclared variables p (take n frames ++ below) levels
  declared_under zero frames below levels most h k = k h
  declared_under (suc n) [] below levels most h k = absurd (omega (arith, most))
  declared_under (suc n) (frame ∷ frames) below [] most h k = tt
  declared_under (suc n) (frame ∷ frames) below (level ∷ levels) most h k = (h.0, declared_under n frames below levels (omega (arith, most)) h.1 k)

  -- a poke keeps what is declared
  pub poked_declared : (masked : Masked) (what : Poked) (word : ℕ) → AreDeclared variables p masked → AreDeclared variables p (record masked { state = poked what word masked.state })
  poked_declared masked (WholeOf v) word h = words_declared masked.state.memory masked.state.frames masked.levels v _ h
  poked_declared masked (LaneOf v k) word h = words_declared masked.state.memory masked.state.frames masked.levels v _ h
  poked_declared masked (ElementAt v k) word h = h
  poked_declared masked (InFrame deep what) word h =
      let n = length masked.state.frames - deep in
      let below : Masked = record { state = state_at deep masked.state; levels = drop n masked.levels } in
      declared_under n masked.state.frames (poked what word below.state).frames masked.levels (omega arith) h (λ d. poked_declared below what word d)

-- ---- the next step

-- the top frame has all that is declared before its next step
pub record TopDeclared (variables : Variables) (w : ℕ) (regions : Regions) (masked : Masked) (index n : ℕ) (f : Function) (number : StepNumber) : Type 0 where
  pub frame : Frame
  pub frames : List Frame
  pub are : masked.state.frames ≡ frame ∷ frames
  pub height : length frames ≡ index
  pub function : frame.function ≡ n
  pub locals : (k : ℕ) → ShowsLocal variables w regions index frame k
  pub has_all : HasAll (declared_before variables n f number) frame.vars

module _ (variables : Variables) (p : Program) (w : ℕ) (regions : Regions) (index level n : ℕ) (f : Function) (number : StepNumber) (point : Option Point) (next : IsNext p w regions index level n f number point) where
  pub top_declared : (masked : Masked) → Shows p variables w regions masked → AreDeclared variables p masked → TopDeclared variables w regions masked index n f number
  top_declared masked shown h =
      let t = top_frame p variables w regions masked shown index level n f number point next in
      record {
        frame = t.frame;
        frames = t.others;
        are = t.frames_are;
        height = t.height;
        function = t.function;
        locals = t.shown.locals;
        has_all = (awaited p variables w regions masked shown index level n f number point next h).has_all;
      }

module _ (variables : Variables) (p : Program) (numbered : IsNumberedProgram p) (first : AreDeclaredFirst variables p) (regions : Regions) (index level n : ℕ) (f : Function) (number : StepNumber) where
  -- what the point of the next step names is declared before it
  pub next_names : {w : ℕ} → (point : Point) → IsNext p w regions index level n f number (Some point) → NamesBefore (declared_before variables n f) number point
  next_names point next =
      point_names variables n f (numbered n f next.is_function) (first n f next.is_function) number point next.is_point

-- a frame has a variable, if it is one of its own
abbrev pub HasOwn : Store → VarId → Type 0
HasOwn store v = (k : ℕ) → v ≡ Local k → has_entry store (Local k) ≡ true

pub there_has : (d : List ℕ) (store : Store) (v : VarId) → HasAll d store → IsThere d v → HasOwn store v
there_has d store v h there k same = h k (subst (IsThere d) same there)

-- the top frame has each scalar that is in scope at the next step, also at the closing brace
pub scope_has : (variables : Variables) (p : Program) → AreDeclaredFirst variables p → (w : ℕ) (regions : Regions) (masked : Masked) (index n : ℕ) (f : Function) (number : StepNumber)
    → slice_get p.functions n ≡ Some f → (top : TopDeclared variables w regions masked index n f number) → (standing : Standing) → slice_get f.standings number ≡ Some standing
    → All (λ v. v.is_array ≡ false → HasOwn top.frame.vars v.id) standing.scope
scope_has variables p first w regions masked index n f number is top standing e k v within scalar =
    there_has (declared_before variables n f number) top.frame.vars (slice_index_or standing.scope k v).id top.has_all ((first n f is).scopes number standing e k v within scalar)

-- ---- words

taken_alike : (w : ℕ) (rate : Rate) (words region : List ℕ) → IsScalarIn w rate words region → AreReadAlike w rate words region
taken_alike w Uniform words region s = ap (λ ws. at ws 0) s.stands ∙ get_or-take 1 region 0 0 (omega arith)
taken_alike w Varying words region s = λ k within. ap (λ ws. at ws k) s.stands ∙ get_or-take w region k 0 within

-- lanes read the words of a variable that is declared in its region
module _ (variables : Variables) (p : Program) (w : ℕ) (regions : Regions) (masked : Masked) (index n : ℕ) (f : Function) (number : StepNumber)
    (shown : Shows p variables w regions masked) (top : TopDeclared variables w regions masked index n f number) where
  scalar_rate : (k : ℕ) (rate : Rate) (v : Variable) → slice_get (own_of variables n) k ≡ Some v → v.rate ≡ rate → rate_of (slice_get (own_of variables n) k) ≡ rate
  scalar_rate k rate v e same = ap rate_of e ∙ same

  own_alike : (k : ℕ) (rate : Rate) → has_entry top.frame.vars (Local k) ≡ true → rate_of (slice_get (own_of variables n) k) ≡ rate
      → AreReadAlike w rate (words_of top.frame.vars (Local k)) (regions (OfLocal index k))
  own_alike k rate has same =
      taken_alike w rate (words_of top.frame.vars (Local k)) (regions (OfLocal index k))
      (subst (λ r. IsScalarIn w r (words_of top.frame.vars (Local k)) (regions (OfLocal index k)))
      (ap (λ m. rate_of (slice_get (own_of variables m) k)) top.function ∙ same) (top.locals k has))

  same_alike : (rate : Rate) (words region : List ℕ) → words ≡ region → AreReadAlike w rate words region
  same_alike Uniform words region e = ap (λ ws. at ws 0) e
  same_alike Varying words region e = λ k within. ap (λ ws. at ws k) e

  by_id : (id : VarId) (rate : Rate) (v : Variable) → variable_of variables n id ≡ Some v → v.rate ≡ rate → IsThere (declared_before variables n f number) id
      → AreReadAlike w rate (words_in (record { memory = masked.state.memory; frames = top.frame ∷ top.frames }) id) (regions (region_of index id))
  by_id (File k) rate v e same there = same_alike rate (words_of masked.state.memory (File k)) (regions (OfFile k)) (shown.memory (File k))
  by_id (Local k) rate v e same there = own_alike k rate (top.has_all k there) (scalar_rate k rate v e same)

  pub read_alike : (x : Var) → IsScalar variables n x → IsThere (declared_before variables n f number) x.id → AreReadAlike w x.rate (words_in masked.state x.id) (regions (region_of index x.id))
  read_alike x scalar there =
      let state_is : record { memory = masked.state.memory; frames = top.frame ∷ top.frames } ≡ masked.state =
      ap (λ frames. record { memory = masked.state.memory; frames = frames }) (sym top.are) in
      subst (λ s. AreReadAlike w x.rate (words_in s x.id) (regions (region_of index x.id))) state_is
      (by_id x.id x.rate scalar.0 scalar.1 (ap (λ y. y.rate) (sym scalar.3)) there)
