-- What is in scope where a machine and its frames stand, and the words of each variable that is seen.
use Rattle.std.proofs.Common.{◌≡◌, refl, sym, ap, subst, ◌∙◌, ℕ, ◌⊎◌, inl, inr, false, List, [], ◌∷◌, length, map, Option, Some, None}
use Rattle.std.specs.Prelude.{All, slice_get, if◌then◌else◌}
use Rattle.std.proofs.lemmas.Option.{get_or_from_slice_get, none-some, slice_get_within}
use Rattle.undo_log.specs.History.{History}
use Rattle.gang_types.specs.declared.places.Spot.{Spot}
use Rattle.gang_types.specs.declared.places.VarId.TheVariants.{File, Local}
use Rattle.gang_model.specs.Types.Tree as t
use Rattle.gang_model.specs.Types.Tree.{Function, Standing, StepNumber, Variable}
use Rattle.gang_model.specs.Running.RunningOrder.{IsNumberedProgram}
use Rattle.gang_model.specs.Running.State.{Frame, view_of as array_of, words_in, words_for}
use Rattle.gang_model.specs.Debugger.Debugger.{Debugger, Setting, elements, now, shown_words}
use Rattle.gang_model.specs.Debugger.Positions.{scope_now, scope_of, spot_in, standing_in, standing_of}
use Rattle.debug_traits.specs.Frames.{scope_at, state_at}
use Rattle.debug_traits.specs.Machines.{IsOneOf, file_variables as variables_of_file}
use Rattle.typed_tree.specs.declared.program.Function.{Function as TypedFunction}
use Rattle.typed_tree.specs.declared.program.Global.{Global}
use Rattle.typed_tree.specs.Views.{function_view, variable_view}
use Rattle.mask_states.specs.Points.{points_in}
use Rattle.mask_states.specs.Masked.{Level, Masked, masked_spot, top_spot}
use Rattle.codegen.specs.Programs.{IsRunnable}
use Rattle.machine_states.specs.Declared.{AreDeclared}
use Rattle.machine_states.specs.WellScoped.{IsWellScopedName}
use Rattle.machine_states.specs.Regions.{Depth, Regions}
use Rattle.machine_states.specs.Shows.{AreSized, Shows, ShowsFrames}
use Rattle.machine_states.specs.Steps.{IsNext as IsNextStep, least_in}
use Rattle.machine_states.specs.Variables.{Variables, own_of}
use Rattle.machine_states.proofs.AlwaysDeclared.{HasOwn, scope_has, top_declared}
use Rattle.machine_states.proofs.DeclaredLists.{same_some}
use Rattle.machine_states.proofs.TopFrame.{spot}
use Rattle.machine_states.proofs.WrittenVariables.{HasVariable, variable_in}
use Rattle.machine_words.specs.declared.words.MachineWords.{MachineWords}
use Rattle.machine_words.specs.Words.{regions_in}
use Rattle.frame_steps.specs.declared.compiled.CompiledProgram.{CompiledProgram}
use Rattle.frame_steps.specs.Compiled.{program_of, variables_of}
use Rattle.frame_steps.specs.Standing.{IsShown}
use Rattle.frame_steps.proofs.FrameLevels.{innermost_there}
use Rattle.frame_steps.proofs.Standings.{sized}
use Rattle.machine_shown.specs.Frames.{masked_spot_at, masked_up_to, regions_up_to}
use Rattle.machine_shown.specs.Seen.{IsInScope, IsInScopeOf, IsSeen, IsSeenAt, IsSeenOf, StandsAt}
use Rattle.machine_shown.proofs.FramePlaces.{declared_up_to, shows_up_to, sized_up_to, spot_up_to}
use Rattle.machine_shown.proofs.Viewed.{viewed_at}
use Rattle.machine_names.specs.Found.{file_variables}
use Rattle.gang_machine.specs.Machines.{IsMachine}
use Rattle.gang_machine.specs.Nexts.{HasNoFrame, IsPlace, Sees}
use Rattle.gang_machine.specs.Standings.{SeenStands, view_of}
use Rattle.gang_machine.proofs.Agreeing.{masked_now, shown_are, standing_is}
use Rattle.gang_machine.proofs.FrameViews.{shown_at_are, spot_at_is, standing_at_is}

-- ---- the next step

-- a step of the top frame comes next
record HasNext (p : t.Program) (w : ℕ) (regions : Regions) : Type 0 where
  pub index : ℕ
  pub level : ℕ
  pub function : ℕ
  pub f : Function
  pub number : StepNumber
  pub next : IsNextStep p w regions index level function f number (slice_get (points_in f) number)

module _ (p : t.Program) (variables : Variables) (numbered : IsNumberedProgram p) (w : ℕ) (regions : Regions) where
  next_of : (frames : List Frame) (levels : List (List Level)) → regions Depth ≡ length frames ∷ [] → ShowsFrames p variables w regions frames levels
      → (top_spot frames levels ≡ None) ⊎ HasNext p w regions
  next_of [] levels deep shows = inl refl
  next_of (frame ∷ frames) [] deep shows = absurd shows
  next_of (frame ∷ frames) (levels ∷ rest) deep shows =
      let f = shows.0.function in
      let inner = innermost_there p variables w regions (length frames) frame levels numbered shows.0 in
      inr (record {
        index = length frames;
        level = inner.0;
        function = frame.function;
        f = f;
        number = least_in regions (length frames) f inner.0;
        next = record {
          depth = deep;
          function = shows.0.number;
          is_function = shows.0.is_function;
          innermost = inner.1;
          least_number = refl;
          is_point = refl;
        };
      })

  -- a program that has not ended has a next step
  next_or_ended : (masked : Masked) → Shows p variables w regions masked → (masked_spot masked ≡ None) ⊎ HasNext p w regions
  next_or_ended masked shows = next_of masked.state.frames masked.levels shows.depth shows.frames

-- ---- variables that are seen

module _ (w : ℕ) (compiled : CompiledProgram) (runnable : IsRunnable compiled.program) (masked : Masked) where
  -- a name in scope stands for a variable of its function
  pub in_scope : (function number : ℕ) (f : Function) (standing : Standing) → StandsAt compiled function number f standing → (k : ℕ) (v : Variable) → slice_get standing.scope k ≡ Some v
      → IsWellScopedName (variables_of compiled) function v
  in_scope function number f standing stands k v e =
      let scopes : All (IsWellScopedName (variables_of compiled) function) standing.scope = (runnable.well_scoped.functions function f stands.is_function).scopes number standing stands.stands in
      subst (IsWellScopedName (variables_of compiled) function) (get_or_from_slice_get standing.scope k v v e) (scopes k v (slice_get_within standing.scope k v e))

  module _ (regions : Regions) (shows : Shows (program_of compiled) (variables_of compiled) w regions masked) (declared : AreDeclared (variables_of compiled) (program_of compiled) masked)
      (sizes : AreSized (variables_of compiled) w regions) where
    scope_long : (v : Variable) → v.is_array ≡ false → IsInScope compiled masked v → (masked_spot masked ≡ None) ⊎ HasNext (program_of compiled) w regions → length (words_in masked.state v.id) ≡ words_for w v.rate
    scope_long v scalar (function, number, f, standing, at_spot, stands, k, e) (inl ended) = absurd (none-some (spot_in function number) (sym ended ∙ at_spot))
    scope_long v scalar (function, number, f, standing, at_spot, stands, k, e) (inr has) =
        let p = program_of compiled in
        let variables = variables_of compiled in
        let point = slice_get (points_in has.f) has.number in
        let here = same_some (spot_in function number) (spot_in has.function has.number)
        (sym at_spot ∙ spot p variables w regions masked shows has.index has.level has.function has.f has.number point has.next) in
        let same_function : function ≡ has.function = ap (λ s. s.function.0) here in
        let same_number : number ≡ has.number = ap (λ s. s.number) here in
        let same : f ≡ has.f = same_some f has.f (sym stands.is_function ∙ ap (slice_get p.functions) same_function ∙ has.next.is_function) in
        let top = top_declared variables p w regions has.index has.level has.function has.f has.number point has.next masked shows declared in
        let standing_there : slice_get has.f.standings has.number ≡ Some standing =
        ap (λ h. slice_get h.standings has.number) (sym same) ∙ ap (slice_get f.standings) (sym same_number) ∙ stands.stands in
        let all = scope_has variables p runnable.declared w regions masked has.index has.function has.f has.number has.next.is_function top standing standing_there in
        let well_scoped = in_scope function number f standing stands k v e in
        let j = well_scoped.0 in
        let own : HasOwn top.frame.vars v.id =
        subst (λ (u : Variable). u.is_array ≡ false → HasOwn top.frame.vars u.id) (get_or_from_slice_get standing.scope k v v e) (all k v (slice_get_within standing.scope k v e)) scalar in
        let id : v.id ≡ Local j = runnable.well_scoped.own function j v well_scoped.1 in
        let is : slice_get (own_of variables has.function) j ≡ Some v = ap (λ m. slice_get (own_of variables m) j) (sym same_function) ∙ well_scoped.1 in
        let there : HasVariable masked.state.frames (Local j) = subst (λ frames. HasVariable frames (Local j)) (sym top.are) (own j id) in
        ap (λ i. length (words_in masked.state i)) id
        ∙ (variable_in p variables w has.index has.function regions masked shows has.next.depth has.next.function sizes (Local j) v is scalar there).long

    -- a scalar has as many words as its rate says
    pub seen_long : (v : Variable) → v.is_array ≡ false → IsSeen compiled masked v → length (words_in masked.state v.id) ≡ words_for w v.rate
    seen_long v scalar (inl scope) = scope_long v scalar scope (next_or_ended (program_of compiled) (variables_of compiled) runnable.lowerable.numbered w regions masked shows)
    seen_long v scalar (inr (k, is)) =
        ap (λ i. length (words_in masked.state i)) (runnable.well_scoped.file k v is)
        ∙ ap length (shows.memory (File k)) ∙ sizes.file k v is scalar

-- the variables of the file are those of the globals
pub file_same : (globals : List Global) → file_variables globals ≡ map (λ g. variable_view g.variable) globals
file_same [] = refl
file_same (global ∷ globals) = ap (λ vs. variable_view global.variable ∷ vs) (file_same globals)

-- ---- where a machine stands

module _ {T : Type 0} (history : T → History) (w entry : ℕ) (compiled : CompiledProgram) (lines : List ℕ) (words : MachineWords T) (is_machine : IsMachine history w compiled words) (s : Setting) (d : Debugger)
    (stands : SeenStands (view_of w entry compiled.program lines words.layout (history words.store.timeline)) s d) where
  abbrev runnable : IsRunnable compiled.program
  runnable = is_machine.lie.compiled_is.runnable

  abbrev masked : Masked
  masked = masked_now w entry compiled.program lines words.layout (history words.store.timeline) runnable.lowerable s d stands

  pub shown_here : IsShown history w compiled words masked
  shown_here = record { shows = stands.words.shows; declared = stands.words.declared }

  pub file_here : variables_of_file s ≡ file_variables compiled.program.globals.items
  file_here = ap (λ (q : t.Program). map (λ g. g.variable) q.globals) stands.program

  -- ---- what is seen

  scope_in_step : (function number : ℕ) (f : Function) → slice_get (program_of compiled).functions function ≡ Some f → (o : Option Standing) → slice_get f.standings number ≡ o
      → (v : Variable) (k : ℕ) → slice_get (scope_of o) k ≡ Some v → IsInScopeOf compiled (Some (spot_in function number)) v
  scope_in_step function number f is_function None none v k e = cc
  scope_in_step function number f is_function (Some standing) is v k e = (function, number, f, standing, refl, record { is_function = is_function; stands = is }, k, e)

  scope_in_function : (function number : ℕ) (o : Option Function) → slice_get (program_of compiled).functions function ≡ o
      → (v : Variable) (k : ℕ) → slice_get (scope_of (standing_in o number)) k ≡ Some v → IsInScopeOf compiled (Some (spot_in function number)) v
  scope_in_function function number None none v k e = cc
  scope_in_function function number (Some f) is v k e = scope_in_step function number f is (slice_get f.standings number) refl v k e

  scope_in : (spot : Option Spot) (v : Variable) (k : ℕ) → slice_get (scope_of (standing_of (program_of compiled) spot)) k ≡ Some v → IsInScopeOf compiled spot v
  scope_in None v k e = cc
  scope_in (Some spot) v k e = scope_in_function spot.function.0 spot.number (slice_get (program_of compiled).functions spot.function.0) refl v k e

  seen_there : (here : Option Spot) (scope : List Variable) → scope ≡ scope_of (standing_of (program_of compiled) here) → (v : Variable) → IsOneOf scope v ⊎ IsOneOf (variables_of_file s) v
      → IsSeenOf compiled here v
  seen_there here scope is v (inl (k, e)) = inl (scope_in here v k (ap (λ vs. slice_get vs k) (sym is) ∙ e))
  seen_there here scope is v (inr (k, e)) = inr (k, ap (λ vs. slice_get vs k) (sym (file_here ∙ file_same compiled.program.globals.items)) ∙ e)

  -- a variable in scope, or of the file, is seen
  pub is_seen : (v : Variable) → IsOneOf (scope_now s.program (now s d)) v ⊎ IsOneOf (variables_of_file s) v → IsSeen compiled masked v
  is_seen v there =
      seen_there (masked_spot masked) (scope_now s.program (now s d))
      (ap scope_of (standing_is w entry compiled.program lines words.layout (history words.store.timeline) runnable.lowerable s d stands (masked_spot masked) refl)) v there

  -- what is shown of it is what is shown of the masked state
  pub shown_same : (v : Variable) → shown_words (now s d) v ≡ shown_words masked.state v
  shown_same v = shown_are w entry compiled.program lines words.layout (history words.store.timeline) runnable.lowerable s d stands v

  -- ---- the frame at a depth

  module _ (deep : ℕ) where
    -- a variable in scope there, or of the file, is seen
    pub is_seen_at : (v : Variable) → IsOneOf (scope_at s.program deep (now s d)) v ⊎ IsOneOf (variables_of_file s) v → IsSeenAt compiled deep masked v
    is_seen_at v there =
        seen_there (masked_spot_at deep masked) (scope_at s.program deep (now s d))
        (ap scope_of (standing_at_is w entry compiled.program lines words.layout (history words.store.timeline) runnable.lowerable s d stands deep (masked_spot_at deep masked) refl)) v there

    pub shown_same_at : (v : Variable) → shown_words (state_at deep (now s d)) v ≡ shown_words (state_at deep masked.state) v
    shown_same_at v = shown_at_are w entry compiled.program lines words.layout (history words.store.timeline) runnable.lowerable s d stands deep v

    pub shown_long : (v : Variable) → v.is_array ≡ false → IsSeenAt compiled deep masked v → length (shown_words (state_at deep (now s d)) v) ≡ words_for w v.rate
    shown_long v scalar seen =
        let p = program_of compiled in
        let variables = variables_of compiled in
        let regions = regions_in history w words in
        let shows = shown_here.shows in
        ap length (shown_same_at v)
        ∙ ap (λ b. length (if b then elements (array_of (state_at deep masked.state) v.id) (state_at deep masked.state) else words_in (state_at deep masked.state) v.id)) scalar
        ∙ seen_long w compiled runnable (masked_up_to deep masked) (regions_up_to deep regions) (shows_up_to p variables w regions masked shows deep)
        (declared_up_to p variables w regions masked shows deep shown_here.declared)
        (sized_up_to p variables w regions masked shows deep (sized history w compiled words words is_machine.lie refl is_machine.lie.laid)) v scalar
        (subst (λ (spot : Option Spot). IsSeenOf compiled spot v) (spot_up_to p variables w regions masked shows deep) seen)

    -- what a debugger sees
    sees : (scope : List Variable) → scope_at s.program deep (now s d) ≡ scope → Sees scope (file_variables compiled.program.globals.items) s d deep
    sees scope is = record { scope_is = is; file_is = file_here }

    -- at a step of one of the program's functions
    pub is_place : (number step : ℕ) (function : TypedFunction) → slice_get compiled.program.functions.items number ≡ Some function → masked_spot_at deep masked ≡ Some (spot_in number step)
        → IsPlace (view_of w entry compiled.program lines words.layout (history words.store.timeline)) s d deep function step
    is_place number step function is_function at_spot = record {
      number = number;
      is_function = is_function;
      stands = spot_at_is w entry compiled.program lines words.layout (history words.store.timeline) runnable.lowerable s d stands deep ∙ at_spot;
      sees = sees (scope_of (slice_get (function_view function).standings step))
          (ap scope_of (standing_at_is w entry compiled.program lines words.layout (history words.store.timeline) runnable.lowerable s d stands deep (Some (spot_in number step)) at_spot)
          ∙ ap (λ o. scope_of (standing_in o step)) (viewed_at function_view compiled.program.functions.items number function is_function));
    }

    -- and where there is no frame
    pub has_no_frame : masked_spot_at deep masked ≡ None → HasNoFrame (view_of w entry compiled.program lines words.layout (history words.store.timeline)) s d deep
    has_no_frame none = record {
      stands = spot_at_is w entry compiled.program lines words.layout (history words.store.timeline) runnable.lowerable s d stands deep ∙ none;
      sees = sees [] (ap scope_of (standing_at_is w entry compiled.program lines words.layout (history words.store.timeline) runnable.lowerable s d stands deep None none));
    }
