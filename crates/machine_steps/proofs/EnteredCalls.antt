-- A call: its arguments have values, its parameters are those of the function that is called, and its frame begins.
use Rattle.std.proofs.Common.{◌≡◌, refl, sym, ap, ◌∙◌, subst, ℕ, zero, suc, ◌+◌, ◌*◌, ◌<◌, ◌≤◌, false, List, [], ◌∷◌, length, Option, Some, None, Vec, Global, add-one, zero-add, arith}
use Rattle.std.specs.Prelude.{Ok, Err, ◌==◌, nat_lt, slice_get}
use Rattle.std.proofs.lemmas.Bool.{and_left, ne_eqb}
use Rattle.std.proofs.lemmas.Option.{none-some, same_Some, slice_get_within}
use Rattle.gang_types.specs.declared.places.VarId.{VarId}
use Rattle.gang_types.specs.declared.places.VarId.TheVariants.{File, Local}
use Rattle.gang_types.specs.declared.faults.FaultName.TheVariants.{CallDepth}
use Rattle.gang_types.specs.Lanes.{Lanes, lowest, no_lane}
use Rattle.gang_types.specs.Masks.{lanes_of}
use Rattle.gang_model.specs.Types.Tree.{Arg, Expr, Value, Array, Function, Program, ResultFor}
use Rattle.gang_model.specs.Running.Lanes.{Fault as ModelFault}
use Rattle.gang_model.specs.Running.State.{State, declared_words, words_of}
use Rattle.gang_model.specs.Running.Step.{Passed, passed}
use Rattle.undo_log.specs.History.{History}
use Rattle.undo_log.specs.declared.timeline.Undone.TheVariants as undone
use Rattle.typed_tree.specs.declared.statements.ResultFor.{ResultFor as TypedResultFor}
use Rattle.typed_tree.specs.Views.{result_view}
use Rattle.mask_states.specs.Masked.{Masked}
use Rattle.mask_states.specs.Points.{Enter}
use Rattle.mask_states.proofs.EnterPoints.{entered_function}
use Rattle.machine_states.specs.ArrayParts.{IsInside, array_region, view_kept, view_of_words}
use Rattle.machine_states.specs.Effects.{declared_region}
use Rattle.machine_states.specs.WellScoped.{ArgsWellScoped, CallWellScoped, IsWellScopedProgram}
use Rattle.machine_states.specs.Regions.{OfEntry, OfFile, OfHead, OfLocal, Regions}
use Rattle.machine_states.specs.Shows.{IsScalarIn, ShowsView}
use Rattle.machine_states.specs.Steps.{AreSameBelow, FailsWith, IsBegun, waiting_in}
use Rattle.machine_states.specs.Variables.{IsArray, Variables, own_of, rate_of}
use Rattle.machine_states.proofs.CallSteps.{enters, fails, too_deep}
use Rattle.machine_states.proofs.ScalarRegions.{declared_stands}
use Rattle.codegen.specs.Codes.{Fit, IsArg, IsOptionValue, IsValue}
use Rattle.codegen.specs.declared.code.ArgCode.{ArgCode}
use Rattle.codegen.specs.declared.code.ArgCode.TheVariants as arg
use Rattle.codegen.specs.declared.code.StepCode.TheVariants as code
use Rattle.machine_words.specs.declared.words.MachineWords.{MachineWords}
use Rattle.machine_words.specs.Words.{AreLaid, left_of, regions_in}
use Rattle.frame_steps.specs.declared.active.Active.{Active}
use Rattle.frame_steps.specs.declared.compiled.CompiledProgram.{CompiledProgram}
use Rattle.frame_steps.specs.Compiled.{IsCompiled, function_of, program_of, variables_of}
use Rattle.frame_steps.specs.Parts.{HasNextPoint, IsIndexAt}
use Rattle.frame_steps.specs.Standing.{AreSound, Begins, DoesNext, EndsAs, IsActive, IsShown, IsValueAt, event_room}
use Rattle.codegen.proofs.Rows.{fit_long}
use Rattle.frame_steps.proofs.FunctionCode.{fit_at}
use Rattle.frame_steps.proofs.GangLanes.{gang_wide}
use Rattle.frame_steps.proofs.Standings.{begun_laid, begun_regions, frame_below, lanes_long, own_sized, some_active, step_within}
use Rattle.frame_steps.proofs.StepValues.{IsArgumentOf, active_well_scoped, enters_at, value_at}
use Rattle.machine_steps.specs.Calls.{AreArgumentWords, AreParametersDeclared, BeginsFrame, IsArgumentAt}
use Rattle.machine_states.proofs.Elements.{item_at}
use Rattle.machine_states.proofs.KeptViews.{kept_whole}
use Rattle.machine_steps.proofs.OwnParameters.{argument_region, array_in, array_there, made_region, own_of_argument, parameter_in}
use Rattle.machine_steps.proofs.PassedArguments.{all_passed, passed_with}

-- ---- arguments

fit_each : {A B : Type 0} (P Q : A → B → Type 0) (xs : List A) (ys : List B) → Fit P xs ys → ((k : ℕ) (x : A) (y : B) → slice_get ys k ≡ Some y → P x y → Q x y) → Fit Q xs ys
fit_each P Q [] [] h go = tt
fit_each P Q [] (y ∷ ys) h go = absurd h
fit_each P Q (x ∷ xs) [] h go = absurd h
fit_each P Q (x ∷ xs) (y ∷ ys) h go = (go 0 x y refl h.0, fit_each P Q xs ys h.1 (λ k. go (suc k)))

-- an argument that is an array is one of the function's or the file's
abbrev PassesArray : Variables → (function : ℕ) → Arg → Type 0
PassesArray variables n (Value x e) = Unit {0}
PassesArray variables n (Array parameter array from) = IsArray variables n array

passes_array : (variables : Variables) (n called first : ℕ) (meant : List Arg) → ArgsWellScoped variables n called first meant → (k : ℕ) (y : Arg) → slice_get meant k ≡ Some y → PassesArray variables n y
passes_array variables n called first [] well_scoped k y is = absurd (none-some y is)
passes_array variables n called first (Value x e ∷ meant) well_scoped zero y is = subst (PassesArray variables n) (same_Some (Value x e) y is) tt
passes_array variables n called first (Array parameter array from ∷ meant) well_scoped zero y is = subst (PassesArray variables n) (same_Some (Array parameter array from) y is) well_scoped.1
passes_array variables n called first (Value x e ∷ meant) well_scoped (suc k) y is = passes_array variables n called (suc first) meant well_scoped.2 k y is
passes_array variables n called first (Array parameter array from ∷ meant) well_scoped (suc k) y is = passes_array variables n called (suc first) meant well_scoped.3 k y is

module _ (width : ℕ) (compiled : CompiledProgram) (regions : Regions) (active : Active) where
  -- what the code of an expression computes, if the next step may have it
  abbrev ComputesEach : (IsOne : Expr → Type 0) → Type 0
  ComputesEach IsOne = (e : Expr) (code : List _) → IsOne e → IsValue e code → IsValueAt width compiled regions active e code

  index_at : (index : Option Expr) (from : Option (Vec _ Global)) → ComputesEach (λ e. index ≡ Some e) → IsOptionValue index from → IsIndexAt width compiled regions active index from
  index_at None None each is = tt
  index_at (Some e) (Some code) each is = each e code.items refl is
  index_at None (Some code) each is = absurd is
  index_at (Some e) None each is = absurd is

  argument_at : (made : ArgCode) (y : Arg) → ComputesEach (IsArgumentOf y) → PassesArray (variables_of compiled) active.function y → IsArg made y → IsArgumentAt width compiled regions active made y
  argument_at (arg.Value parameter code) (Value x e) each array is = (is.0, each e code.items refl is.1)
  argument_at (arg.Array array from) (Array parameter named index) each there is =
      (is.0, subst (IsArray (variables_of compiled) active.function) is.0 there, index_at index from each is.1)
  argument_at (arg.Value parameter code) (Array own named index) each array is = absurd is
  argument_at (arg.Array array from) (Value x e) each there is = absurd is

module _ (width : ℕ) (compiled : CompiledProgram) (is : IsCompiled compiled) (regions : Regions) (active : Active) (f : Function) (called : ℕ) (meant : List Arg) (for : ResultFor) (next : ℕ)
    (at : IsActive width compiled regions active f (Some (Enter called meant for next))) where
  pub call_well_scoped : CallWellScoped (variables_of compiled) active.function called meant
  call_well_scoped = (active_well_scoped width compiled is regions active f (Enter called meant for next) at).0

  pub called_there : (g : Function) × (function_of compiled called ≡ Some g)
  called_there =
      entered_function (program_of compiled) is.runnable.lowerable active.function f at.next.is_function active.step called meant for next at.next.is_point

  module _ (args : List ArgCode) (fits : Fit IsArg args meant) where
    pub arguments_fit : Fit (IsArgumentAt width compiled regions active) args meant
    arguments_fit =
        fit_each IsArg (IsArgumentAt width compiled regions active) args meant fits
        (λ k made y there. argument_at width compiled regions active made y
        (λ e code of. value_at width compiled is regions active f (Enter called meant for next) at e code (k, y, there, of))
        (passes_array (variables_of compiled) active.function called 0 meant call_well_scoped.args_well_scoped k y there))

    pub few_arguments : length args ≤ 8
    few_arguments = omega (arith, fit_long IsArg args meant fits, call_well_scoped.few)

-- ---- the frame

module _ {T : Type 0} (history : T → History) (left : T → ℕ) (width : ℕ) (variables : Variables) (most : ℕ) (p : Program) (well_scoped_program : IsWellScopedProgram variables most p)
    (n called frame : ℕ) (g : Function) (lanes : Lanes) (size : length lanes ≡ width)
    (args : List ArgCode) (meant : List Arg) (fits : Fit IsArg args meant) (well_scoped : CallWellScoped variables n called meant) (given : List (List ℕ)) (old mid new : MachineWords T)
    (declared : AreParametersDeclared history left width frame (length args) args given lanes old mid) (begins : BeginsFrame history left width frame called g lanes mid new) where
  -- the region of each parameter
  own_region : (k : ℕ) (y : Arg) (words : List ℕ) → slice_get meant k ≡ Some y → slice_get given k ≡ Some words
      → regions_in history width new (OfLocal frame k) ≡ argument_region y lanes words (regions_in history width old (OfLocal frame k))
  own_region k y words is_arg is_given =
      let within : k < length args = omega (arith, slice_get_within meant k y is_arg, fit_long IsArg args meant fits) in
      let there = item_at args k within in
      let before = regions_in history width old (OfLocal frame k) in
      begins.kept.locals frame k ∙ declared.own k there.0 words within there.1 is_given
      ∙ made_region there.0 y lanes words before (fit_at IsArg args meant k there.0 y fits there.1 is_arg)

  pub entered_below : AreSameBelow frame (regions_in history width old) (regions_in history width new)
  entered_below = record {
    file = λ k. begins.kept.file k ∙ declared.others (OfFile k) refl;
    entry = λ k. begins.kept.entry k ∙ declared.others (OfEntry k) refl;
    heads = λ i part below. begins.kept.heads i part (λ e. omega (arith, e, below)) ∙ declared.others (OfHead i part) refl;
    locals = λ i k below. begins.kept.locals i k ∙ declared.others (OfLocal i k) (and_left (i == frame) (nat_lt k (length args)) (ne_eqb i frame (λ e. omega (arith, e, below))));
  }

  same_lengths : (v : VarId) → length (regions_in history width new (array_region v)) ≡ length (regions_in history width old (array_region v))
  same_lengths (File k) = ap length (entered_below.file k)
  same_lengths (Local k) = ap length (entered_below.entry k)

  module _ (state : State) (are : Fit (AreArgumentWords width (regions_in history width old) lanes state) meant given) (wide : 0 < width) where
    -- a parameter that is an array stands for the part that was passed
    entered_views : (k : ℕ) → ShowsView variables (regions_in history width new) frame called (passed_with lanes meant given).views k
    entered_views k array =
        let there = array_there (slice_get (own_of variables called) k) array in
        let below = well_scoped_program.arrays called k there.0 there.1 there.2 in
        let found = array_in variables n called lanes 0 meant given (fit_long (AreArgumentWords width (regions_in history width old) lanes state) meant given are) well_scoped.args_well_scoped k
        (omega arith) (omega (arith, below, well_scoped.all)) array in
        let place : k ≡ found.number = omega (arith, found.place) in
        let y : Arg = Array found.parameter found.array found.from in
        let kept = (fit_at (AreArgumentWords width (regions_in history width old) lanes state) meant given found.number y found.words are found.is_arg found.is_given).1 in
        let inside : IsInside (regions_in history width new) (view_of_words found.words) =
        let same = same_lengths (view_of_words found.words).array in omega (arith, kept.inside, same) in
        found.view ∙ sym (ap (view_kept (regions_in history width new) (Local k))
        (ap (λ j. regions_in history width new (OfLocal frame j)) place ∙ own_region found.number y found.words found.is_arg found.is_given)
        ∙ kept_whole (regions_in history width new) (Local k) found.words (omega (arith, kept.long, wide)) inside)

    pub entered_begun : ((k : ℕ) → k < length args → length (regions_in history width old (OfLocal frame k)) ≡ width)
        → IsBegun variables width (regions_in history width new) frame called g lanes (passed_with lanes meant given)
    entered_begun sized = record {
      depth = begins.begun.depth;
      function = begins.begun.function;
      lanes_are = begins.begun.lanes_are;
      none_returned = begins.begun.none_returned;
      none_open = begins.begun.none_open;
      numbers = begins.begun.numbers;
      result_sized = begins.begun.result_sized;
      declared = λ k h.
          let found = parameter_in variables n called lanes 0 meant given well_scoped.args_well_scoped k h in
          let y : Arg = Value found.x found.e in
          let within : found.number < length args = omega (arith, slice_get_within meant found.number y found.is_arg, fit_long IsArg args meant fits) in
          let place : k ≡ found.number = omega (arith, found.place) in
          let before = regions_in history width old (OfLocal frame found.number) in
          let region : regions_in history width new (OfLocal frame k) ≡ declared_region found.x.rate lanes found.words before =
          ap (λ j. regions_in history width new (OfLocal frame j)) place ∙ own_region found.number y found.words found.is_arg found.is_given in
          let long = sized found.number within in
          subst (λ after. IsScalarIn width (rate_of (slice_get (own_of variables called) k)) (words_of (passed_with lanes meant given).vars (Local k)) after) (sym region)
          (subst (λ words. IsScalarIn width (rate_of (slice_get (own_of variables called) k)) words (declared_region found.x.rate lanes found.words before)) (sym found.declares)
          (subst (λ rate. IsScalarIn width rate (declared_words found.x.rate lanes found.words) (declared_region found.x.rate lanes found.words before)) (sym found.rate)
          (declared_stands width lanes size found.words found.x.rate before (omega (arith, long, wide)))));
      views = entered_views;
    }

-- ---- the step

-- the next step is a call with such arguments
pub record IsCall (width : ℕ) (compiled : CompiledProgram) (regions : Regions) (active : Active) (called : ℕ) (args : List ArgCode) : Type 0 where
  pub f : Function
  pub meant : List Arg
  pub for : ResultFor
  pub next : ℕ
  pub fits : Fit IsArg args meant
  pub at : IsActive width compiled regions active f (Some (Enter called meant for next))

pub call_of : (width : ℕ) (compiled : CompiledProgram) (regions : Regions) (active : Active) (called : ℕ) (args : Vec ArgCode Global) (for : TypedResultFor) (next : ℕ)
    → DoesNext width compiled regions active (code.Enter called args for next) → (made : List ArgCode) → made ≡ args.items → IsCall width compiled regions active called made
call_of width compiled regions active called args for next does made same =
    let found = enters_at width compiled regions active called args for next does in
    subst (IsCall width compiled regions active called) (sym same) (record { f = found.0; meant = found.1.0; for = result_view for; next = next; fits = found.1.1; at = found.1.2 })

module _ {T : Type 0} (history : T → History) (left : T → ℕ) (width : ℕ) (compiled : CompiledProgram) (active : Active) (called : ℕ) (args : List ArgCode) (old : MachineWords T)
    (sound : AreSound history width compiled old) (call : IsCall width compiled (regions_in history width old) active called args) where
  abbrev regions : Regions
  regions = regions_in history width old

  abbrev lanes : Lanes
  lanes = lanes_of width active.lanes

  pub call_lanes : no_lane lanes ≡ false
  call_lanes = some_active history width compiled old sound active call.f (Enter called call.meant call.for call.next) call.at tt

  pub call_below : active.frame < 64
  call_below = frame_below history width compiled old sound active call.f (Some (Enter called call.meant call.for call.next)) call.at

  pub call_there : (g : Function) × (function_of compiled called ≡ Some g)
  call_there = called_there width compiled sound.lie.compiled_is regions active call.f called call.meant call.for call.next call.at

  pub call_fits : Fit (IsArgumentAt width compiled regions active) args call.meant
  call_fits = arguments_fit width compiled sound.lie.compiled_is regions active call.f called call.meant call.for call.next call.at args call.fits

  call_is_well_scoped : CallWellScoped (variables_of compiled) active.function called call.meant
  call_is_well_scoped = call_well_scoped width compiled sound.lie.compiled_is regions active call.f called call.meant call.for call.next call.at

  pub call_few : length args ≤ 8
  call_few = few_arguments width compiled sound.lie.compiled_is regions active call.f called call.meant call.for call.next call.at args call.fits

  -- its arguments and its frame have as many words as may be set
  call_words : length args * width + width + 5 ≤ event_room history old
  call_words =
      subst (λ n. n * width + width + 5 ≤ event_room history old) (sym (fit_long IsArg args call.meant call.fits))
      (step_within history width compiled old sound.lie active call.f (Enter called call.meant call.for call.next) call.at)

  -- a fault of an argument
  pub call_fails : (masked : Masked) → IsShown history width compiled old masked → (fault : ModelFault) → passed call.meant lanes masked.state ≡ Err fault → FailsWith (program_of compiled) masked fault
  call_fails masked shown fault e =
      fails (program_of compiled) (variables_of compiled) width regions masked shown.shows active.frame active.level active.function called call.f active.step call.meant call.for call.next call.at.next
      fault (ap (λ l. passed call.meant l masked.state) (sym call.at.lanes) ∙ e)

  pub call_point : HasNextPoint width compiled (regions_in history width old) active
  call_point = (call.f, Enter called call.meant call.for call.next, call.at, call_lanes)

  -- its arguments have words
  abbrev pub HaveWords : Masked → (given : List (List ℕ)) → Type 0
  HaveWords masked given = Fit (AreArgumentWords width (regions_in history width old) (lanes_of width active.lanes) masked.state) call.meant given

  pub given_long : (masked : Masked) (given : List (List ℕ)) → HaveWords masked given → length given ≡ length args
  given_long masked given are = omega (arith, fit_long (AreArgumentWords width regions lanes masked.state) call.meant given are, fit_long IsArg args call.meant call.fits)

  given_passed : (masked : Masked) (given : List (List ℕ)) → HaveWords masked given → passed call.meant (waiting_in regions active.frame active.level active.step) masked.state ≡ Ok (passed_with lanes call.meant given)
  given_passed masked given are = ap (λ l. passed call.meant l masked.state) (sym call.at.lanes) ∙ all_passed width regions lanes masked.state call.meant given are

  -- 64 frames are there
  pub call_too_deep : active.frame + 1 ≡ 64 → (masked : Masked) → IsShown history width compiled old masked → (given : List (List ℕ)) → HaveWords masked given
      → FailsWith (program_of compiled) masked (record { name = CallDepth; lane = lowest lanes })
  call_too_deep deep masked shown given are =
      subst (λ l. FailsWith (program_of compiled) masked (record { name = CallDepth; lane = lowest l })) (sym call.at.lanes)
      (too_deep (program_of compiled) (variables_of compiled) width regions masked shown.shows active.frame active.level active.function called call.f active.step call.meant call.for call.next call.at.next
      call_there.0 call_there.1 (passed_with lanes call.meant given) (given_passed masked given are) (omega (arith, deep)))

  -- an event is open
  module _ (open' : MachineWords T) (opened : Begins history left width undone.Step old open') (deep : active.frame + 1 < 64) where
    open_laid : AreLaid history width open'
    open_laid = begun_laid history left width compiled undone.Step old open' sound.lie opened

    pub parameters_sized : (k : ℕ) → k < length args → length (regions_in history width open' (OfLocal (active.frame + 1) k)) ≡ width
    parameters_sized k below =
        let variable = own_of_argument (variables_of compiled) active.function called 0 call.meant call_is_well_scoped.args_well_scoped k (omega (arith, below, fit_long IsArg args call.meant call.fits)) in
        own_sized history width compiled old open' sound.lie opened.layout open_laid (active.frame + 1) called k variable.0 deep
        (ap (slice_get (own_of (variables_of compiled) called)) (sym (zero-add k)) ∙ variable.1)

    pub parameters_left : length args * width ≤ left_of history left open'
    parameters_left = omega (arith, call_words, opened.left_is)

    module _ (given : List (List ℕ)) (mid : MachineWords T) (declared : AreParametersDeclared history left width (active.frame + 1) (length args) args given lanes open' mid) where
      pub frame_left : width + 5 ≤ left_of history left mid
      frame_left = omega (arith, call_words, opened.left_is, declared.few)

      -- a frame has begun
      module _ (g : Function) (is : function_of compiled called ≡ Some g) (new : MachineWords T) (begins : BeginsFrame history left width (active.frame + 1) called g lanes mid new) where
        pub call_ends : (masked : Masked) → IsShown history width compiled old masked → HaveWords masked given → EndsAs history width compiled masked old (Ok tt) new
        call_ends masked shown are =
            let frame = active.frame + 1 in
            let p = program_of compiled in
            let variables = variables_of compiled in
            let runnable = sound.lie.compiled_is.runnable in
            let arguments : Passed = passed_with lanes call.meant given in
            let now = regions_in history width new in
            let wide : 4 ≤ width = gang_wide width sound.lie.gang in
            let size = lanes_long width active.lanes in
            let same = begun_regions history left width compiled undone.Step old open' sound.lie opened in
            let are_now = subst (λ rs. Fit (AreArgumentWords width rs lanes masked.state) call.meant given) (sym same) are in
            let begun =
            entered_begun history left width variables runnable.most p runnable.well_scoped active.function called frame g lanes size args call.meant call.fits call_is_well_scoped given open' mid new declared begins
            masked.state are_now (omega (arith, wide)) parameters_sized in
            let below = entered_below history left width variables runnable.most p runnable.well_scoped active.function called frame g lanes size args call.meant call.fits call_is_well_scoped given open' mid new declared begins in (
              enters p variables width regions masked shown.shows active.frame active.level active.function called call.f active.step call.meant call.for call.next call.at.next g is
                  arguments (given_passed masked given are) (omega (arith, deep)) now
                  (subst (λ l. IsBegun variables width now (suc active.frame) called g l arguments) call.at.lanes
                  (subst (λ i. IsBegun variables width now i called g lanes arguments) (add-one active.frame) begun))
                  (subst (λ i. AreSameBelow i regions now) (add-one active.frame)
                  (subst (λ before. AreSameBelow frame before now) same below)),
              record {
                recorded = begins.rest ∙ declared.rest ∙ opened.recorded;
                layout = begins.layout ∙ declared.layout ∙ opened.layout;
                laid = begins.laid;
              },
            )
