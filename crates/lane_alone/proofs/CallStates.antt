-- What a call of a lane-pure function passes in a state of a run is of the gang, as the law of these functions asks.
use Rattle.std.proofs.Common.{◌≡◌, sym, ap, ◌∙◌, subst, ℕ, zero, suc, ◌+◌, true, false, List, [], ◌∷◌, length, inl, inr, arith}
use Rattle.std.specs.Prelude.{◌⊎◌, ◌||◌, Result, IfOk, Ok, map, slice_get, Some, option_map, if◌then◌else◌}
use Rattle.std.proofs.lemmas.Option.{slice_get-map}
use Rattle.gang_types.specs.declared.types.Rate.TheVariants.{Varying}
use Rattle.gang_types.specs.declared.places.VarId.TheVariants.{Local}
use Rattle.gang_types.specs.Lanes.{Lanes}
use Rattle.gang_model.specs.Running.Lanes.{Fault}
use Rattle.gang_model.specs.Types.Tree.{Var, Variable, Arg, Value, Array, ResultFor, Call, Program}
use Rattle.gang_model.specs.Types.WellScoped.{ArgsScoped}
use Rattle.gang_model.specs.Types.Conversions.{is_varying}
use Rattle.gang_model.specs.Types.Signatures.{declared_rate}
use Rattle.gang_model.specs.Types.Resolved.{param_variables, program_of}
use Rattle.gang_model.specs.Source.Parsed.{ParsedParam, ParsedFunction, ParsedSource, functions_in}
use Rattle.gang_model.specs.Running.State.{Store, Doing, Run, LoopUpdate, Task, Frame, State, same_id, words_of, view_of}
use Rattle.gang_model.specs.Running.Value.{value}
use Rattle.gang_model.specs.Running.Step.{task, part, Passed, passed}
use Rattle.gang_model.specs.Running.LanePure.{are_pure_params, IsLanePure, itself}
use Rattle.gang_model.specs.Running.SeparateInstances.{IsScalarParam, IsOfGang, ArePassed}
use Rattle.gang_model.proofs.JudgedLaws.{and_true}
use Rattle.gang_model.proofs.LaneWords.{if_ok_after, if_ok_bind}
use Rattle.gang_model.proofs.ScopedPrograms.{table_of}
use Rattle.gang_model.proofs.StandingLaws.{Each}
use Rattle.lane_alone.proofs.FileVariables.{IsSound}
use Rattle.lane_alone.proofs.GangStates.{IsRunning, running_of_gang}
use Rattle.lane_alone.proofs.PureExprs.{varying_is}
use Rattle.lane_alone.proofs.PurePrograms.{none_some, some_same, pure_callee}
use Rattle.lane_alone.proofs.WideStates.{IsDoingSound, IsFrameSound, part_in, length-declared}
use Rattle.lane_alone.proofs.WideSteps.{HasParts, passed_parts}
use Rattle.lane_alone.proofs.Words.{itself as same_itself, another, local_apart}

module _ (source : ParsedSource) (p : Program) (w : ℕ) (own : List Variable) (lanes : Lanes) (long : length lanes ≡ w) (state : State) where
  -- each scalar among parameters that are numbered from k on has a word for each lane
  abbrev HasScalars : ℕ → List ParsedParam → Passed → Type 0
  HasScalars k params arguments = (n : ℕ) → IsScalarParam params n → length (words_of arguments.vars (Local (k + n))) ≡ w

  -- a scalar that is passed, in front of the others
  with_scalar : (k : ℕ) (q : ParsedParam) (params : List ParsedParam) (v : Var) (words : List ℕ) (rest : Passed) → v.id ≡ Local k → length words ≡ w → HasScalars (suc k) params rest
      → HasScalars k (q ∷ params) (record rest { vars = (v.id, words) ∷ rest.vars })
  with_scalar k q params v words rest named sized h zero scalar =
      ap (λ b. length (if b then words else words_of rest.vars (Local (k + 0)))) (ap (λ i. same_id i (Local (k + 0))) (named ∙ ap Local (omega arith)) ∙ same_itself (Local (k + 0))) ∙ sized
  with_scalar k q params v words rest named sized h (suc n) scalar =
      let apart : same_id v.id (Local (k + suc n)) ≡ false =
      ap (λ i. same_id i (Local (k + suc n))) named ∙ another (Local k) (Local (k + suc n)) (local_apart k (k + suc n) (λ e. omega (arith, e))) in
      let next : k + suc n ≡ suc k + n = omega arith in
      ap (λ b. length (if b then words else words_of rest.vars (Local (k + suc n)))) apart ∙ ap (λ i. length (words_of rest.vars (Local i))) next ∙ h n scalar

  -- an array, which is no scalar
  with_array : (k : ℕ) (q : ParsedParam) (params : List ParsedParam) (arguments : Passed) → q.is_array ≡ true → HasScalars (suc k) params arguments → HasScalars k (q ∷ params) arguments
  with_array k q params arguments array h zero (param, there, plain) = absurd (differ (sym array ∙ ap (λ x. x.is_array) (some_same there) ∙ plain))
    where
      differ : true ≡ false → ⊥
      differ e = cc
  with_array k q params arguments array h (suc n) scalar = ap (λ i. length (words_of arguments.vars (Local i))) (omega arith) ∙ h n scalar

  -- a parameter that is no array is varying
  varying_param : (q : ParsedParam) → q.is_array ≡ false → (q.is_array || is_varying (declared_rate q.spec.rate)) ≡ true → declared_rate q.spec.rate ≡ Varying
  varying_param q plain pure = varying_is (declared_rate q.spec.rate) (ap (λ b. b || is_varying (declared_rate q.spec.rate)) (sym plain) ∙ pure)

  passed_scalars : (k : ℕ) (params : List ParsedParam) (args : List Arg) → are_pure_params params ≡ true → ArgsScoped (table_of source own) (param_variables k params) args
      → IfOk (passed args lanes state) (HasScalars k params)
  passed_scalars k [] [] pure scoped = λ n scalar. absurd (none_some scalar.1)
  passed_scalars k [] (a ∷ args) pure scoped = absurd scoped
  passed_scalars k (q ∷ params) [] pure scoped = absurd scoped
  passed_scalars k (q ∷ params) (Value v e ∷ args) pure scoped =
      let both = and_true (q.is_array || is_varying (declared_rate q.spec.rate)) (are_pure_params params) pure in
      let rate : v.rate ≡ Varying = ap (λ x. x.rate) scoped.1 ∙ varying_param q scoped.0 both.0 in
      if_ok_after (HasScalars k (q ∷ params)) (value e lanes state) _ (λ x.
      if_ok_bind (HasScalars (suc k) params) (HasScalars k (q ∷ params)) (passed args lanes state) _ (passed_scalars (suc k) params args both.1 scoped.3)
      (λ rest h. with_scalar k q params v _ rest (ap (λ y. y.id) scoped.1) (length-declared source p w v.rate lanes x rate long) h))
  passed_scalars k (q ∷ params) (Array parameter array from ∷ args) pure scoped =
      let both = and_true (q.is_array || is_varying (declared_rate q.spec.rate)) (are_pure_params params) pure in
      if_ok_after (HasScalars k (q ∷ params)) (part from (view_of state array) lanes state) _ (λ view.
      if_ok_bind (HasScalars (suc k) params) (HasScalars k (q ∷ params)) (passed args lanes state) _ (passed_scalars (suc k) params args both.1 scoped.4)
      (λ rest h. with_array k q params (record rest { views = (parameter, view) ∷ rest.views }) scoped.0 h))

on_ok : (P : Passed → Type 0) (arguments : Passed) (r : Result Passed Fault) → IfOk r P → r ≡ Ok arguments → P arguments
on_ok P arguments r h is = subst (λ x. IfOk x P) is h

module _ (source : ParsedSource) (p : Program) (is : program_of source ≡ Some p) (w : ℕ) where
  -- what is passed to a function whose parameters are arrays or varying
  passed_of_gang : (f number : ℕ) (args : List Arg) (result_for : ResultFor) (lanes : Lanes) (state : State) (written : ParsedFunction) (arguments : Passed) → length lanes ≡ w
      → IsSound source (Call number f args result_for) → Each (IsFrameSound source p) state.frames → slice_get (functions_in source) f ≡ Some written → are_pure_params written.params ≡ true
      → passed args lanes state ≡ Ok arguments → ArePassed p written.params w arguments
  passed_of_gang f number args result_for lanes state written arguments long (own, (params, found, scoped, result), indices) frames there pure passes =
      let known : slice_get (map (λ g. param_variables 0 g.params) (functions_in source)) f ≡ Some (param_variables 0 written.params) =
      slice_get-map (λ g. param_variables 0 g.params) (functions_in source) f ∙ ap (option_map (λ g. param_variables 0 g.params)) there in
      let same : params ≡ param_variables 0 written.params = some_same (sym found ∙ known) in
      let fits : ArgsScoped (table_of source own) (param_variables 0 written.params) args = subst (λ ps. ArgsScoped (table_of source own) ps args) same scoped in
      let scalars : HasScalars source p w own lanes long state 0 written.params arguments =
      on_ok (HasScalars source p w own lanes long state 0 written.params) arguments (passed args lanes state) (passed_scalars source p w own lanes long state 0 written.params args pure fits) passes in
      let parts = on_ok (HasParts source p is) arguments (passed args lanes state) (passed_parts source p is own params args lanes state scoped frames) passes in
      record {
        scalars = λ n scalar. ap (λ i. length (words_of arguments.vars (Local i))) (omega arith) ∙ scalars n scalar;
        arrays = λ n. part_in source p arguments.views (Local n) parts tt;
      }

  -- where the top frame of a state of a run does a call of a lane-pure function next, the call's lanes and arguments are of the
  -- gang, and so is the state in which the call is made
  pub call_of_gang : (memory : Store) (frame : Frame) (frames : List Frame) (doing : Doing) (lanes : Lanes) (ts : List Task) (f number : ℕ) (args : List Arg) (result_for : ResultFor)
      → IsRunning source p w (record { memory = memory; frames = record frame { tasks = task doing lanes ∷ ts } ∷ frames })
      → (doing ≡ Run (Call number f args result_for)) ⊎ (doing ≡ LoopUpdate (Call number f args result_for))
      → IsLanePure source p f → (written : ParsedFunction) → slice_get (functions_in source) f ≡ Some written
      → (arguments : Passed) → passed args lanes (record { memory = memory; frames = record frame { tasks = ts } ∷ frames }) ≡ Ok arguments
      → (length lanes ≡ w) × IsOfGang p w (record { memory = memory; frames = record frame { tasks = ts } ∷ frames }) × ArePassed p written.params w arguments
  call_of_gang memory frame frames doing lanes ts f number args result_for h call pure written there arguments passes =
      let state : State = record { memory = memory; frames = record frame { tasks = ts } ∷ frames } in
      let top = h.wide.0.0 in
      let sound : Each (IsFrameSound source p) state.frames = ((top.0.1, top.1, top.2), h.wide.0.1) in
      let running : IsRunning source p w state = record { sized = (record { call = h.sized.0.call; tasks = h.sized.0.tasks.1 }, h.sized.1); wide = (sound, h.wide.1) } in
      let called : IsSound source (Call number f args result_for) = elim call [
        | inl run ↦ subst (IsDoingSound source p) run top.0.0
        | inr update ↦ subst (IsDoingSound source p) update top.0.0
      ] in (
        h.sized.0.tasks.0,
        running_of_gang source p w state running,
        passed_of_gang f number args result_for lanes state written arguments h.sized.0.tasks.0 called sound there (pure_callee source p is f pure f written itself there).0 passes,
      )
