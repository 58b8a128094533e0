-- The lane-pure functions of an accepted source fit, and so their lanes are instances of their own.
use Rattle.std.proofs.lemmas.Bool.{eqb-true}
use Rattle.std.proofs.Common.{ℕ, zero, suc, ◌+◌, Bool, true, false, List, [], ◌∷◌, ◌≡◌, refl, sym, ◌∙◌, ap, subst, length, inl, inr, arith, true≢false}
use Rattle.std.specs.Prelude.{◌&&◌, ◌||◌, ◌==◌, ◌⊎◌, slice_get, Option, Some, None, if◌then◌else◌}
use Rattle.gang_types.specs.declared.types.IntType.{IntType}
use Rattle.gang_types.specs.declared.types.Rate.{Rate}
use Rattle.gang_types.specs.declared.types.Rate.TheVariants.{Varying}
use Rattle.gang_types.specs.declared.places.VarId.TheVariants.{File, Local}
use Rattle.gang_model.specs.Types.Tree.{Program, Function, Global, Variable}
use Rattle.gang_model.specs.Source.Parsed.{ParsedParam, ParsedFunction, ParsedGlobal, ParsedSource, functions_in, globals_in}
use Rattle.gang_model.specs.Source.Judged.{Judged, Sound, Faulty, unless}
use Rattle.gang_model.proofs.JudgedLaws.{OnSound, on_any, on_pair, and_true}
use Rattle.gang_model.proofs.VariableLaws.{on_some}
use Rattle.gang_model.proofs.ScopedPrograms.{program_of-scoped, variables_of_globals}
use Rattle.gang_model.specs.Types.Signatures.{result_of, result_with, declared_rate}
use Rattle.gang_model.specs.Types.Typing.{Scope, declared}
use Rattle.gang_model.specs.Types.TypeFaults.{signature_faults}
use Rattle.gang_model.specs.Types.Statements.{statements}
use Rattle.gang_model.specs.Types.Resolved.{param_entries, global_entry, global_entries, file_variables, rate_or_uniform, judged_globals, judged_function, judged_functions, judged_program, program_of}
use Rattle.gang_model.specs.Running.LanePure.{are_pure_params, is_pure_return, is_pure_stmt, Calls, Reaches, itself, called, IsLanePure}
use Rattle.gang_model.specs.Running.SeparateInstances.{IsScalarParam, IsSeparate, HasSeparateInstances}
use Rattle.lane_alone.specs.Fits.{Locals, and_one, Family, Fits, IsClosed, AreNumbered}
use Rattle.lane_alone.proofs.TaskLists.{by_bool}
use Rattle.lane_alone.proofs.PureExprs.{known_of, Fine, varying_is}
use Rattle.lane_alone.proofs.PureStmts.{statements_fits}
use Rattle.lane_alone.proofs.Whole.{separate}

pub none_some : {A : Type 0} {v : A} → None ≡ Some v → ⊥
none_some q = cc

pub some_same : {A : Type 0} {v w : A} → Some v ≡ Some w → v ≡ w
some_same q = cc

-- ---- functions, one by one

abbrev pub EachPair : (ParsedFunction → Function → Type 0) → List ParsedFunction → List Function → Type 0
EachPair R [] [] = Unit {0}
EachPair R [] (g ∷ typed) = ⊥
EachPair R (f ∷ functions) [] = ⊥
EachPair R (f ∷ functions) (g ∷ typed) = R f g × EachPair R functions typed

module _ (R : ParsedFunction → Function → Type 0) where
  pairs : (source : ParsedSource) → ((f : ParsedFunction) → OnSound (judged_function source f) (R f)) → (functions : List ParsedFunction) → OnSound (judged_functions source functions) (EachPair R functions)
  pairs source go [] = tt
  pairs source go (f ∷ functions) =
      on_pair (judged_function source f) (judged_functions source functions) _ (R f) (EachPair R functions) (EachPair R (f ∷ functions)) (go f) (pairs source go functions) (λ g typed first later. (first, later))

  pub program_pairs : (source : ParsedSource) (p : Program) → program_of source ≡ Some p → ((f : ParsedFunction) → OnSound (judged_function source f) (R f)) → EachPair R (functions_in source) p.functions
  program_pairs source p e go = on_some (judged_program source) (λ q. EachPair R (functions_in source) q.functions) p
      (on_pair (judged_globals 0 (globals_in source)) (judged_functions source (functions_in source)) _ (λ g. Unit {0}) (EachPair R (functions_in source)) (λ q. EachPair R (functions_in source) q.functions)
      (on_any (judged_globals 0 (globals_in source))) (pairs source go (functions_in source)) (λ gs fs u h. h)) e

  -- for a function as written, the typed one
  typed_at : (functions : List ParsedFunction) (typed : List Function) → EachPair R functions typed → (n : ℕ) (w : ParsedFunction) → slice_get functions n ≡ Some w → (g : Function) × (slice_get typed n ≡ Some g) × R w g
  typed_at [] typed h n w e = absurd (none_some e)
  typed_at (f ∷ functions) [] h n w e = absurd h
  typed_at (f ∷ functions) (g ∷ typed) h zero w e = (g, refl, subst (λ x. R x g) (some_same e) h.0)
  typed_at (f ∷ functions) (g ∷ typed) h (suc n) w e = typed_at functions typed h.1 n w e

  -- and the other way
  pub written_at : (functions : List ParsedFunction) (typed : List Function) → EachPair R functions typed → (n : ℕ) (g : Function) → slice_get typed n ≡ Some g → (w : ParsedFunction) × (slice_get functions n ≡ Some w) × R w g
  written_at [] [] h n g e = absurd (none_some e)
  written_at [] (x ∷ typed) h n g e = absurd h
  written_at (f ∷ functions) [] h n g e = absurd h
  written_at (f ∷ functions) (x ∷ typed) h zero g e = (f, refl, subst (R f) (some_same e) h.0)
  written_at (f ∷ functions) (x ∷ typed) h (suc n) g e = written_at functions typed h.1 n g e

as_many : (functions : List ParsedFunction) (typed : List Function) → EachPair (λ f g. Unit {0}) functions typed → length functions ≡ length typed
as_many [] [] h = refl
as_many [] (g ∷ typed) h = absurd h
as_many (f ∷ functions) [] h = absurd h
as_many (f ∷ functions) (g ∷ typed) h = ap suc (as_many functions typed h.1)

-- a typed program has as many functions as its source
pub functions_alike : (source : ParsedSource) (p : Program) → program_of source ≡ Some p → length (functions_in source) ≡ length p.functions
functions_alike source p is =
    as_many (functions_in source) p.functions (program_pairs (λ f g. Unit {0}) source p is (λ f. on_any (judged_function source f)))

-- ---- the file's variables

pub variable_at_global : (globals : List Global) (n : ℕ) (v : Variable) → slice_get (variables_of_globals globals) n ≡ Some v → (g : Global) × (slice_get globals n ≡ Some g) × (g.variable ≡ v)
variable_at_global [] n v e = absurd (none_some e)
variable_at_global (g ∷ globals) zero v e = (g, refl, some_same e)
variable_at_global (g ∷ globals) (suc n) v e = variable_at_global globals n v e

pub global_variable : (globals : List Global) (n : ℕ) (g : Global) → slice_get globals n ≡ Some g → slice_get (variables_of_globals globals) n ≡ Some g.variable
global_variable [] n g e = absurd (none_some e)
global_variable (x ∷ globals) zero g e = ap (λ y. Some y.variable) (some_same e)
global_variable (x ∷ globals) (suc n) g e = global_variable globals n g e

pub file_numbers : (k : ℕ) (globals : List ParsedGlobal) (n : ℕ) (v : Variable) → slice_get (file_variables k globals) n ≡ Some v → v.id ≡ File (k + n)
file_numbers k [] n v e = absurd (none_some e)
file_numbers k (g ∷ globals) zero v e = ap (λ y. y.id) (sym (some_same e)) ∙ ap File (omega arith)
file_numbers k (g ∷ globals) (suc n) v e = file_numbers (suc k) globals n v e ∙ ap File (omega arith)

-- ---- scopes

fine_globals : (file : List Variable) (k : ℕ) (globals : List ParsedGlobal) → ((i : ℕ) (v : Variable) → slice_get (file_variables k globals) i ≡ Some v → slice_get file (k + i) ≡ Some v) → Fine file 0 (global_entries k globals)
fine_globals file k [] at = tt
fine_globals file k (g ∷ globals) at = (
  tt,
  subst (λ n. slice_get file n ≡ Some (global_entry k g).variable) (omega arith) (at 0 (global_entry k g).variable refl),
  fine_globals file (suc k) globals (λ i v h. subst (λ n. slice_get file n ≡ Some v) (omega arith) (at (suc i) v h)),
)

fine_params : (file : List Variable) (j : ℕ) (params : List ParsedParam) (scope : Scope) → Fine file j scope → Fine file (j + length params) (param_entries j params scope)
fine_params file j [] scope f = subst (λ n. Fine file n scope) (omega arith) f
fine_params file j (q ∷ params) scope f =
    subst (λ n. Fine file n (param_entries j (q ∷ params) scope)) (omega arith) (fine_params file (suc j) params (declared q.name (Local j) q.spec q.is_array true ∷ scope) (omega arith, tt, f))

globals_unknown : (k : ℕ) (globals : List ParsedGlobal) → known_of (global_entries k globals) ≡ known_of []
globals_unknown k [] = refl
globals_unknown k (g ∷ globals) = by_bool (global_entry k g).variable.is_array
    (λ e. ap (λ b. if b then known_of (global_entries (suc k) globals) else known_of (global_entries (suc k) globals)) e)
    (λ e. ap (λ b. if b then known_of (global_entries (suc k) globals) else known_of (global_entries (suc k) globals)) e) ∙ globals_unknown (suc k) globals

params_alike : (j : ℕ) (params : List ParsedParam) (scope other : Scope) → known_of scope ≡ known_of other → known_of (param_entries j params scope) ≡ known_of (param_entries j params other)
params_alike j [] scope other e = e
params_alike j (q ∷ params) scope other e =
    params_alike (suc j) params (declared q.name (Local j) q.spec q.is_array true ∷ scope) (declared q.name (Local j) q.spec q.is_array true ∷ other) (ap (λ known. if q.is_array then known else and_one (Local j) known) e)

or_cases : (a b : Bool) → (a || b) ≡ true → (a ≡ true) ⊎ (b ≡ true)
or_cases true b h = inl refl
or_cases false b h = inr h

-- a variable is a parameter that is no array, where they are numbered from j on
abbrev IsScalarFrom : ℕ → List ParsedParam → ℕ → Type 0
IsScalarFrom j params n = (i : ℕ) × (n ≡ j + i) × IsScalarParam params i

-- what is known of the parameters are those that are no arrays
params_scalar : (j : ℕ) (params : List ParsedParam) (scope : Scope) (n : ℕ) → known_of (param_entries j params scope) n ≡ true → (known_of scope n ≡ true) ⊎ IsScalarFrom j params n
params_scalar j [] scope n h = inl h
params_scalar j (q ∷ params) scope n h = elim (params_scalar (suc j) params (declared q.name (Local j) q.spec q.is_array true ∷ scope) n h) [
  | inl old ↦ step q.is_array refl old
  | inr more ↦ inr (suc more.0, more.1 ∙ omega arith, more.2)
]
  where
    step : (b : Bool) → q.is_array ≡ b → (if b then known_of scope else and_one (Local j) (known_of scope)) n ≡ true → (known_of scope n ≡ true) ⊎ IsScalarFrom j (q ∷ params) n
    step true is old = inl old
    step false is old = elim (or_cases (n == j) (known_of scope n) old) [ inl same ↦ inr (0, eqb-true n j same ∙ omega arith, (q, refl, is)) | inr more ↦ inl more ]

-- ---- results

pure_rate : (type : Option IntType) (rate : Option Rate) → is_pure_return type rate ≡ true → (x : IntType × Rate) → result_with type (declared_rate rate) ≡ Some x → rate_or_uniform (result_with type (declared_rate rate)) ≡ Varying
pure_rate None rate h x e = absurd (none_some e)
pure_rate (Some type) None h x e = refl
pure_rate (Some type) (Some rate) h x e = varying_is rate h

-- ---- the family of the functions that one reaches

module _ (source : ParsedSource) (p : Program) (is : program_of source ≡ Some p) (f : ℕ) (pure : IsLanePure source p f) where
  abbrev file : List Variable
  file = file_variables 0 (globals_in source)

  abbrev outer : Scope
  outer = global_entries 0 (globals_in source)

  abbrev parameters_at : Option ParsedFunction → Locals
  parameters_at None = λ n. false
  parameters_at (Some w) = known_of (param_entries 0 w.params (global_entries 0 (globals_in source)))

  abbrev family : Family
  family = record { member = Reaches p f; parameters = λ n. parameters_at (slice_get (functions_in source) n) }

  file_is : (n : ℕ) (v : Variable) → slice_get (file_variables 0 (globals_in source)) n ≡ Some v → (g : Global) × (slice_get p.globals n ≡ Some g) × (g.variable ≡ v)
  file_is n v e = variable_at_global p.globals n v (ap (λ vs. slice_get vs n) (program_of-scoped source p is).0 ∙ e)

  numbered : AreNumbered p
  numbered n g e = file_numbers 0 (globals_in source) n g.variable (ap (λ vs. slice_get vs n) (sym (program_of-scoped source p is).0) ∙ global_variable p.globals n g e) ∙ ap File (omega arith)

  abbrev ResultRight : ParsedFunction → Function → Type 0
  ResultRight w g = g.result ≡ rate_or_uniform (result_of w.spec)

  results : EachPair ResultRight (functions_in source) p.functions
  results = program_pairs ResultRight source p is (λ w.
      let body = statements w.body (record { functions = functions_in source; result = result_of w.spec }) (param_entries 0 w.params (global_entries 0 (globals_in source))) (length w.params) 0 in
      on_pair (unless (signature_faults w) w) body _ (λ x. Unit {0}) (λ m. Unit {0}) (ResultRight w) (on_any (unless (signature_faults w) w)) (on_any body) (λ x m u v. refl))

  callee : (n : ℕ) (w : ParsedFunction) → slice_get (functions_in source) n ≡ Some w → (g : Function) × (slice_get p.functions n ≡ Some g) × (g.result ≡ rate_or_uniform (result_of w.spec))
  callee n w e = typed_at ResultRight (functions_in source) p.functions results n w e

  pub pure_callee : (n : ℕ) (w : ParsedFunction) → Reaches p f n → slice_get (functions_in source) n ≡ Some w → (are_pure_params w.params ≡ true) × ((x : IntType × Rate) → result_of w.spec ≡ Some x → rate_or_uniform (result_of w.spec) ≡ Varying)
  pure_callee n w reached e =
      let g : (g : Function) × (slice_get p.functions n ≡ Some g) × (g.result ≡ rate_or_uniform (result_of w.spec)) = callee n w e in
      let one = and_true (are_pure_params w.params) (is_pure_return w.spec.value_type w.spec.rate && is_pure_stmt g.0.body) (pure n w g.0 reached e g.1) in
      let two = and_true (is_pure_return w.spec.value_type w.spec.rate) (is_pure_stmt g.0.body) one.1 in
      (one.0, pure_rate w.spec.value_type w.spec.rate two.0)

  set_params : (n : ℕ) (w : ParsedFunction) → slice_get (functions_in source) n ≡ Some w → (j : ℕ) → family.parameters n j ≡ true → known_of (param_entries 0 w.params []) j ≡ true
  set_params n w e j h =
      ap (λ known. known j) (sym (params_alike 0 w.params (global_entries 0 (globals_in source)) [] (globals_unknown 0 (globals_in source)))) ∙ subst (λ o. parameters_at o j ≡ true) e h

  abbrev BodyFits : ParsedFunction → Function → Type 0
  BodyFits w g = ((x : IntType × Rate) → result_of w.spec ≡ Some x → rate_or_uniform (result_of w.spec) ≡ Varying) → is_pure_stmt g.body ≡ true → ((n : ℕ) → Calls n g.body → Reaches p f n)
      → Fits p family (rate_or_uniform (result_of w.spec)) (known_of (param_entries 0 w.params (global_entries 0 (globals_in source)))) g.body

  given_that : {A : Type 0} (j : Judged A) (H : Type 0) (P : A → Type 0) → (H → OnSound j P) → OnSound j (λ a. H → P a)
  given_that (Sound a) H P go = go
  given_that (Faulty first others) H P go = tt

  bodies : EachPair BodyFits (functions_in source) p.functions
  bodies = program_pairs BodyFits source p is (λ w.
      let scope = param_entries 0 w.params (global_entries 0 (globals_in source)) in
      let body = statements w.body (record { functions = functions_in source; result = result_of w.spec }) scope (length w.params) 0 in
      let H = (x : IntType × Rate) → result_of w.spec ≡ Some x → rate_or_uniform (result_of w.spec) ≡ Varying in
      on_pair (unless (signature_faults w) w) body _ (λ x. Unit {0}) _ (BodyFits w) (on_any (unless (signature_faults w) w))
      (given_that body H _ (λ pure_result. statements_fits p source file file_is family callee pure_callee set_params (result_of w.spec) pure_result w.body scope (length w.params) 0
      (subst (λ n. Fine file n (param_entries 0 w.params (global_entries 0 (globals_in source)))) (omega arith)
      (fine_params file 0 w.params (global_entries 0 (globals_in source)) (fine_globals file 0 (globals_in source) (λ i v e. subst (λ n. slice_get file n ≡ Some v) (omega arith) e))))))
      (λ x m u go pure_result pure_body members. (go pure_result pure_body members).0))

  closed : IsClosed p family
  closed n g reached e =
      let w : (w : ParsedFunction) × (slice_get (functions_in source) n ≡ Some w) × BodyFits w g = written_at BodyFits (functions_in source) p.functions bodies n g e in
      let same : (h : Function) × (slice_get p.functions n ≡ Some h) × (h.result ≡ rate_or_uniform (result_of w.0.spec)) = callee n w.0 w.1 in
      let result_is : g.result ≡ rate_or_uniform (result_of w.0.spec) = ap (λ h. h.result) (some_same (sym e ∙ same.1)) ∙ same.2 in
      let one = and_true (are_pure_params w.0.params) (is_pure_return w.0.spec.value_type w.0.spec.rate && is_pure_stmt g.body) (pure n w.0 g reached w.1 e) in
      let two = and_true (is_pure_return w.0.spec.value_type w.0.spec.rate) (is_pure_stmt g.body) one.1 in
      let fits : Fits p family (rate_or_uniform (result_of w.0.spec)) (known_of (param_entries 0 w.0.params (global_entries 0 (globals_in source)))) g.body =
      w.2 (pure_callee n w.0 reached w.1).1 two.1 (λ m c. called reached e c) in
      subst (λ rate. Fits p family rate (family.parameters n) g.body) (sym result_is) (subst (λ o. Fits p family (rate_or_uniform (result_of w.0.spec)) (parameters_at o) g.body) (sym w.1) fits)

  scalar_known : (w : ParsedFunction) (n : ℕ) → known_of (param_entries 0 w.params (global_entries 0 (globals_in source))) n ≡ true → IsScalarParam w.params n
  scalar_known w n h = elim (params_scalar 0 w.params (global_entries 0 (globals_in source)) n h) [
    | inl outside ↦ absurd (true≢false (sym outside ∙ ap (λ known. known n) (globals_unknown 0 (globals_in source))))
    | inr set ↦ subst (IsScalarParam w.params) (omega (arith, set.1)) set.2
  ]

  instances : (w : ParsedFunction) → slice_get (functions_in source) f ≡ Some w → IsSeparate p w.params f
  instances w e = separate p numbered family closed f itself w.params (λ n known. scalar_known w n (subst (λ o. parameters_at o n ≡ true) e known))

-- the lanes of the lane-pure functions of an accepted source are instances of their own
pub are_separate : (source : ParsedSource) → HasSeparateInstances source
are_separate source p is f pure q written typed e =
    instances source q typed f (subst (λ x. IsLanePure source x f) (some_same (sym is ∙ typed)) pure) written e
