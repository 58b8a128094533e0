-- How many of a function's variables are parameters: as many as it has parameters, since a body declares none; and no others are arrays.
use Rattle.std.proofs.Common.{ℕ, zero, suc, ◌<◌, true≢false, true, List, [], ◌∷◌, ◌++◌, length, ◌≡◌, refl, sym, ◌∙◌, ap, subst, arith}
use Rattle.std.specs.Prelude.{cond, filter, map, Option, Some, None, slice_get}
use Rattle.std.proofs.lemmas.Option.{none-some}
use Rattle.gang_model.specs.Types.Tree.{Variable}
use Rattle.gang_model.specs.Source.Parsed.{ParsedParam, ParsedFunction, ParsedSource, functions_in}
use Rattle.gang_model.specs.Source.Judged.{Judged, Sound, Faulty}
use Rattle.gang_model.specs.Types.Resolved.{param_variables}
use Rattle.gang_model.specs.Types.Statements.{Made}
use Rattle.gang_model.proofs.JudgedLaws.{OnSound}
use Rattle.gang_model.proofs.StandingLaws.{Each}
use Rattle.gang_model.proofs.VariableLaws.{params_count}
use Rattle.machine_states.specs.Variables.{own_of, or_none, parameters_of}
use Rattle.machine_states.proofs.Elements.{each_get, get_mapped}
use Rattle.runnable_programs.specs.Sources.{own_variables, source_variables, variables_made}
use Rattle.runnable_programs.proofs.OwnVariables.{context_of, scope_of, body_of, parameters_at}
use Rattle.runnable_programs.proofs.WellScopedForms.{IsDeclaredScalar, MadeWellScoped, statements_well_scoped}
use Rattle.runnable_programs.proofs.WellSpelled.{AreWellSpelled, HasWellSpelledBody, IsWellSpelledSource}

-- how many variables are parameters
abbrev pub parameters_among : List Variable → ℕ
parameters_among variables = length (filter (λ v. v.is_parameter) variables)

none_declared : (declared : List Variable) → Each IsDeclaredScalar declared → parameters_among declared ≡ 0
none_declared [] scalars = refl
none_declared (v ∷ declared) scalars =
    let later = filter (λ w. w.is_parameter) declared in
    ap (λ b. length (cond b (v ∷ later) later)) scalars.0.1 ∙ none_declared declared scalars.1

first_counted : (k : ℕ) (params : List ParsedParam) (declared : List Variable) → Each IsDeclaredScalar declared
    → parameters_among (param_variables k params ++ declared) ≡ length params
first_counted k [] declared scalars = none_declared declared scalars
first_counted k (p ∷ params) declared scalars = ap suc (first_counted (suc k) params declared scalars)

made_scalars : (j : Judged Made) → OnSound j MadeWellScoped → Each IsDeclaredScalar (variables_made j)
made_scalars (Sound m) well_scoped = well_scoped.1
made_scalars (Faulty first others) well_scoped = tt

parameters_counted : (source : ParsedSource) (f : ParsedFunction) → AreWellSpelled f.body → parameters_among (own_variables source f) ≡ length f.params
parameters_counted source f spelled =
    first_counted 0 f.params (variables_made (body_of source f))
    (made_scalars (body_of source f) (statements_well_scoped f.body (context_of source f) (scope_of source f) (length f.params) 0 spelled))

-- the same of each function
pub all_parameters_counted : (source : ParsedSource) (functions : List ParsedFunction) → Each HasWellSpelledBody functions
    → map parameters_among (map (own_variables source) functions) ≡ map (λ f. length f.params) functions
all_parameters_counted source [] spelled = refl
all_parameters_counted source (f ∷ functions) spelled =
    ap (λ count. count ∷ map parameters_among (map (own_variables source) functions)) (parameters_counted source f spelled.0)
    ∙ ap (λ counts. length f.params ∷ counts) (all_parameters_counted source functions spelled.1)

-- ---- arrays

-- what follows some variables and is an array would have to be a declared scalar
arrays_first : (params declared : List Variable) → Each IsDeclaredScalar declared → (k : ℕ) (v : Variable) → slice_get (params ++ declared) k ≡ Some v → v.is_array ≡ true
    → k < length params
arrays_first [] declared scalars k v e is = absurd (true≢false (sym is ∙ (each_get IsDeclaredScalar declared k v scalars e).0))
arrays_first (p ∷ params) declared scalars zero v e is = omega arith
arrays_first (p ∷ params) declared scalars (suc k) v e is = let later = arrays_first params declared scalars k v e is in omega (arith, later)

-- only parameters of a function are arrays
pub arrays_at : (source : ParsedSource) → IsWellSpelledSource source
    → (n k : ℕ) (v : Variable) → slice_get (own_of (source_variables source) n) k ≡ Some v → v.is_array ≡ true → k < parameters_of (source_variables source) n
arrays_at source spelled n k v e is = by (slice_get (map (own_variables source) (functions_in source)) n) refl e
  where
    by : (own : Option (List Variable)) → slice_get (map (own_variables source) (functions_in source)) n ≡ own → slice_get (or_none own) k ≡ Some v
        → k < parameters_of (source_variables source) n
    by None there e = absurd (none-some v e)
    by (Some own) there e =
        let at = get_mapped (own_variables source) (functions_in source) n own there in
        let f = at.0 in
        let body = each_get HasWellSpelledBody (functions_in source) n f spelled at.1 in
        let scalars = made_scalars (body_of source f) (statements_well_scoped f.body (context_of source f) (scope_of source f) (length f.params) 0 body) in
        subst (λ m. k < m) (params_count 0 f.params ∙ sym (parameters_at source n f at.1))
        (arrays_first (param_variables 0 f.params) (variables_made (body_of source f)) scalars k v (subst (λ vs. slice_get vs k ≡ Some v) (sym at.2) e) is)
