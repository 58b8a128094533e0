-- A sound function names nothing before it is declared, and the debugger lists at each of its steps, and at its
-- closing brace, what is declared before.
use Rattle.std.proofs.Common.{ℕ, suc, ◌+◌, ◌<◌, true, false, List, [], ◌∷◌, ◌++◌, length, ◌≡◌, refl, ◌∙◌, ap, subst, arith}
use Rattle.std.specs.Prelude.{All, Some, slice_get}
use Rattle.gang_types.specs.declared.places.VarId.TheVariants.{Local}
use Rattle.gang_model.specs.Types.Tree.{Variable, Standing, Function}
use Rattle.gang_model.specs.Source.Parsed.{ParsedParam, ParsedFunction, ParsedGlobal, ParsedSource, globals_in}
use Rattle.gang_model.specs.Names.Scope.{Site, with_name, with_params, after_all, standings_in_all, before_return, function_site, file_bindings, file_scope}
use Rattle.gang_model.specs.Source.Judged.{Judged, Sound, Faulty, unless}
use Rattle.gang_model.proofs.JudgedLaws.{OnSound, on_any, on_pair}
use Rattle.gang_model.proofs.VariableLaws.{params_count}
use Rattle.gang_model.specs.Types.Typing.{Scope, declared}
use Rattle.gang_model.specs.Types.TypeFaults.{signature_faults}
use Rattle.gang_model.specs.Types.Statements.{Made}
use Rattle.gang_model.specs.Types.Resolved.{global_entries, param_entries, param_variables, function_made, judged_function}
use Rattle.machine_states.specs.Variables.{is_array_of}
use Rattle.machine_states.specs.Declared.{IsAmong, declared_before_return, DeclaresFirst, declared_at, scalars_below}
use Rattle.runnable_programs.specs.Sources.{own_variables, variables_made}
use Rattle.runnable_programs.proofs.DeclaredScalars.{first_numbers, first_has, scalar_has}
use Rattle.runnable_programs.proofs.DeclaredStatements.{StatementsFirst, statements_first}
use Rattle.runnable_programs.proofs.Elements.{get_more, get_within}
use Rattle.runnable_programs.proofs.OwnNames.{IsOneOf}
use Rattle.runnable_programs.proofs.OwnVariables.{context_of, scope_of, body_of, BodyFaithful, body_faithful}
use Rattle.runnable_programs.proofs.WellScopedFunctions.{made_scopes}
use Rattle.runnable_programs.proofs.ThereNames.{ScopeThere, NamesThere, AreListed}
use Rattle.runnable_programs.proofs.WellSpelled.{AreWellSpelled}

-- ---- parameters

module _ (there : List ℕ) where
  -- the numbers from k on are there, as many as a list is long
  abbrev HasNumbers : ℕ → ℕ → Type 0
  HasNumbers k n = (i : ℕ) → i < k + n → IsAmong i there

  -- so are those of parameters that are no arrays
  abbrev HasScalars : ℕ → List ParsedParam → Type 0
  HasScalars k params = (i : ℕ) (v : Variable) → slice_get (param_variables k params) i ≡ Some v → v.is_array ≡ false → IsAmong (k + i) there

  params_there : (k : ℕ) (params : List ParsedParam) (scope : Scope) → HasScalars k params → ScopeThere there scope → ScopeThere there (param_entries k params scope)
  params_there k [] scope has h = h
  params_there k (p ∷ params) scope has h =
      let entry = declared p.name (Local k) p.spec p.is_array true in
      params_there (suc k) params (entry ∷ scope) (λ i v e scalar. subst (λ j. IsAmong j there) (omega arith) (has (suc i) v e scalar))
      (λ scalar. subst (λ j. IsAmong j there) (omega arith) (has 0 entry.variable refl scalar), h)

  params_named : (params : List ParsedParam) (site : Site) → HasNumbers site.next (length params) → NamesThere there site.environment
      → NamesThere there (with_params params site).environment
  params_named [] site has h = h
  params_named (p ∷ params) site has h = params_named params (with_name p.name site) (λ i within. has i (omega (arith, within))) (has site.next (omega arith), h)

  globals_there : (k : ℕ) (globals : List ParsedGlobal) → ScopeThere there (global_entries k globals)
  globals_there k [] = tt
  globals_there k (g ∷ globals) = (λ scalar. tt, globals_there (suc k) globals)

  globals_named : (k : ℕ) (globals : List ParsedGlobal) → NamesThere there (file_bindings k globals)
  globals_named k [] = tt
  globals_named k (g ∷ globals) = (tt, globals_named (suc k) globals)

after_params : (params : List ParsedParam) (site : Site) → (with_params params site).next ≡ site.next + length params
after_params [] site = omega arith
after_params (p ∷ params) site = omega (arith, after_params params (with_name p.name site))

-- ---- functions

-- what a function's body finds
abbrev pub body_site : ParsedSource → ParsedFunction → Site
body_site source f = function_site (file_scope source) f.params

-- a function of the typed tree for its own in the tree as written, with these variables
pub record IsFirstFunction (source : ParsedSource) (f : ParsedFunction) (own : List Variable) (g : Function) : Type 0 where
  pub first : DeclaresFirst (scalars_below own (length f.params)) g.body
  pub lists : AreListed (declared_at (first_numbers (length f.params)) g.body) (standings_in_all f.body (body_site source f))
  pub closing : NamesThere (declared_before_return g.body ++ first_numbers (length f.params)) (after_all (before_return f.body) (body_site source f)).environment
  pub scopes : (number : ℕ) (there : Standing) → slice_get g.standings number ≡ Some there → All (IsOneOf own) there.scope

module _ (source : ParsedSource) (f : ParsedFunction) where
  abbrev count : ℕ
  count = length f.params

  first_scope : (others : List Variable) → ScopeThere (scalars_below (param_variables 0 f.params ++ others) count) (scope_of source f)
  first_scope others =
      let own = param_variables 0 f.params ++ others in
      params_there (scalars_below own count) 0 f.params (global_entries 0 (globals_in source))
      (λ i v e scalar.
      let stands = get_more (param_variables 0 f.params) others i v e in
      let within = get_within (param_variables 0 f.params) i v e in
      subst (λ j. IsAmong j (scalars_below own count)) (omega arith) (scalar_has own count i (omega (arith, within, params_count 0 f.params)) (ap is_array_of stands ∙ scalar)))
      (globals_there (scalars_below own count) 0 (globals_in source))

  first_names : NamesThere (first_numbers count) (body_site source f).environment
  first_names =
      let start : Site = record { environment = file_scope source; here = []; next = 0 } in
      params_named (first_numbers count) f.params start (λ i within. first_has count i (omega (arith, within))) (globals_named (first_numbers count) 0 (globals_in source))

  made_first : (m : Made) → BodyFaithful f m → StatementsFirst f.body (scope_of source f) count m
      → IsFirstFunction source f (param_variables 0 f.params ++ m.variables) (function_made (file_scope source) f m)
  made_first m faithful h =
      let own = param_variables 0 f.params ++ m.variables in
      let next : (body_site source f).next ≡ count = omega (arith, after_params f.params (record { environment = file_scope source; here = []; next = 0 })) in
      record {
        first = h.first (record { there = scalars_below own count; in_scope = first_scope m.variables });
        lists = h.lists (first_numbers count) (body_site source f) next first_names;
        closing = h.closing (first_numbers count) (body_site source f) next first_names;
        scopes = made_scopes source f m faithful;
      }

  judged_first : (j : Judged Made) → OnSound j (BodyFaithful f) → OnSound j (StatementsFirst f.body (scope_of source f) count)
      → OnSound j (λ m. IsFirstFunction source f (param_variables 0 f.params ++ variables_made j) (function_made (file_scope source) f m))
  judged_first (Sound m) faithful h = made_first m faithful h
  judged_first (Faulty first others) faithful h = tt

  pub function_first : AreWellSpelled f.body → OnSound (judged_function source f) (IsFirstFunction source f (own_variables source f))
  function_first spelled =
      on_pair (unless (signature_faults f) f) (body_of source f) _ (λ g. Unit {0})
      (λ m. IsFirstFunction source f (own_variables source f) (function_made (file_scope source) f m)) (IsFirstFunction source f (own_variables source f))
      (on_any (unless (signature_faults f) f))
      (judged_first (body_of source f) (body_faithful source f) (statements_first f.body (context_of source f) (scope_of source f) count 0 spelled))
      (λ g m _ h. h)
