-- A sound function is well-scoped, with variables of its own in scope at each of its steps.
use Rattle.std.proofs.Common.{ℕ, ◌≤◌, List, ◌++◌, length, ◌≡◌, refl, sym, ap, subst, arith}
use Rattle.std.specs.Prelude.{All, map, Some, slice_get}
use Rattle.gang_types.specs.declared.places.VarId.{VarId}
use Rattle.gang_types.specs.declared.places.VarId.TheVariants.{File, Local}
use Rattle.gang_model.specs.Types.Tree.{Variable, Standing}
use Rattle.gang_model.specs.Types.WellScoped.{Table, variable_at}
use Rattle.gang_model.specs.Source.Parsed.{ParsedFunction, ParsedSource, functions_in, globals_in}
use Rattle.gang_model.specs.Source.SpellsSource.{max_params}
use Rattle.gang_model.specs.Source.Judged.{Judged, Sound, Faulty, unless}
use Rattle.gang_model.specs.Names.Scope.{file_scope, standings_of}
use Rattle.gang_model.specs.Types.TypeFaults.{signature_faults}
use Rattle.gang_model.specs.Types.Statements.{Made}
use Rattle.gang_model.specs.Types.Resolved.{global_entries, param_variables, function_made, judged_function, file_variables}
use Rattle.gang_model.proofs.JudgedLaws.{OnSound, on_any, on_pair}
use Rattle.gang_model.proofs.StandingLaws.{Each, each_left, each_right, AllFound}
use Rattle.gang_model.proofs.VariableLaws.{Consecutive, function_numbers, steps_found}
use Rattle.gang_model.proofs.ScopedStmts.{ScopeScoped, Own, AllRight, statements_scoped}
use Rattle.gang_model.proofs.ScopedPrograms.{own_found, file_found, params_found}
use Rattle.machine_states.specs.Variables.{Variables, own_of, variable_of}
use Rattle.machine_states.specs.WellScoped.{IsWellScopedFunction}
use Rattle.machine_states.proofs.Elements.{each_get, get_mapped}
use Rattle.runnable_programs.specs.Sources.{source_variables, variables_made}
use Rattle.runnable_programs.proofs.FewParameters.{HasFewParams}
use Rattle.runnable_programs.proofs.OwnNames.{IsOneOf, scopes_own}
use Rattle.runnable_programs.proofs.OwnVariables.{context_of, scope_of, body_of, BodyFaithful, body_faithful, own_bound, own_is, parameters_first}
use Rattle.runnable_programs.proofs.WellScopedForms.{MadeWellScoped, statements_well_scoped}
use Rattle.runnable_programs.proofs.ScopedTrees.{AreParameters, IsTable, stmt_well_scoped}
use Rattle.runnable_programs.proofs.WellSpelled.{HasWellSpelledBody, IsWellSpelledSource}

-- what is in scope at the steps of a function is among its own variables
pub made_scopes : (source : ParsedSource) (f : ParsedFunction) (m : Made) → BodyFaithful f m → (number : ℕ) (there : Standing)
    → slice_get (function_made (file_scope source) f m).standings number ≡ Some there → All (IsOneOf (param_variables 0 f.params ++ m.variables)) there.scope
made_scopes source f m faithful =
    scopes_own (param_variables 0 f.params ++ m.variables) (standings_of (file_scope source) f)
    (subst (λ bs. Each (AllFound bs) (standings_of (file_scope source) f)) (sym (own_bound f m faithful)) (steps_found source f))

-- ---- functions

module _ (source : ParsedSource) (spelled : IsWellSpelledSource source) (few : HasFewParams source)
    (n : ℕ) (f : ParsedFunction) (at : slice_get (functions_in source) n ≡ Some f) where
  abbrev variables : Variables
  variables = source_variables source

  module _ (m : Made) (owned : own_of variables n ≡ param_variables 0 f.params ++ m.variables) (faithful : BodyFaithful f m) (well_scoped : MadeWellScoped m) where
    abbrev own : List Variable
    own = param_variables 0 f.params ++ m.variables

    abbrev table : Table
    table = record { file = file_variables 0 (globals_in source); own = own; parameters = map (λ g. param_variables 0 g.params) (functions_in source) }

    same_variable : (id : VarId) → variable_of variables n id ≡ variable_at table id
    same_variable (File k) = refl
    same_variable (Local k) = ap (λ vs. slice_get vs k) owned

    table_is : IsTable variables n table
    table_is = record {
      same = same_variable;
      parameters = λ called parameters e.
          let g = get_mapped (λ h. param_variables 0 h.params) (functions_in source) called parameters e in
          subst (AreParameters variables called) g.2
          (parameters_first source called g.0 g.1 (each_get (λ h. length h.params ≤ max_params) (functions_in source) called g.0 few g.1));
    }

    own_in_table : Each (Own table) own
    own_in_table =
        own_found table 0 own (subst (Consecutive 0) (sym (own_bound f m faithful)) (function_numbers f)) (λ i v e. subst (λ k. slice_get own k ≡ Some v) (omega arith) e)

    scope_in_table : ScopeScoped table (scope_of source f)
    scope_in_table =
        params_found table 0 f.params (global_entries 0 (globals_in source))
        (file_found table 0 (globals_in source) (λ i v e. subst (λ k. slice_get table.file k ≡ Some v) (omega arith) e))
        (each_left (Own table) (param_variables 0 f.params) m.variables own_in_table)

    made_well_scoped : AllRight table (scope_of source f) m → IsWellScopedFunction variables n (function_made (file_scope source) f m)
    made_well_scoped right = record {
      body = stmt_well_scoped variables n table table_is m.stmt well_scoped.0 (right scope_in_table (each_right (Own table) (param_variables 0 f.params) m.variables own_in_table));
      scopes = λ number there e. subst (λ vs. All (IsOneOf vs) there.scope) (sym owned) (made_scopes source f m faithful number there e);
    }

  body_well_scoped : (j : Judged Made) → own_of variables n ≡ param_variables 0 f.params ++ variables_made j → OnSound j (BodyFaithful f) → OnSound j MadeWellScoped
      → ((table : Table) → table.parameters ≡ map (λ g. param_variables 0 g.params) (functions_in source) → OnSound j (AllRight table (scope_of source f)))
      → OnSound j (λ m. IsWellScopedFunction variables n (function_made (file_scope source) f m))
  body_well_scoped (Sound m) owned faithful well_scoped right = made_well_scoped m owned faithful well_scoped (right (table m owned faithful well_scoped) refl)
  body_well_scoped (Faulty first others) owned faithful well_scoped right = tt

  -- a sound function is well-scoped
  pub function_well_scoped : OnSound (judged_function source f) (IsWellScopedFunction variables n)
  function_well_scoped =
      let body = each_get HasWellSpelledBody (functions_in source) n f spelled at in
      on_pair (unless (signature_faults f) f) (body_of source f) _ (λ g. Unit {0}) (λ m. IsWellScopedFunction variables n (function_made (file_scope source) f m)) (IsWellScopedFunction variables n)
      (on_any (unless (signature_faults f) f))
      (body_well_scoped (body_of source f) (own_is source n f at) (body_faithful source f)
      (statements_well_scoped f.body (context_of source f) (scope_of source f) (length f.params) 0 body)
      (λ table calls. statements_scoped table f.body (context_of source f) (scope_of source f) (length f.params) 0 calls))
      (λ g m _ h. h)
