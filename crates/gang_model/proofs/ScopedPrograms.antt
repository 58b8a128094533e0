-- A typed tree names only variables and functions that there are.
use Rattle.std.proofs.Common.{ℕ, suc, ◌+◌, true, List, [], ◌∷◌, ◌++◌, ◌≡◌, refl, sym, ◌∙◌, ap, subst, arith, length}
use Rattle.std.specs.Prelude.{map, slice_get, Some}
use Rattle.gang_types.specs.declared.places.VarId.TheVariants.{Local}
use Rattle.gang_model.specs.Types.Tree.{Variable, Function, Global, Program}
use Rattle.gang_model.specs.Types.WellScoped.{Table, variable_at, StmtScoped}
use Rattle.gang_model.specs.Source.Parsed.{ParsedParam, ParsedFunction, ParsedGlobal, ParsedSource, functions_in, globals_in}
use Rattle.gang_model.specs.Running.Numbering.{steps_in_all}
use Rattle.gang_model.specs.Source.Judged.{Judged, Sound, Faulty, unless}
use Rattle.gang_model.proofs.JudgedLaws.{OnSound, on_any, on_unless, on_pair}
use Rattle.gang_model.specs.Names.Bindings.{function_bindings, param_bindings, bindings_in_all, variable_bindings}
use Rattle.gang_model.proofs.NumberLaws.{Faithful, statements_faithful, two_parts}
use Rattle.gang_model.proofs.StandingLaws.{Each, each_left, each_right}
use Rattle.gang_model.proofs.VariableLaws.{Consecutive, function_numbers, params_bound, on_some}
use Rattle.gang_model.proofs.ScopedStmts.{ScopeScoped, Own, AllRight, statements_scoped}
use Rattle.gang_model.specs.Types.Signatures.{result_of}
use Rattle.gang_model.specs.Types.Typing.{Scope, declared}
use Rattle.gang_model.specs.Types.Calls.{Context}
use Rattle.gang_model.specs.Types.TypeFaults.{signature_faults, global_faults}
use Rattle.gang_model.specs.Types.Statements.{Made, statements}
use Rattle.gang_model.specs.Types.Resolved.{global_entry, global_entries, global_of, file_variables, judged_globals, param_variables, param_entries, judged_function, judged_functions, judged_program, program_of}

-- the table of a function with these variables of its own
abbrev pub table_of : ParsedSource → List Variable → Table
table_of source own = record {
  file = file_variables 0 (globals_in source);
  own = own;
  parameters = map (λ f. param_variables 0 f.params) (functions_in source);
}

-- a function of the typed tree names only its own variables, which are those that it declares, and the file's
abbrev pub FunctionScoped : ParsedSource → ParsedFunction → Function → Type 0
FunctionScoped source f g = (own : List Variable) × (variable_bindings own ≡ function_bindings f) × StmtScoped (table_of source own) g.body

-- variables with the numbers from k on stand in the table
pub own_found : (table : Table) (k : ℕ) (later : List Variable) → Consecutive k (variable_bindings later)
    → ((i : ℕ) (v : Variable) → slice_get later i ≡ Some v → slice_get table.own (k + i) ≡ Some v) → Each (Own table) later
own_found table k [] c at = tt
own_found table k (v ∷ later) c at = (
  ap (variable_at table) c.0 ∙ subst (λ n. slice_get table.own n ≡ Some v) (omega arith) (at 0 v refl),
  own_found table (suc k) later c.1 (λ i w h. subst (λ n. slice_get table.own n ≡ Some w) (omega arith) (at (suc i) w h)),
)

-- so do the variables of the file
pub file_found : (table : Table) (k : ℕ) (globals : List ParsedGlobal)
    → ((i : ℕ) (v : Variable) → slice_get (file_variables k globals) i ≡ Some v → slice_get table.file (k + i) ≡ Some v) → ScopeScoped table (global_entries k globals)
file_found table k [] at = tt
file_found table k (g ∷ globals) at = (
  subst (λ n. slice_get table.file n ≡ Some (global_entry k g).variable) (omega arith) (at 0 (global_entry k g).variable refl),
  file_found table (suc k) globals (λ i w h. subst (λ n. slice_get table.file n ≡ Some w) (omega arith) (at (suc i) w h)),
)

-- so are the parameters, in front of what is in scope
pub params_found : (table : Table) (k : ℕ) (params : List ParsedParam) (scope : Scope) → ScopeScoped table scope → Each (Own table) (param_variables k params)
    → ScopeScoped table (param_entries k params scope)
params_found table k [] scope h own = h
params_found table k (p ∷ params) scope h own = params_found table (suc k) params (declared p.name (Local k) p.spec p.is_array true ∷ scope) (own.0, h) own.1

function_scoped : (source : ParsedSource) (f : ParsedFunction) → OnSound (judged_function source f) (FunctionScoped source f)
function_scoped source f =
    let context : Context = record { functions = functions_in source; result = result_of f.spec } in
    let scope = param_entries 0 f.params (global_entries 0 (globals_in source)) in
    let body = statements f.body context scope (length f.params) 0 in
    on_pair (unless (signature_faults f) f) body _ (λ g. Unit {0})
    (λ m. (variable_bindings m.variables ≡ bindings_in_all f.body (length f.params)) × ((table : Table) → table.parameters ≡ map (λ g. param_variables 0 g.params) (functions_in source) → AllRight table scope m))
    (FunctionScoped source f) (on_any (unless (signature_faults f) f)) (body_right body context scope (statements_faithful f.body context scope (length f.params) 0)
    (λ table known. statements_scoped table f.body context scope (length f.params) 0 known))
    (λ g m _ h.
    let own = param_variables 0 f.params ++ m.variables in
    let named = two_parts (param_variables 0 f.params) m.variables (param_bindings 0 f.params) (bindings_in_all f.body (length f.params)) (params_bound 0 f.params) h.0 in
    let table = table_of source own in
    let all = own_found table 0 own (subst (Consecutive 0) (sym named) (function_numbers f)) (λ i v e. subst (λ n. slice_get own n ≡ Some v) (omega arith) e) in (
      own,
      named,
      h.1 table refl
          (params_found table 0 f.params (global_entries 0 (globals_in source))
          (file_found table 0 (globals_in source) (λ i v e. subst (λ n. slice_get table.file n ≡ Some v) (omega arith) e))
          (each_left (Own table) (param_variables 0 f.params) m.variables all))
          (each_right (Own table) (param_variables 0 f.params) m.variables all),
    ))
  where
    body_right : (j : Judged Made) (context : Context) (scope : Scope) → OnSound j (Faithful (steps_in_all f.body) 0 (bindings_in_all f.body (length f.params)))
        → ((table : Table) → table.parameters ≡ map (λ g. param_variables 0 g.params) context.functions → OnSound j (AllRight table scope))
        → OnSound j (λ m. (variable_bindings m.variables ≡ bindings_in_all f.body (length f.params)) × ((table : Table) → table.parameters ≡ map (λ g. param_variables 0 g.params) context.functions → AllRight table scope m))
    body_right (Sound m) context scope h right = (h.2, right)
    body_right (Faulty first others) context scope h right = tt

-- the functions of the typed tree, each for its own in the tree as written
abbrev pub FunctionsScoped : ParsedSource → List ParsedFunction → List Function → Type 0
FunctionsScoped source [] [] = Unit {0}
FunctionsScoped source [] (g ∷ typed) = ⊥
FunctionsScoped source (f ∷ functions) [] = ⊥
FunctionsScoped source (f ∷ functions) (g ∷ typed) = FunctionScoped source f g × FunctionsScoped source functions typed

functions_scoped : (source : ParsedSource) (functions : List ParsedFunction) → OnSound (judged_functions source functions) (FunctionsScoped source functions)
functions_scoped source [] = tt
functions_scoped source (f ∷ functions) =
    on_pair (judged_function source f) (judged_functions source functions) _ (FunctionScoped source f) (FunctionsScoped source functions) (FunctionsScoped source (f ∷ functions))
    (function_scoped source f) (functions_scoped source functions) (λ g typed first later. (first, later))

-- the variables of the file, in the typed tree
abbrev pub variables_of_globals : List Global → List Variable
variables_of_globals [] = []
variables_of_globals (g ∷ globals) = g.variable ∷ variables_of_globals globals

globals_same : (k : ℕ) (globals : List ParsedGlobal) → OnSound (judged_globals k globals) (λ gs. variables_of_globals gs ≡ file_variables k globals)
globals_same k [] = refl
globals_same k (g ∷ globals) =
    let one = unless (global_faults g) (global_of k g) in
    on_pair one (judged_globals (suc k) globals) _ (λ x. x.variable ≡ (global_entry k g).variable) (λ gs. variables_of_globals gs ≡ file_variables (suc k) globals)
    (λ gs. variables_of_globals gs ≡ file_variables k (g ∷ globals)) (on_unless (global_faults g) (global_of k g) (λ x. x.variable ≡ (global_entry k g).variable) refl)
    (globals_same (suc k) globals)
    (λ x gs e d. ap (λ v. v ∷ variables_of_globals gs) e ∙ ap (λ vs. (global_entry k g).variable ∷ vs) d)

-- a typed tree has the variables of the file, and its functions name only variables and functions that there are
abbrev pub ProgramScoped : ParsedSource → Program → Type 0
ProgramScoped source p = (variables_of_globals p.globals ≡ file_variables 0 (globals_in source)) × FunctionsScoped source (functions_in source) p.functions

pub program_of-scoped : (source : ParsedSource) (p : Program) → program_of source ≡ Some p → ProgramScoped source p
program_of-scoped source p e =
    on_some (judged_program source) (ProgramScoped source) p
    (on_pair (judged_globals 0 (globals_in source)) (judged_functions source (functions_in source)) _ (λ gs. variables_of_globals gs ≡ file_variables 0 (globals_in source))
    (FunctionsScoped source (functions_in source)) (ProgramScoped source) (globals_same 0 (globals_in source)) (functions_scoped source (functions_in source)) (λ gs fs h k. (h, k))) e
