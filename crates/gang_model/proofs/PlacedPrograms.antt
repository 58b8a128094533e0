-- In the typed tree of an accepted source each control statement stands where it may.
use Rattle.std.proofs.Common.{List, [], ◌∷◌, ◌++◌, ◌≡◌, length}
use Rattle.std.specs.Prelude.{◌||◌, map, is_some, Some}
use Rattle.std.specs.List.{flat_map}
use Rattle.gang_model.specs.declared.refusals.RefusalNumber.TheVariants.{S6}
use Rattle.gang_model.specs.Types.Tree.{Program}
use Rattle.gang_model.specs.Types.WellPlaced.{StmtPlaced, FunctionsPlaced}
use Rattle.gang_model.specs.Source.Parsed.{Name, ParsedFunction, ParsedSource, functions_in, globals_in}
use Rattle.gang_model.specs.Names.Scope.{function_site, file_scope}
use Rattle.gang_model.specs.Source.Judged.{unless, fault_if}
use Rattle.gang_model.proofs.JudgedLaws.{OnSound, on_any, on_pair}
use Rattle.gang_model.specs.Types.LibraryTable.{is_library_name, statement_call}
use Rattle.gang_model.specs.Types.Signatures.{result_of}
use Rattle.gang_model.specs.Types.Calls.{Context}
use Rattle.gang_model.specs.Types.TypeFaults.{signature_faults}
use Rattle.gang_model.specs.Types.Statements.{statements}
use Rattle.gang_model.specs.Names.NameFaults.{in_function, stmts_names, params_twice, function_names, globals_twice, functions_twice}
use Rattle.gang_model.specs.Types.Resolved.{param_entries, global_entries, judged_globals, judged_function, judged_functions, judged_program, program_of}
use Rattle.gang_model.specs.Types.SourceRefusals.{IsAccepted}
use Rattle.gang_model.proofs.RefusalLaws.{accepted-names}
use Rattle.gang_model.proofs.VariableLaws.{on_some}
use Rattle.gang_model.proofs.PlacedStmts.{MadePlaced, left_none, right_none, statements_placed}

-- the names of a source's functions
abbrev pub function_names_of : ParsedSource → List Name
function_names_of source = map (λ f. f.name) (functions_in source)

function_placed : (source : ParsedSource) (f : ParsedFunction) → function_names (function_names_of source) (file_scope source) f ≡ []
    → OnSound (judged_function source f) (λ g. StmtPlaced (in_function (function_names_of source)) g.body)
function_placed source f e =
    let may = in_function (function_names_of source) in
    let context : Context = record { functions = functions_in source; result = result_of f.spec } in
    let scope = param_entries 0 f.params (global_entries 0 (globals_in source)) in
    let own = fault_if (is_library_name f.name || is_some (statement_call f.name)) S6 f.at in
    let params = params_twice f.params (function_site (file_scope source) []) in
    let body = stmts_names f.body may (function_site (file_scope source) f.params) in
    on_pair (unless (signature_faults f) f) (statements f.body context scope (length f.params) 0) _ (λ g. Unit {0}) (MadePlaced may) (λ g. StmtPlaced may g.body) (on_any (unless (signature_faults f) f))
    (statements_placed f.body may (function_site (file_scope source) f.params) context scope (length f.params) 0 (right_none params body (right_none own (params ++ body) e)))
    (λ g m _ h. h)

functions_placed : (source : ParsedSource) (functions : List ParsedFunction)
    → flat_map (function_names (function_names_of source) (file_scope source)) functions ≡ [] → OnSound (judged_functions source functions) (FunctionsPlaced (function_names_of source))
functions_placed source [] e = tt
functions_placed source (f ∷ functions) e =
    let names = function_names_of source in
    let of_f = function_names names (file_scope source) f in
    let later = flat_map (function_names names (file_scope source)) functions in
    on_pair (judged_function source f) (judged_functions source functions) _ (λ g. StmtPlaced (in_function names) g.body) (FunctionsPlaced names) (FunctionsPlaced names)
    (function_placed source f (left_none of_f later e)) (functions_placed source functions (right_none of_f later e)) (λ g typed h l. (h, l))

-- in the typed tree of an accepted source each `break`, `continue`, `return` and foreach form stands where it may
pub program_of-placed : (source : ParsedSource) (p : Program) → IsAccepted source → program_of source ≡ Some p → FunctionsPlaced (function_names_of source) p.functions
program_of-placed source p accepted e =
    let names = function_names_of source in
    let of_globals = globals_twice (globals_in source) [] in
    let twice = functions_twice (functions_in source) [] in
    let inside = flat_map (function_names names (file_scope source)) (functions_in source) in
    let none = right_none twice inside (right_none of_globals (twice ++ inside) (accepted-names source accepted)) in
    on_some (judged_program source) (λ q. FunctionsPlaced names q.functions) p
    (on_pair (judged_globals 0 (globals_in source)) (judged_functions source (functions_in source)) _ (λ g. Unit {0}) (FunctionsPlaced names) (λ q. FunctionsPlaced names q.functions)
    (on_any (judged_globals 0 (globals_in source))) (functions_placed source (functions_in source) none) (λ g typed _ h. h)) e
