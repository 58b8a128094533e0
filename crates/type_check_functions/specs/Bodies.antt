-- The bodies of functions.
use Rattle.std.specs.Prelude.{◌≡◌, List, [], ◌++◌, Result, Ok, Err, Vec, length, map}
use Rattle.std.specs.declared.alloc.Global.{Global}
use Rattle.gang_model.specs.declared.refusals.SourceRefusal.{SourceRefusal}
use Rattle.gang_model.specs.Types.Tree as tree
use Rattle.gang_model.specs.Source.Parsed.{ParsedFunction, ParsedSource, functions_in, globals_in}
use Rattle.gang_model.specs.Source.Judged.{Judged, Sound, Faulty, ◌>>=◌}
use Rattle.gang_model.specs.Types.Signatures.{result_of}
use Rattle.gang_model.specs.Types.Typing.{Scope}
use Rattle.gang_model.specs.Types.Statements.{Made, statements}
use Rattle.gang_model.specs.Names.Scope.{NameStanding}
use Rattle.gang_model.specs.Types.Resolved.{global_entries, param_entries, param_variables, rate_or_uniform, standing_with, type_or_int32}
use Rattle.source_answers.specs.declared.fault.SourceFault.{SourceFault}
use Rattle.source_answers.specs.declared.fault.SourceFault.TheVariants.{Refused}
use Rattle.typed_tree.specs.Views.{stmts_view, variable_view}
use Rattle.typed_tree.specs.declared.statements.Stmt.{Stmt}
use Rattle.typed_tree.specs.declared.program.Variable.{Variable}
use Rattle.typed_tree.specs.declared.program.Function.{Function}
use Rattle.type_check_functions.specs.declared.bodies.Body.{Body}

-- a body with the variables of its function
abbrev pub WithVariables : Type 0
WithVariables = tree.Stmt × List tree.Variable

abbrev pub body_view : Body → WithVariables
body_view b = (stmts_view b.statements.items, map variable_view b.variables.items)

-- the body of some statements, unless they have a fault
abbrev pub body_made : Result (Vec Stmt Global) SourceRefusal → Vec Variable Global → Result Body SourceFault
body_made (Ok statements) variables = Ok (record { statements = statements; variables = variables })
body_made (Err fault) variables = Err (Refused fault)

-- a function's body, and the function's variables by their numbers, the parameters first
abbrev pub judged_body : (functions : List ParsedFunction) → ParsedFunction → (file : Scope) → Judged WithVariables
judged_body functions f file = do
  made ← statements f.body (record { functions = functions; result = result_of f.spec }) (param_entries 0 f.params file) (length f.params) 0
  Sound (made.stmt, param_variables 0 f.params ++ made.variables)

-- a function with its body and its steps
abbrev pub with_body : ParsedFunction → WithVariables → List NameStanding → tree.Function
with_body f body standings = record {
  name = f.name;
  result = rate_or_uniform (result_of f.spec);
  result_type = type_or_int32 (result_of f.spec);
  body = body.0;
  standings = map (standing_with body.1) standings;
}

-- ---- variables

-- the variables that statements declare, by their numbers
abbrev pub variables_made : Judged Made → List tree.Variable
variables_made (Sound made) = made.variables
variables_made (Faulty first others) = []

-- the variables of a function of a source, by their numbers, the parameters first
abbrev pub declared_variables : ParsedSource → ParsedFunction → List tree.Variable
declared_variables source f = param_variables 0 f.params
    ++ variables_made (statements f.body (record { functions = functions_in source; result = result_of f.spec })
    (param_entries 0 f.params (global_entries 0 (globals_in source))) (length f.params) 0)

-- the variables of a function in the typed tree
abbrev pub own_variables : Function → List tree.Variable
own_variables f = map variable_view f.variables.items

-- each function has the variables that the source declares in it
abbrev pub AreVariablesOf : ParsedSource → List Function → Type 0
AreVariablesOf source functions = map own_variables functions ≡ map (declared_variables source) (functions_in source)
