-- The variables of a source, which its typed program has too.
use Rattle.std.specs.Prelude.{◌≡◌, ℕ, List, [], ◌++◌, Some, length, map, slice_get}
use Rattle.gang_types.specs.declared.places.VarId.TheVariants.{Local}
use Rattle.gang_model.specs.Types.Tree.{Variable}
use Rattle.gang_model.specs.Source.Parsed.{ParsedFunction, ParsedSource, functions_in, globals_in}
use Rattle.gang_model.specs.Source.Judged.{Judged, Sound, Faulty}
use Rattle.gang_model.specs.Types.Signatures.{result_of}
use Rattle.gang_model.specs.Types.Statements.{Made, statements}
use Rattle.gang_model.specs.Types.Resolved.{file_variables, global_entries, param_entries, param_variables}
use Rattle.machine_states.specs.Variables.{Variables, own_of}
use Rattle.codegen.specs.Programs as programs
use Rattle.typed_tree.specs.declared.program.Program.{Program}

-- the variables that a body declares
abbrev pub variables_made : Judged Made → List Variable
variables_made (Sound made) = made.variables
variables_made (Faulty first others) = []

-- the variables of a function, by their numbers, the parameters first
abbrev pub own_variables : ParsedSource → ParsedFunction → List Variable
own_variables source f = param_variables 0 f.params
    ++ variables_made (statements f.body (record { functions = functions_in source; result = result_of f.spec })
    (param_entries 0 f.params (global_entries 0 (globals_in source))) (length f.params) 0)

-- the variables of a source
abbrev pub source_variables : ParsedSource → Variables
source_variables source = record {
  file = file_variables 0 (globals_in source);
  own = map (own_variables source) (functions_in source);
  parameters = map (λ f. length f.params) (functions_in source);
}

-- a typed program's functions have the variables of the source's, by their numbers
abbrev pub HasVariablesOf : ParsedSource → Program → Type 0
HasVariablesOf source program = map programs.own_variables program.functions.items ≡ map (own_variables source) (functions_in source)

-- a name in scope is one of the function's variables, by its number
abbrev pub IsOwnName : Variables → (function : ℕ) → Variable → Type 0
IsOwnName variables function v = (k : ℕ) × (slice_get (own_of variables function) k ≡ Some v) × (v.id ≡ Local k)
