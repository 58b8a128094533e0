-- The faults of names of a list of file-scope variables and of a list of functions.
use Rattle.std.specs.Prelude.{List, [], ◌++◌, map}
use Rattle.std.specs.List.{flat_map}
use Rattle.gang_model.specs.declared.refusals.SourceRefusal.{SourceRefusal}
use Rattle.gang_model.specs.Source.Parsed.{ParsedGlobal, ParsedFunction}
use Rattle.gang_model.specs.Names.NameFaults.{function_names, globals_twice, functions_twice}
use Rattle.gang_model.specs.Names.Scope.{file_bindings}

abbrev pub names_of_all : List ParsedGlobal → List ParsedFunction → List SourceRefusal
names_of_all globals functions =
    globals_twice globals []
    ++ (functions_twice functions [] ++ flat_map (function_names (map (λ f. f.name) functions) (file_bindings 0 globals)) functions)
