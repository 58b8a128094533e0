-- The names that stand twice in lists of file-scope variables and of functions, where those before stand in the order of the
-- source.
use Rattle.std.specs.Prelude.{◌||◌, List, [], ◌∷◌, ◌++◌}
use Rattle.gang_model.specs.declared.refusals.RefusalNumber.TheVariants.{S6}
use Rattle.gang_model.specs.declared.refusals.SourceRefusal.{SourceRefusal}
use Rattle.gang_model.specs.Source.Judged.{fault_if}
use Rattle.gang_model.specs.Source.Parsed.{Name, ParsedGlobal, ParsedFunction}
use Rattle.gang_model.specs.Types.LibraryTable.{is_among}
use Rattle.gang_model.specs.Names.Scope.{is_built_in}
use Rattle.ispc_names_declarations.specs.SignatureKeys.{signature_key}

-- those with the name of one before, or with one that nothing may declare
abbrev pub later_globals : List ParsedGlobal → List Name → List SourceRefusal
later_globals [] before = []
later_globals (g ∷ globals) before = fault_if (is_among g.name before || is_built_in g.name) S6 g.at ++ later_globals globals (before ++ g.name ∷ [])

-- those with the signature of one before, by the texts of the signatures
abbrev pub later_functions : List ParsedFunction → List Name → List SourceRefusal
later_functions [] before = []
later_functions (f ∷ functions) before = fault_if (is_among (signature_key f) before) S6 f.at ++ later_functions functions (before ++ signature_key f ∷ [])
