-- The faults of the bounds of a `foreach`, apart from those of its index variables.
use Rattle.std.specs.Prelude.{List, [], ◌∷◌, ◌++◌}
use Rattle.gang_model.specs.declared.refusals.SourceRefusal.{SourceRefusal}
use Rattle.gang_model.specs.Source.Parsed.{Name, ParsedDim}
use Rattle.gang_model.specs.Names.Scope.{Environment}
use Rattle.gang_model.specs.Names.NameFaults.{names_in}

abbrev pub bounds_names : List ParsedDim → List Name → Environment → List SourceRefusal
bounds_names [] functions outside = []
bounds_names (d ∷ dims) functions outside = (names_in d.low functions outside ++ names_in d.high functions outside) ++ bounds_names dims functions outside
