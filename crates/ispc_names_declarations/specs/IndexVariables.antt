-- The faults of the index variables of a `foreach`, apart from those of its bounds.
use Rattle.std.specs.Prelude.{List, [], ◌∷◌, ◌++◌}
use Rattle.gang_model.specs.declared.refusals.SourceRefusal.{SourceRefusal}
use Rattle.gang_model.specs.Source.Parsed.{ParsedDim}
use Rattle.gang_model.specs.Names.Scope.{Site, with_name}
use Rattle.gang_model.specs.Names.NameFaults.{twice}

-- S6 at an index variable with the name of one before it
abbrev pub dims_twice : List ParsedDim → Site → List SourceRefusal
dims_twice [] site = []
dims_twice (d ∷ dims) site = twice site d.at d.name ++ dims_twice dims (with_name d.name site)
