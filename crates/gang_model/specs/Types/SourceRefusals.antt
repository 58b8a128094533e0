-- The refusal of a source by its names and types (a choice of this project: all faults of names come before those of types,
-- and in each the least fault is named). `resolve` answers `names_refusal`, `check` answers `types_refusal`.
use Rattle.std.specs.Prelude.{◌≡◌, Option, Some, None}
use Rattle.gang_model.specs.declared.refusals.SourceRefusal.{SourceRefusal}
use Rattle.gang_model.specs.Source.Parsed.{ParsedSource}
use Rattle.gang_model.specs.Source.Judged.{least_fault}
use Rattle.gang_model.specs.Names.NameFaults.{name_faults}
use Rattle.gang_model.specs.Types.Resolved.{type_faults}

-- the least fault of names: S5, S6, S11 or S12
abbrev pub names_refusal : ParsedSource → Option SourceRefusal
names_refusal source = least_fault (name_faults source)

-- the least fault of types: S7, S8, S9 or S10
abbrev pub types_refusal : ParsedSource → Option SourceRefusal
types_refusal source = least_fault (type_faults source)

-- the refusal of the first phase that has one
abbrev pub first_refusal : Option SourceRefusal → Option SourceRefusal → Option SourceRefusal
first_refusal (Some refusal) later = Some refusal
first_refusal None later = later

-- the refusal of a source by its names, else by its types
abbrev pub refusal_of : ParsedSource → Option SourceRefusal
refusal_of source = first_refusal (names_refusal source) (types_refusal source)

-- a source without a fault of names or types
abbrev pub IsAccepted : ParsedSource → Type 0
IsAccepted source = refusal_of source ≡ None
