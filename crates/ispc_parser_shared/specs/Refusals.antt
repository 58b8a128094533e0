-- Why tokens have no tree.
use Rattle.std.specs.Prelude.{◌≡◌}
use Rattle.source_answers.specs.declared.fault.SourceFault.{SourceFault}
use Rattle.source_answers.specs.declared.fault.SourceFault.TheVariants.{Memory, Refused}
use Rattle.ispc_parser_words.specs.Front.{IsParserNumber}

-- S3, S4 or S13
abbrev pub IsRefusal : SourceFault → Type 0
IsRefusal Memory = ⊥
IsRefusal (Refused r) = IsParserNumber r.number

-- a fault that may stand in place of another one
abbrev pub IsSooner : (fault other : SourceFault) → Type 0
IsSooner Memory other = other ≡ Memory
IsSooner (Refused r) other = IsParserNumber r.number → IsRefusal other
