-- Statements inside others.
use Rattle.std.specs.Prelude.{Bool, true, false}
use Rattle.gang_model.specs.Source.Parsed.{ParsedStmt, ParsedBlock, ParsedIf, ParsedIfElse, ParsedWhile, ParsedDo, ParsedFor, ParsedSwitch, ParsedForEach, ParsedForEachActive, ParsedForEachUnique}

-- whether a statement is of a form that holds others
abbrev pub holds_others : ParsedStmt → Bool
holds_others (ParsedBlock ss) = true
holds_others (ParsedIf p e a) = true
holds_others (ParsedIfElse p e a b) = true
holds_others (ParsedWhile p e body) = true
holds_others (ParsedDo body p e) = true
holds_others (ParsedFor p start e update body) = true
holds_others (ParsedSwitch p e segments) = true
holds_others (ParsedForEach p is_tiled dims body) = true
holds_others (ParsedForEachActive p at name body) = true
holds_others (ParsedForEachUnique p at name e body) = true
holds_others s = false
