-- The numbers of the steps of a function, in the order in which they run: a loop's body, then its update, then its test;
-- a foreach form's head, its body, then its rounds. A function's closing brace has the number of the steps before it.
use Rattle.std.specs.Prelude.{ℕ, ◌+◌}
use Rattle.gang_model.specs.Source.Parsed.{ParsedStmt, ParsedEmpty, ParsedBlock, ParsedIf, ParsedIfElse, ParsedWhile, ParsedDo, ParsedFor, ParsedSwitch, ParsedForEach, ParsedForEachActive, ParsedForEachUnique, ParsedStmts, ParsedLast, ParsedNext, ParsedSegments, ParsedNoMore, ParsedSegment}

abbrev mutual
  -- how many steps a statement has
  pub steps_in : ParsedStmt → ℕ
  steps_in ParsedEmpty = 0
  steps_in (ParsedBlock ss) = steps_in_all ss
  steps_in (ParsedIf p e a) = 1 + steps_in a
  steps_in (ParsedIfElse p e a b) = 1 + steps_in a + steps_in b
  steps_in (ParsedWhile p e body) = steps_in body + 1
  steps_in (ParsedDo body p e) = steps_in body + 1
  steps_in (ParsedFor p start e update body) = steps_in start + steps_in body + steps_in update + 1
  steps_in (ParsedSwitch p e segments) = 1 + steps_in_segments segments
  steps_in (ParsedForEach p is_tiled dims body) = steps_in body + 2
  steps_in (ParsedForEachActive p at name body) = steps_in body + 2
  steps_in (ParsedForEachUnique p at name e body) = steps_in body + 2
  steps_in s = 1

  pub steps_in_all : ParsedStmts → ℕ
  steps_in_all ParsedLast = 0
  steps_in_all (ParsedNext s ss) = steps_in s + steps_in_all ss

  pub steps_in_segments : ParsedSegments → ℕ
  steps_in_segments ParsedNoMore = 0
  steps_in_segments (ParsedSegment p label ss rest) = steps_in_all ss + steps_in_segments rest
