-- Statements that hold no others.
use Rattle.std.specs.Prelude.{Bool, true, false}
use Rattle.gang_model.specs.Types.Tree as tree
use Rattle.gang_model.specs.Types.Tree.{StepNumber}
use Rattle.gang_model.specs.Types.Calls.{Context}
use Rattle.gang_model.specs.Types.Typing.{Scope}
use Rattle.gang_model.specs.Types.Statements.{assignment, returning}
use Rattle.gang_model.specs.Source.Parsed.{ParsedStmt, ParsedEmpty, ParsedDeclare, ParsedAssign, ParsedChange, ParsedIncrement, ParsedDoCall, ParsedBreak, ParsedContinue, ParsedReturn}
use Rattle.gang_model.specs.Source.Judged.{Judged, Sound}
use Rattle.type_check_parts.specs.Beside.{call_statement}
use Rattle.type_check_parts.specs.Changes.{change_of, increment_of}

-- whether a statement is one step and declares nothing
abbrev pub is_single : ParsedStmt → Bool
is_single (ParsedAssign p target e) = true
is_single (ParsedChange p target op e) = true
is_single (ParsedIncrement p target op) = true
is_single (ParsedDoCall p name args) = true
is_single (ParsedBreak p) = true
is_single (ParsedContinue p) = true
is_single (ParsedReturn p e) = true
is_single s = false

-- whether a statement holds no other
abbrev pub is_simple : ParsedStmt → Bool
is_simple ParsedEmpty = true
is_simple (ParsedDeclare p spec at name e) = true
is_simple s = is_single s

-- the typed form of a statement that is one step and declares nothing
abbrev pub single : ParsedStmt → Context → Scope → StepNumber → Judged tree.Stmt
single (ParsedAssign p target e) context scope step = assignment context scope target e step
single (ParsedChange p target op e) context scope step = change_of scope target op e step
single (ParsedIncrement p target op) context scope step = increment_of scope target op step
single (ParsedDoCall p name args) context scope step = call_statement context scope (record { at = p; name = name; args = args }) step
single (ParsedBreak p) context scope step = Sound (tree.Break step)
single (ParsedContinue p) context scope step = Sound (tree.Continue step)
single (ParsedReturn p e) context scope step = returning context scope p e step
single s context scope step = Sound tree.Empty
