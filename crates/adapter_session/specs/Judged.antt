-- Breakpoints and watches whose conditions are no expressions, whatever names there are.
use Rattle.std.specs.Prelude.{◌≡◌, Bool, true, false, List, [], ◌∷◌, Option, Some, None, Result, Ok, Err, if◌then◌else◌}
use Rattle.gang_model.specs.Source.Parsed.{ParsedExpr}
use Rattle.gang_model.specs.Texts.Text.{Bytes}
use Rattle.placed_expressions.specs.declared.answers.ExpressionRefusal.{ExpressionRefusal}
use Rattle.placed_expressions.specs.declared.answers.ExpressionRefusal.TheVariants as refusal
use Rattle.placed_expressions.specs.declared.answers.PlacedExpression.{PlacedExpression}
use Rattle.placed_expressions.specs.Placed.{IsWritten}
use Rattle.adapter_requests.specs.declared.reply.BreakpointFault.{BreakpointFault}
use Rattle.adapter_requests.specs.declared.reply.BreakpointFault.TheVariants as fault
use Rattle.adapter_requests.specs.declared.request.DataBreakpoint.{DataBreakpoint}
use Rattle.adapter_requests.specs.declared.request.FunctionBreakpoint.{FunctionBreakpoint}
use Rattle.adapter_requests.specs.declared.request.LineBreakpoint.{LineBreakpoint}
use Rattle.adapter_requests.specs.declared.request.Request.{Request}
use Rattle.adapter_requests.specs.declared.request.Request.TheVariants as request
use Rattle.adapter_session.specs.Changes.{text_of}

-- a text is an expression, from its first token to its last; or none, whatever names there are
abbrev pub IsExpression : (text : Bytes) → Type 0
IsExpression text = (written : ParsedExpr) × IsWritten text written

abbrev pub IsNoExpression : (text : Bytes) → Type 0
IsNoExpression text = (written : ParsedExpr) → IsWritten text written → ⊥

abbrev pub IsExpressionOrNot : (text : Bytes) → (is_expression : Bool) → Type 0
IsExpressionOrNot text true = IsExpression text
IsExpressionOrNot text false = IsNoExpression text

-- whether a text is an expression, by why it has no value somewhere; nothing is known where memory ran out
abbrev pub is_written_where : ExpressionRefusal → Option Bool
is_written_where refusal.Memory = None
is_written_where (refusal.NoTokens r) = Some false
is_written_where (refusal.NoExpression r) = Some false
is_written_where other = Some true

-- the same by what came of placing it there
abbrev pub is_written : Result PlacedExpression ExpressionRefusal → Option Bool
is_written (Ok placed) = Some true
is_written (Err r) = is_written_where r

-- whether an entry can have this condition, or none
abbrev pub IsCondition : Option Bytes → (is_condition : Bool) → Type 0
IsCondition None is_condition = is_condition ≡ true
IsCondition (Some text) is_condition = IsExpressionOrNot text is_condition

-- what becomes of an entry by whether it can have its condition
abbrev pub judged_by : {A : Type 0} → (is_condition : Bool) → (asked : A) → Result A BreakpointFault
judged_by is_condition asked = if is_condition then Ok asked else Err fault.NoExpression

-- an entry is refused whose condition is no expression; one that is refused stays so
abbrev pub IsJudged : {A : Type 0} → (condition : A → Option Bytes) → (asked judged : Result A BreakpointFault) → Type 0
IsJudged condition (Err why) judged = judged ≡ Err why
IsJudged condition (Ok asked) judged = (is_condition : Bool) × IsCondition (condition asked) is_condition × (judged ≡ judged_by is_condition asked)

-- the same of each entry, in order
abbrev pub AreJudged : {A : Type 0} → (condition : A → Option Bytes) → (asked judged : List (Result A BreakpointFault)) → Type 0
AreJudged condition [] [] = Unit {0}
AreJudged condition (asked ∷ others) (judged ∷ more) = IsJudged condition asked judged × AreJudged condition others more
AreJudged condition asked judged = ⊥

-- the conditions of entries
abbrev pub of_line : LineBreakpoint → Option Bytes
of_line b = text_of b.condition

abbrev pub of_function : FunctionBreakpoint → Option Bytes
of_function b = text_of b.condition

abbrev pub of_watch : DataBreakpoint → Option Bytes
of_watch b = text_of b.condition

-- a request as it is done: one for breakpoints or watches with each entry judged, and each other one as it stands
abbrev pub IsJudgedRequest : Request → (meant : Request) → Type 0
IsJudgedRequest (request.SetBreakpoints source lines) (request.SetBreakpoints other judged) = (other ≡ source) × AreJudged of_line lines.items judged.items
IsJudgedRequest (request.SetBreakpoints source lines) meant = ⊥
IsJudgedRequest (request.SetFunctionBreakpoints functions) (request.SetFunctionBreakpoints judged) = AreJudged of_function functions.items judged.items
IsJudgedRequest (request.SetFunctionBreakpoints functions) meant = ⊥
IsJudgedRequest (request.SetDataBreakpoints targets) (request.SetDataBreakpoints judged) = AreJudged of_watch targets.items judged.items
IsJudgedRequest (request.SetDataBreakpoints targets) meant = ⊥
IsJudgedRequest request meant = meant ≡ request
