-- An expression that stands in no other one is read exactly where it is spelled so, within the limits.
use Rattle.std.proofs.Common.{◌≡◌, ℕ, ◌-◌, ◌<◌, ◌≤◌, List, length, Some, true, refl, subst, arith}
use Rattle.gang_model.specs.declared.marks.Mark.TheVariants as mark
use Rattle.gang_model.specs.Source.Tokens.{Lexeme, marked}
use Rattle.gang_model.specs.Source.Parsed.{ParsedExpr, ParsedArgs}
use Rattle.gang_model.specs.Source.Spells.{Takes, Stops, any_level, weight, max_weight, WholeExpr, WholeArgs}
use Rattle.ispc_parser_expressions.specs.declared.budget.Budget.TheVariants as budget
use Rattle.ispc_parser_expressions.specs.Parse.{expr_of, counted, args_of, parsers, whole_expr, whole_args}
use Rattle.ispc_lexer.proofs.Runs.{bind_some}
use Rattle.ispc_parser_expressions.proofs.Sound.{expr_sound}
use Rattle.ispc_parser_expressions.proofs.ArgsSound.{args_sound as all_sound, parsers_sound}
use Rattle.ispc_parser_expressions.proofs.Starts.{spelled_shorter, items_shorter}
use Rattle.ispc_parser_expressions.proofs.Complete.{expr_complete}
use Rattle.ispc_parser_expressions.proofs.ArgsComplete.{args_complete as all_complete, parsers_complete}
use Rattle.std.proofs.lemmas.Option.{same_Some}

-- ---- expressions

pub whole_sound : (d : ℕ) (e : ParsedExpr) (ts rest : List Lexeme) → whole_expr d ts ≡ Some (e, rest) → WholeExpr d e ts rest
unfolding whole_expr
whole_sound d e ts rest h =
    let q = bind_some (expr_of (parsers d) max_weight ts) _ (e, rest) h in
    let i = expr_sound d (parsers d) (parsers_sound d) max_weight ts q.0 q.1 in
    subst (λ (y : ParsedExpr × List Lexeme). WholeExpr d y.0 ts y.1) (same_Some (q.0.0, q.0.2) (e, rest) q.2) (i.0, omega (arith, i.1))

pub whole_complete : (d : ℕ) (e : ParsedExpr) (ts rest : List Lexeme) → WholeExpr d e ts rest → Stops any_level rest → whole_expr d ts ≡ Some (e, rest)
unfolding whole_expr
whole_complete d e ts rest h stop = rw (expr_complete d (parsers d) (parsers_complete d) e ts rest h.0 stop max_weight (max_weight - weight e) (omega (arith, h.1))) refl

pub whole_shorter : (d : ℕ) (e : ParsedExpr) (ts rest : List Lexeme) → whole_expr d ts ≡ Some (e, rest) → length rest < length ts
whole_shorter d e ts rest h = spelled_shorter e d any_level ts rest (whole_sound d e ts rest h).0

-- ---- arguments, up to a `)`

pub args_sound : (d : ℕ) (es : ParsedArgs) (ts rest : List Lexeme) → whole_args d ts ≡ Some (es, rest) → WholeArgs d es ts rest
unfolding whole_args
args_sound d es ts rest h =
    let q = bind_some (args_of (counted budget.Own (parsers d)) max_weight ts) _ (es, rest) h in
    let i = all_sound d (parsers d) (parsers_sound d) budget.Own max_weight ts q.0 q.1 in
    subst (λ (y : ParsedArgs × List Lexeme). WholeArgs d y.0 ts y.1) (same_Some (q.0.0, q.0.2) (es, rest) q.2) (i.0, i.1.0)

pub args_complete : (d : ℕ) (es : ParsedArgs) (ts rest after : List Lexeme) → WholeArgs d es ts rest → Takes (marked mark.RightParen) rest after → whole_args d ts ≡ Some (es, rest)
unfolding whole_args
args_complete d es ts rest after h close = rw (all_complete d (parsers d) (parsers_complete d) budget.Own es ts rest after h.0 close max_weight max_weight (h.1, refl)) refl

pub args_shorter : (d : ℕ) (es : ParsedArgs) (ts rest : List Lexeme) → whole_args d ts ≡ Some (es, rest) → length rest ≤ length ts
args_shorter d es ts rest h = items_shorter es d true ts rest (args_sound d es ts rest h).0
