-- The expression at the front of the tokens, by descent.
use Rattle.std.specs.Prelude.{ℕ, zero, suc, List, [], ◌∷◌, length, Option, Some, None, if◌then◌else◌}
use denote.Enum.Bare.{sameb}
use Rattle.gang_types.specs.declared.operators.UnaryOp.{UnaryOp}
use Rattle.gang_types.specs.declared.places.Place.{Place}
use Rattle.gang_model.specs.declared.marks.Mark.{Mark}
use Rattle.gang_model.specs.declared.marks.Mark.TheVariants as mark
use Rattle.gang_model.specs.contracts.marks.Mark.{the_type}
use Rattle.gang_model.specs.Source.Tokens.{Sort, named, numbered, marked, Lexeme}
use Rattle.gang_model.specs.Source.Parsed.{Name, ParsedExpr, ParsedNumber, ParsedBool, ParsedName, ParsedIndex, ParsedCall, ParsedParen, ParsedUnary, ParsedCast, ParsedBinary, ParsedChoice, ParsedArgs, ParsedEnd}
use Rattle.gang_model.specs.Source.Spells.{max_weight}
use Rattle.ispc_lexer.specs.Options.{◌>>=◌, if_some}
use Rattle.ispc_parser_words.specs.Front.{begins, take}
use Rattle.ispc_parser_words.specs.Operators.{unary_op, truth_of, operator_at}
use Rattle.ispc_parser_words.specs.Words.{begins_word, cast_spec_at}
use Rattle.ispc_parser_expressions.specs.declared.budget.Budget.{Budget}
use Rattle.ispc_parser_expressions.specs.declared.budget.Budget.TheVariants as budget
use Rattle.source_tree.specs.Expressions.{ParsedArg, OfValue, OfPart, OfPartFrom, with_arg}

-- ---- expressions

-- With so many operators, calls and indexings left, what stands at the front of the tokens, how many are left then,
-- and the tokens after it.
abbrev pub Parser : Type 0 → Type 0
Parser A = ℕ → List Lexeme → Option (A × ℕ × List Lexeme)

-- one operator, call or indexing more
abbrev pub spend : ℕ → Option ℕ
spend zero = None
spend (suc left) = Some left

-- what parses one nesting deeper
pub record Below : Type 0 where
  pub expr : Parser ParsedExpr
  pub operand : Parser ParsedExpr
  pub args : Parser ParsedArgs

-- an expression behind a `[`, up to its `]`
unfoldable pub bracket_of : Option Below → Parser ParsedExpr
bracket_of below room ts = below >>= λ inner. inner.expr room ts >>= λ e. take mark.RightBracket e.2 >>= λ rest. Some (e.0, e.1, rest)

-- behind a name
unfoldable pub index_of : Option Below → Place → Name → Parser ParsedExpr
index_of below at n room ts = spend room >>= λ left. bracket_of below left ts >>= λ e. Some (ParsedIndex at n e.0, e.1, e.2)

unfoldable pub call_of : Option Below → Place → Name → Parser ParsedExpr
call_of below at n room ts = spend room >>= λ left. below >>= λ inner. inner.args left ts >>= λ es. take mark.RightParen es.2 >>= λ rest. Some (ParsedCall at n es.0, es.1, rest)

unfoldable pub name_of : Option Below → Place → Name → Parser ParsedExpr
name_of below at n room ts =
    if_some (take mark.LeftParen ts) (λ rest. call_of below at n room rest)
    (if_some (take mark.LeftBracket ts) (λ rest. index_of below at n room rest) (Some (ParsedName at n, room, ts)))

-- behind a `(`
unfoldable pub cast_of : Below → Place → Parser ParsedExpr
cast_of inner at room ts = spend room >>= λ left. cast_spec_at ts >>= λ s. take mark.RightParen s.1 >>= λ rest. inner.operand left rest >>= λ e. Some (ParsedCast at s.0.0 s.0.1 e.0, e.1, e.2)

unfoldable pub paren_of : Below → Place → Parser ParsedExpr
paren_of inner at room ts = inner.expr room ts >>= λ e. take mark.RightParen e.2 >>= λ rest. Some (ParsedParen at e.0, e.1, rest)

unfoldable pub group_of : Option Below → Place → Parser ParsedExpr
group_of below at room ts = below >>= λ inner. if begins_word ts then cast_of inner at room ts else paren_of inner at room ts

unfoldable pub unary_of : Option Below → Place → UnaryOp → Parser ParsedExpr
unary_of below at op room ts = below >>= λ inner. spend room >>= λ left. inner.operand left ts >>= λ e. Some (ParsedUnary at op e.0, e.1, e.2)

-- behind a mark
unfoldable pub marked_of : Option Below → Place → Mark → Parser ParsedExpr
marked_of below at m room ts =
    if_some (unary_op m) (λ op. unary_of below at op room ts)
    (if_some (truth_of m) (λ b. Some (ParsedBool at b, room, ts))
    (if sameb the_type m mark.LeftParen then group_of below at room ts else None))

abbrev pub operand_at : Option Below → Sort → Place → Parser ParsedExpr
operand_at below (numbered n u l) at room ts = Some (ParsedNumber at n u l, room, ts)
operand_at below (named n) at room ts = name_of below at n room ts
operand_at below (marked m) at room ts = marked_of below at m room ts

unfoldable pub operand_of : Option Below → Parser ParsedExpr
operand_of below room [] = None
operand_of below room (t ∷ ts) = operand_at below t.sort t.place room ts

-- the operators of one level after a left side, at most n of them
unfoldable pub chain_of : Parser ParsedExpr → (level n : ℕ) → ParsedExpr → Parser ParsedExpr
chain_of side k zero left room ts = Some (left, room, ts)
chain_of side k (suc n) left room ts = if_some (operator_at k ts)
    (λ op. spend room >>= λ less. side less op.1 >>= λ right. chain_of side k n (ParsedBinary op.0 left right.0) right.1 right.2)
    (Some (left, room, ts))

unfoldable pub binary_of : Option Below → (levels : ℕ) → Parser ParsedExpr
binary_of below zero room ts = operand_of below room ts
binary_of below (suc k) room ts = binary_of below k room ts >>= λ left. chain_of (binary_of below k) k (length left.2) left.0 left.1 left.2

-- behind a `?`
unfoldable pub choice_of : Option Below → ParsedExpr → Parser ParsedExpr
choice_of below test room ts = below >>= λ inner. spend room >>= λ left. inner.expr left ts >>= λ x. take mark.Colon x.2 >>= λ b. inner.expr x.1 b >>= λ y. Some (ParsedChoice test x.0 y.0, y.1, y.2)

unfoldable pub expr_of : Option Below → Parser ParsedExpr
expr_of below room ts = binary_of below 10 room ts >>= λ test. if_some (take mark.Question test.2) (λ rest. choice_of below test.0 test.1 rest) (Some test)

-- ---- arguments

abbrev pub part_at : Option Below → Sort → Place → Parser ParsedArg
part_at below (named n) at room ts =
    if_some (take mark.LeftBracket ts) (λ rest. spend room >>= λ left. bracket_of below left rest >>= λ e. Some (OfPartFrom at n e.0, e.1, e.2))
    (Some (OfPart at n, room, ts))
part_at below _ at room ts = None

-- behind a `&`
unfoldable pub part_of : Option Below → Parser ParsedArg
part_of below room [] = None
part_of below room (t ∷ ts) = part_at below t.sort t.place room ts

unfoldable pub arg_of : Option Below → Parser ParsedArg
arg_of below room ts = if_some (take mark.Ampersand ts) (λ rest. part_of below room rest) (expr_of below room ts >>= λ e. Some (OfValue e.0, e.1, e.2))

-- at most n arguments, each behind a comma
unfoldable pub more_of : Parser ParsedArg → (n : ℕ) → Parser ParsedArgs
more_of one zero room ts = Some (ParsedEnd, room, ts)
more_of one (suc n) room ts = if_some (take mark.Comma ts)
    (λ rest. one room rest >>= λ e. more_of one n e.1 e.2 >>= λ es. Some (with_arg e.0 es.0, es.1, es.2))
    (Some (ParsedEnd, room, ts))

-- the arguments up to a `)`
unfoldable pub args_of : Parser ParsedArg → Parser ParsedArgs
args_of one room ts =
    if begins mark.RightParen ts then Some (ParsedEnd, room, ts)
    else (one room ts >>= λ e. more_of one (length e.2) e.1 e.2 >>= λ es. Some (with_arg e.0 es.0, es.1, es.2))

-- ---- nestings

abbrev pub within : Option Below → Below
within below = record { expr = expr_of below; operand = operand_of below; args = args_of (arg_of below) }

-- what parses inside one of so many nestings
unfoldable pub parsers : ℕ → Option Below
parsers zero = None
parsers (suc d) = Some (within (parsers d))

-- ---- whole expressions

-- an expression that stands in no other one, with so many nestings left
unfoldable pub whole_expr : ℕ → List Lexeme → Option (ParsedExpr × List Lexeme)
whole_expr d ts = expr_of (parsers d) max_weight ts >>= λ e. Some (e.0, e.2)

-- an argument that is such an expression
unfoldable pub own_arg : Option Below → Parser ParsedArg
own_arg below room ts = arg_of below max_weight ts >>= λ e. Some (e.0, room, e.2)

abbrev pub counted : Budget → Option Below → Parser ParsedArg
counted budget.Shared below = arg_of below
counted budget.Own below = own_arg below

-- the arguments of a call that is a statement, with so many nestings left inside its parentheses
unfoldable pub whole_args : ℕ → List Lexeme → Option (ParsedArgs × List Lexeme)
whole_args d ts = args_of (counted budget.Own (parsers d)) max_weight ts >>= λ es. Some (es.0, es.2)
