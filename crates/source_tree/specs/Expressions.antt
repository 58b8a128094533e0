-- The trees of expressions, without where they lie in memory.
use Rattle.std.specs.Prelude.{List, [], ◌∷◌}
use Rattle.gang_types.specs.declared.places.Place.{Place}
use Rattle.gang_model.specs.Source.Parsed.{Name as Text, ParsedExpr, ParsedNumber, ParsedBool, ParsedName, ParsedIndex, ParsedCall, ParsedParen, ParsedUnary, ParsedCast, ParsedBinary, ParsedChoice, ParsedArgs, ParsedEnd, ParsedValue, ParsedPart, ParsedPartFrom}
use Rattle.source_tree.specs.declared.expressions.Expr.{Expr, Number, Truth, Name, Index', Call', Paren', Unary', Cast', Binary', Choice', Row_of-Arg, end_of-Arg, more_of-Arg}
use Rattle.source_tree.specs.declared.expressions.Arg.{Arg, Value, Part, PartFrom}

-- one argument
pub data ParsedArg : Type 0 where
  OfValue : ParsedExpr → ParsedArg
  OfPart : Place → Text → ParsedArg
  OfPartFrom : Place → Text → (index : ParsedExpr) → ParsedArg

-- the arguments, with one more before them
abbrev pub with_arg : ParsedArg → ParsedArgs → ParsedArgs
with_arg (OfValue e) es = ParsedValue e es
with_arg (OfPart at n) es = ParsedPart at n es
with_arg (OfPartFrom at n e) es = ParsedPartFrom at n e es

abbrev mutual
  pub expr_view : Expr → ParsedExpr
  expr_view (Number at n) = ParsedNumber at n.value n.is_unsigned n.is_long
  expr_view (Truth at b) = ParsedBool at b
  expr_view (Name at n) = ParsedName at n.items
  expr_view (Index' at n p e) = ParsedIndex at n.items (expr_view e)
  expr_view (Call' at n shape es) = ParsedCall at n.items (row_view es)
  expr_view (Paren' at p e) = ParsedParen at (expr_view e)
  expr_view (Unary' at op p e) = ParsedUnary at op (expr_view e)
  expr_view (Cast' at r t p e) = ParsedCast at r t (expr_view e)
  expr_view (Binary' op p l q r) = ParsedBinary op (expr_view l) (expr_view r)
  expr_view (Choice' p c q x r y) = ParsedChoice (expr_view c) (expr_view x) (expr_view y)

  pub arg_view : Arg → ParsedArg
  arg_view (Value e) = OfValue (expr_view e)
  arg_view (Part at n) = OfPart at n.items
  arg_view (PartFrom at n e) = OfPartFrom at n.items (expr_view e)

  pub row_view : {n : _} → Row_of-Arg n → ParsedArgs
  row_view end_of-Arg = ParsedEnd
  row_view (more_of-Arg e es) = with_arg (arg_view e) (row_view es)

abbrev pub args_view : List Arg → ParsedArgs
args_view [] = ParsedEnd
args_view (e ∷ es) = with_arg (arg_view e) (args_view es)
