-- Marks that are operators or truth values.
use Rattle.std.specs.Prelude.{ℕ, Bool, true, false, ◌==◌, List, [], ◌∷◌, Option, Some, None, if◌then◌else◌}
use Rattle.gang_types.specs.declared.operators.UnaryOp.{UnaryOp}
use Rattle.gang_types.specs.declared.operators.UnaryOp.TheVariants as unary
use Rattle.gang_types.specs.declared.operators.BinaryOp.TheVariants as binary
use Rattle.gang_model.specs.declared.marks.Mark.{Mark}
use Rattle.gang_model.specs.declared.marks.Mark.TheVariants as mark
use Rattle.gang_model.specs.declared.forms.Infix.{Infix}
use Rattle.gang_model.specs.declared.forms.Infix.TheVariants.{Op, AndAlso, OrElse}
use Rattle.gang_model.specs.Source.Tokens.{Lexeme}
use Rattle.gang_model.specs.Source.Spells.{level}
use Rattle.ispc_lexer.specs.Options.{◌>>=◌}
use Rattle.ispc_parser_words.specs.Front.{mark_of}

abbrev pub unary_op : Mark → Option UnaryOp
unary_op mark.Minus = Some unary.Negate
unary_op mark.Plus = Some unary.Plus
unary_op mark.Exclamation = Some unary.Not
unary_op mark.Tilde = Some unary.Complement
unary_op _ = None

abbrev pub truth_of : Mark → Option Bool
truth_of mark.True = Some true
truth_of mark.False = Some false
truth_of _ = None

abbrev pub infix_of : Mark → Option Infix
infix_of mark.Plus = Some (Op binary.Add)
infix_of mark.Minus = Some (Op binary.Sub)
infix_of mark.Star = Some (Op binary.Mul)
infix_of mark.Slash = Some (Op binary.Div)
infix_of mark.Percent = Some (Op binary.Rem)
infix_of mark.Ampersand = Some (Op binary.And)
infix_of mark.Bar = Some (Op binary.Or)
infix_of mark.Caret = Some (Op binary.Xor)
infix_of mark.ShiftLeft = Some (Op binary.Shl)
infix_of mark.ShiftRight = Some (Op binary.Shr)
infix_of mark.Less = Some (Op binary.Less)
infix_of mark.LessEqual = Some (Op binary.LessEqual)
infix_of mark.Greater = Some (Op binary.Greater)
infix_of mark.GreaterEqual = Some (Op binary.GreaterEqual)
infix_of mark.EqualEqual = Some (Op binary.Equal)
infix_of mark.NotEqual = Some (Op binary.NotEqual)
infix_of mark.AndAnd = Some AndAlso
infix_of mark.OrOr = Some OrElse
infix_of _ = None

-- an operator of this level, and the tokens after it
unfoldable pub operator_at : ℕ → List Lexeme → Option (Infix × List Lexeme)
operator_at k [] = None
operator_at k (t ∷ ts) = mark_of t.sort >>= λ m. infix_of m >>= λ op. if level op == k then Some (op, ts) else None
