-- Which marks are operators or truth values.
use Rattle.std.proofs.Common.{◌≡◌, inl, inr, ℕ, List, [], ◌∷◌, Some, None, Bool, true, false, refl, ap, subst, ◌∙◌}
use Rattle.std.specs.Prelude.{◌==◌}
use Rattle.std.proofs.lemmas.Bool.{eqb-true}
use Rattle.gang_types.specs.declared.operators.UnaryOp.{UnaryOp}
use Rattle.gang_types.specs.declared.operators.UnaryOp.TheVariants as unary
use Rattle.gang_types.specs.declared.operators.BinaryOp.TheVariants as binary
use Rattle.gang_model.specs.declared.marks.Mark.{Mark}
use Rattle.gang_model.specs.declared.marks.Mark.TheVariants as mark
use Rattle.gang_model.specs.declared.forms.Infix.{Infix}
use Rattle.gang_model.specs.declared.forms.Infix.TheVariants.{Op, AndAlso, OrElse}
use Rattle.gang_model.specs.Source.Tokens.{marked, Lexeme}
use Rattle.gang_model.specs.Source.Spells.{Takes, truth_mark, unary_mark, infix_mark, level}
use Rattle.ispc_parser_words.specs.Front.{mark_of}
use Rattle.ispc_parser_words.specs.Operators.{unary_op, truth_of, infix_of, operator_at}
use Rattle.ispc_lexer.proofs.Runs.{bind_some, which}
use Rattle.std.proofs.lemmas.Option.{none-some, same_Some}
use Rattle.ispc_parser_words.proofs.Tokens.{mark_of_is}

pub unary_op_is : (m : Mark) (op : UnaryOp) → unary_op m ≡ Some op → m ≡ unary_mark op
unary_op_is mark.Minus op e = ap unary_mark (same_Some unary.Negate op e)
unary_op_is mark.Plus op e = ap unary_mark (same_Some unary.Plus op e)
unary_op_is mark.Exclamation op e = ap unary_mark (same_Some unary.Not op e)
unary_op_is mark.Tilde op e = ap unary_mark (same_Some unary.Complement op e)
unary_op_is _ op e = absurd (none-some op e)

pub unary_op_again : (op : UnaryOp) → unary_op (unary_mark op) ≡ Some op
unary_op_again unary.Negate = refl
unary_op_again unary.Plus = refl
unary_op_again unary.Not = refl
unary_op_again unary.Complement = refl

pub truth_of_is : (m : Mark) (v : Bool) → truth_of m ≡ Some v → m ≡ truth_mark v
truth_of_is mark.True v e = ap truth_mark (same_Some true v e)
truth_of_is mark.False v e = ap truth_mark (same_Some false v e)
truth_of_is _ v e = absurd (none-some v e)

pub infix_of_is : (m : Mark) (op : Infix) → infix_of m ≡ Some op → m ≡ infix_mark op
infix_of_is mark.Plus op e = ap infix_mark (same_Some (Op binary.Add) op e)
infix_of_is mark.Minus op e = ap infix_mark (same_Some (Op binary.Sub) op e)
infix_of_is mark.Star op e = ap infix_mark (same_Some (Op binary.Mul) op e)
infix_of_is mark.Slash op e = ap infix_mark (same_Some (Op binary.Div) op e)
infix_of_is mark.Percent op e = ap infix_mark (same_Some (Op binary.Rem) op e)
infix_of_is mark.Ampersand op e = ap infix_mark (same_Some (Op binary.And) op e)
infix_of_is mark.Bar op e = ap infix_mark (same_Some (Op binary.Or) op e)
infix_of_is mark.Caret op e = ap infix_mark (same_Some (Op binary.Xor) op e)
infix_of_is mark.ShiftLeft op e = ap infix_mark (same_Some (Op binary.Shl) op e)
infix_of_is mark.ShiftRight op e = ap infix_mark (same_Some (Op binary.Shr) op e)
infix_of_is mark.Less op e = ap infix_mark (same_Some (Op binary.Less) op e)
infix_of_is mark.LessEqual op e = ap infix_mark (same_Some (Op binary.LessEqual) op e)
infix_of_is mark.Greater op e = ap infix_mark (same_Some (Op binary.Greater) op e)
infix_of_is mark.GreaterEqual op e = ap infix_mark (same_Some (Op binary.GreaterEqual) op e)
infix_of_is mark.EqualEqual op e = ap infix_mark (same_Some (Op binary.Equal) op e)
infix_of_is mark.NotEqual op e = ap infix_mark (same_Some (Op binary.NotEqual) op e)
infix_of_is mark.AndAnd op e = ap infix_mark (same_Some AndAlso op e)
infix_of_is mark.OrOr op e = ap infix_mark (same_Some OrElse op e)
infix_of_is _ op e = absurd (none-some op e)

pub infix_of_again : (op : Infix) → infix_of (infix_mark op) ≡ Some op
infix_of_again (Op binary.Add) = refl
infix_of_again (Op binary.Sub) = refl
infix_of_again (Op binary.Mul) = refl
infix_of_again (Op binary.Div) = refl
infix_of_again (Op binary.Rem) = refl
infix_of_again (Op binary.And) = refl
infix_of_again (Op binary.Or) = refl
infix_of_again (Op binary.Xor) = refl
infix_of_again (Op binary.Shl) = refl
infix_of_again (Op binary.Shr) = refl
infix_of_again (Op binary.Less) = refl
infix_of_again (Op binary.LessEqual) = refl
infix_of_again (Op binary.Greater) = refl
infix_of_again (Op binary.GreaterEqual) = refl
infix_of_again (Op binary.Equal) = refl
infix_of_again (Op binary.NotEqual) = refl
infix_of_again AndAlso = refl
infix_of_again OrElse = refl

pub operator_takes : (k : ℕ) (ts : List Lexeme) (op : Infix) (rest : List Lexeme) → operator_at k ts ≡ Some (op, rest)
    → (level op ≡ k) × Takes (marked (infix_mark op)) ts rest
unfolding operator_at
operator_takes k [] op rest e = absurd cc
operator_takes k (t ∷ ts) op rest e =
    let p = bind_some (mark_of t.sort) _ (op, rest) e in
    let q = bind_some (infix_of p.0) _ (op, rest) p.2 in
    elim (which (level q.0 == k) (Some (q.0, ts)) None (Some (op, rest)) q.2) [
      | inl r ↦
          subst (λ (x : Infix × List Lexeme). (level x.0 ≡ k) × Takes (marked (infix_mark x.0)) (t ∷ ts) x.1) (same_Some (q.0, ts) (op, rest) r.1)
          (eqb-true (level q.0) k r.0, record { token = t; is = refl; sort_is = mark_of_is t.sort p.0 p.1 ∙ ap marked (infix_of_is p.0 q.0 q.1) })
      | inr r ↦ let no_value = r.1 in absurd cc
    ]
