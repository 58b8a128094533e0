-- What may stand after an expression.
use Rattle.std.proofs.Common.{◌≡◌, ◌≢◌, ◌⊎◌, inl, inr, ℕ, suc, ◌<◌, ◌≤◌, List, [], ◌∷◌, Option, Some, None, Bool, true, false, cond, refl, ap, ◌∙◌, arith}
use Rattle.std.specs.Prelude.{◌==◌}
use Rattle.std.proofs.lemmas.Bool.{eqb-true, cases_lt}
use Rattle.gang_types.specs.declared.operators.BinaryOp.TheVariants as binary
use Rattle.gang_model.specs.declared.marks.Mark.{Mark}
use Rattle.gang_model.specs.declared.forms.Infix.{Infix}
use Rattle.gang_model.specs.declared.forms.Infix.TheVariants.{Op, AndAlso, OrElse}
use Rattle.gang_model.specs.Source.Tokens.{Sort, named, numbered, marked, Lexeme}
use Rattle.gang_model.specs.Source.Spells.{Takes, infix_mark, level, binary_levels, stops, Stops}
use Rattle.ispc_lexer.specs.Options.{◌>>=◌}
use Rattle.ispc_parser_words.specs.Front.{is_mark, begins, mark_of}
use Rattle.ispc_parser_words.specs.Operators.{infix_of, operator_at}
use Rattle.ispc_parser_words.proofs.Tokens.{mark_is}
use Rattle.ispc_parser_words.proofs.OperatorMarks.{infix_of_is, infix_of_again}

pub stops_less : (j k : ℕ) (ts : List Lexeme) → j ≤ k → Stops k ts → Stops j ts
stops_less j k [] le h = tt
stops_less j k (t ∷ ts) le h = omega arith

pub stops_at : (k : ℕ) (s : Sort) (ts rest : List Lexeme) → Takes s ts rest → k < stops s → Stops k ts
stops_at k s ts rest h lt = rw (h.is, h.sort_is) lt

pub stops_infix : (op : Infix) → stops (marked (infix_mark op)) ≡ suc (level op)
stops_infix (Op binary.Add) = refl
stops_infix (Op binary.Sub) = refl
stops_infix (Op binary.Mul) = refl
stops_infix (Op binary.Div) = refl
stops_infix (Op binary.Rem) = refl
stops_infix (Op binary.And) = refl
stops_infix (Op binary.Or) = refl
stops_infix (Op binary.Xor) = refl
stops_infix (Op binary.Shl) = refl
stops_infix (Op binary.Shr) = refl
stops_infix (Op binary.Less) = refl
stops_infix (Op binary.LessEqual) = refl
stops_infix (Op binary.Greater) = refl
stops_infix (Op binary.GreaterEqual) = refl
stops_infix (Op binary.Equal) = refl
stops_infix (Op binary.NotEqual) = refl
stops_infix AndAlso = refl
stops_infix OrElse = refl

pub level_below : (op : Infix) → level op < binary_levels
level_below (Op binary.Add) = omega arith
level_below (Op binary.Sub) = omega arith
level_below (Op binary.Mul) = omega arith
level_below (Op binary.Div) = omega arith
level_below (Op binary.Rem) = omega arith
level_below (Op binary.And) = omega arith
level_below (Op binary.Or) = omega arith
level_below (Op binary.Xor) = omega arith
level_below (Op binary.Shl) = omega arith
level_below (Op binary.Shr) = omega arith
level_below (Op binary.Less) = omega arith
level_below (Op binary.LessEqual) = omega arith
level_below (Op binary.Greater) = omega arith
level_below (Op binary.GreaterEqual) = omega arith
level_below (Op binary.Equal) = omega arith
level_below (Op binary.NotEqual) = omega arith
level_below AndAlso = omega arith
level_below OrElse = omega arith

not_mark : (m : Mark) (k : ℕ) (found : Sort) → k < stops found → stops (marked m) ≤ k → is_mark m found ≡ false
not_mark m k found lt le = go (is_mark m found) refl
  where
    go : (v : Bool) → is_mark m found ≡ v → v ≡ false
    go false e = refl
    go true e = let same : stops found ≡ stops (marked m) = ap stops (mark_is m found e) in absurd (omega arith)

pub not_begins : (m : Mark) (k : ℕ) (ts : List Lexeme) → Stops k ts → stops (marked m) ≤ k → begins m ts ≡ false
not_begins m k [] h le = refl
not_begins m k (t ∷ ts) h le = not_mark m k t.sort h le

-- ---- operators

eqb_false : (m n : ℕ) → m ≢ n → (m == n) ≡ false
eqb_false m n ne = go (m == n) refl
  where
    go : (v : Bool) → (m == n) ≡ v → v ≡ false
    go false e = refl
    go true e = absurd (ne (eqb-true m n e))

eqb_same : (m : ℕ) → (m == m) ≡ true
eqb_same m = go (m == m) refl
  where
    go : (v : Bool) → (m == m) ≡ v → v ≡ true
    go true e = refl
    go false e = grind arith

pub no_operator : (k : ℕ) (ts : List Lexeme) → Stops (suc k) ts → operator_at k ts ≡ None
unfolding operator_at
no_operator k [] h = refl
no_operator k (t ∷ ts) h = at_mark t.sort h
  where
    at_operator : (m : Mark) → suc k < stops (marked m) → (o : Option Infix) → infix_of m ≡ o → ◌>>=◌ {B = Infix × List Lexeme} o (λ op. cond (level op == k) (Some (op, ts)) None) ≡ None
    at_operator m lt None e = refl
    at_operator m lt (Some op) e =
        let same : stops (marked m) ≡ suc (level op) = ap (λ (x : Mark). stops (marked x)) (infix_of_is m op e) ∙ stops_infix op in
        rw (eqb_false (level op) k (λ is. omega arith)) refl

    at_mark : (s : Sort) → suc k < stops s → ◌>>=◌ {B = Infix × List Lexeme} (mark_of s) (λ m. infix_of m >>= λ op. cond (level op == k) (Some (op, ts)) None) ≡ None
    at_mark (marked m) lt = at_operator m lt (infix_of m) refl
    at_mark (named n) lt = refl
    at_mark (numbered n u l) lt = refl

pub operator_again : (op : Infix) (ts rest : List Lexeme) → Takes (marked (infix_mark op)) ts rest → operator_at (level op) ts ≡ Some (op, rest)
unfolding operator_at
operator_again op ts rest h = rw (h.is, h.sort_is, infix_of_again op, eqb_same (level op)) refl

pub tight_or : (k m : ℕ) → m < suc k → (m < k) ⊎ (m ≡ k)
tight_or k m lt = elim (cases_lt m k) [ inl p ↦ inl p | inr p ↦ inr (omega arith) ]
