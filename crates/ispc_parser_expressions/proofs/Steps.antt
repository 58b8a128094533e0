-- Steps of the loops over operators and over arguments.
use Rattle.std.proofs.Common.{◌≡◌, ◌≢◌, ℕ, zero, suc, ◌-◌, ◌<◌, ◌≤◌, List, [], ◌∷◌, ◌++◌, length, Option, Some, None, true, false, refl, sym, ap, ◌∙◌, arith}
use Rattle.gang_model.specs.declared.marks.Mark.TheVariants as mark
use Rattle.gang_model.specs.declared.forms.Infix.{Infix}
use Rattle.gang_model.specs.Source.Tokens.{Lexeme}
use Rattle.gang_model.specs.Source.Parsed.{ParsedExpr, ParsedBinary, ParsedArgs, ParsedEnd, ParsedValue, ParsedPart, ParsedPartFrom}
use Rattle.source_answers.specs.declared.fault.SourceFault.{SourceFault}
use Rattle.source_answers.specs.declared.fault.SourceFault.TheVariants as faults
use Rattle.source_tree.specs.declared.expressions.Arg.{Arg}
use Rattle.ispc_parser_expressions.specs.declared.budget.Budget.{Budget}
use Rattle.source_tree.specs.Expressions.{ParsedArg, OfValue, OfPart, OfPartFrom, with_arg, arg_view, args_view}
use Rattle.ispc_lexer.specs.Options.{◌>>=◌}
use Rattle.ispc_parser_words.specs.Front.{Fails, begins, take}
use Rattle.ispc_parser_words.specs.Operators.{operator_at}
use Rattle.ispc_parser_expressions.specs.Parse.{spend, Parser, Below, operand_of, chain_of, binary_of, counted, more_of, args_of, parsers}
use Rattle.ispc_parser_words.proofs.Tokens.{take_takes, takes_shorter}
use Rattle.ispc_parser_words.proofs.OperatorMarks.{operator_takes}
use Rattle.ispc_parser_expressions.proofs.Sound.{Read, binary_sound}
use Rattle.ispc_parser_expressions.proofs.ArgsSound.{ReadArg, ReadArgs, counted_sound, parsers_sound}
use Rattle.ispc_parser_expressions.proofs.Args.{arg_shorter}
use Rattle.ispc_parser_expressions.proofs.Starts.{spelled_shorter}

-- ---- failing

pub fails_first : {A B : Type 0} (e : SourceFault) (r : Option A) (f : A → Option B) (total : Option B) → total ≡ (r >>= f) → Fails e r → Fails e total
fails_first faults.Memory r f total is h = tt
fails_first (faults.Refused _) r f total is h = (is ∙ rw h.0 refl, h.1)

-- ---- operators of one level

pub binary_zero : (b : Option Below) (k room : ℕ) (ts : List Lexeme) → k ≡ 0 → binary_of b k room ts ≡ operand_of b room ts
unfolding binary_of
binary_zero b zero room ts e = refl
binary_zero b (suc k) room ts e = absurd (omega arith)

binary_step : (b : Option Below) (k room : ℕ) (ts : List Lexeme) → k ≢ 0
    → binary_of b k room ts ≡ (binary_of b (k - 1) room ts >>= λ left. chain_of (binary_of b (k - 1)) (k - 1) (length left.2) left.0 left.1 left.2)
unfolding binary_of
binary_step b zero room ts ne = absurd (ne refl)
binary_step b (suc k) room ts ne = let e : suc k - 1 ≡ k = omega arith in rw e refl

pub binary_fails : (b : Option Below) (k room : ℕ) (ts : List Lexeme) (e : SourceFault) → k ≢ 0 → Fails e (binary_of b (k - 1) room ts) → Fails e (binary_of b k room ts)
binary_fails b k room ts e ne h = fails_first e (binary_of b (k - 1) room ts) _ (binary_of b k room ts) (binary_step b k room ts ne) h

pub binary_shorter : (d k room : ℕ) (ts : List Lexeme) (e : ParsedExpr) (left : ℕ) (rest : List Lexeme) → binary_of (parsers d) k room ts ≡ Some (e, left, rest) → length rest < length ts
binary_shorter d k room ts e left rest h = spelled_shorter e d k ts rest (binary_sound d (parsers d) (parsers_sound d) k room ts (e, left, rest) h).0

-- after a left side the chain of at least as many operators as there are tokens gives the whole
pub record Chains (side : Parser ParsedExpr) (k : ℕ) (left : ParsedExpr) (room : ℕ) (ts : List Lexeme) (total : Option Read) : Type 0 where
  pub count : ℕ
  pub enough : length ts ≤ count
  pub is : chain_of side k count left room ts ≡ total

pub chains_start : (b : Option Below) (k room : ℕ) (ts : List Lexeme) (left : ParsedExpr) (less : ℕ) (rest : List Lexeme) → k ≢ 0 → binary_of b (k - 1) room ts ≡ Some (left, less, rest)
    → Chains (binary_of b (k - 1)) (k - 1) left less rest (binary_of b k room ts)
chains_start b k room ts left less rest ne e = record { count = length rest; enough = omega arith; is = sym (binary_step b k room ts ne ∙ rw e refl) }

module _ (side : Parser ParsedExpr) (k : ℕ) (left : ParsedExpr) (room : ℕ) (ts : List Lexeme) (total : Option Read) (so_far : Chains side k left room ts total) where
  pub chains_end : operator_at k ts ≡ None → total ≡ Some (left, room, ts)
  unfolding chain_of
  chains_end none = sym so_far.is ∙ ends so_far.count
    where
      ends : (n : ℕ) → chain_of side k n left room ts ≡ Some (left, room, ts)
      ends zero = refl
      ends (suc n) = rw none refl

  module _ (op : Infix) (after : List Lexeme) (found : operator_at k ts ≡ Some (op, after)) where
    one_more : (n : ℕ) × (length after ≤ n) × (total ≡ (spend room >>= λ less. side less after >>= λ right. chain_of side k n (ParsedBinary op left right.0) right.1 right.2))
    unfolding chain_of
    one_more = at so_far.count so_far.enough (sym so_far.is)
      where
        at : (n : ℕ) → length ts ≤ n → total ≡ chain_of side k n left room ts
            → (m : ℕ) × (length after ≤ m) × (total ≡ (spend room >>= λ less. side less after >>= λ right. chain_of side k m (ParsedBinary op left right.0) right.1 right.2))
        at zero le is = absurd (omega (arith, takes_shorter _ ts after (operator_takes k ts op after found).1))
        at (suc n) le is = (n, omega (arith, takes_shorter _ ts after (operator_takes k ts op after found).1), is ∙ rw found refl)

    pub chains_spent : (e : SourceFault) → Fails e (spend room) → Fails e total
    chains_spent e h = let m = one_more in fails_first e (spend room) _ total m.2 h

    pub chains_fail : (e : SourceFault) (less : ℕ) → spend room ≡ Some less → Fails e (side less after) → Fails e total
    chains_fail e less spent h = let m = one_more in fails_first e (side less after) (λ (right : Read). chain_of side k m.0 (ParsedBinary op left right.0) right.1 right.2) total (m.2 ∙ rw spent refl) h

    pub chains_on : (less : ℕ) (right : ParsedExpr) (less2 : ℕ) (rest : List Lexeme) → spend room ≡ Some less → side less after ≡ Some (right, less2, rest) → length rest < length after
        → Chains side k (ParsedBinary op left right) less2 rest total
    chains_on less right less2 rest spent read shorter = let m = one_more in record { count = m.0; enough = omega (arith, m.1); is = sym (m.2 ∙ rw (spent, read) refl) }

-- ---- arguments

abbrev pub append : ParsedArgs → ParsedArgs → ParsedArgs
append ParsedEnd more = more
append (ParsedValue e es) more = ParsedValue e (append es more)
append (ParsedPart at n es) more = ParsedPart at n (append es more)
append (ParsedPartFrom at n e es) more = ParsedPartFrom at n e (append es more)

append-with : (x : ParsedArg) (es more : ParsedArgs) → append (with_arg x es) more ≡ with_arg x (append es more)
append-with (OfValue e) es more = refl
append-with (OfPart at n) es more = refl
append-with (OfPartFrom at n e) es more = refl

append-end : (es : ParsedArgs) → append es ParsedEnd ≡ es
append-end ParsedEnd = refl
append-end (ParsedValue e es) = ap (ParsedValue e) (append-end es)
append-end (ParsedPart at n es) = ap (ParsedPart at n) (append-end es)
append-end (ParsedPartFrom at n e es) = ap (ParsedPartFrom at n e) (append-end es)

append-append : (a b c : ParsedArgs) → append (append a b) c ≡ append a (append b c)
append-append ParsedEnd b c = refl
append-append (ParsedValue e es) b c = ap (ParsedValue e) (append-append es b c)
append-append (ParsedPart at n es) b c = ap (ParsedPart at n) (append-append es b c)
append-append (ParsedPartFrom at n e es) b c = ap (ParsedPartFrom at n e) (append-append es b c)

abbrev pub one_arg : ParsedArg → ParsedArgs
one_arg x = with_arg x ParsedEnd

pub args_view-push : (es : List Arg) (e : Arg) → args_view (es ++ e ∷ []) ≡ append (args_view es) (one_arg (arg_view e))
args_view-push [] e = refl
args_view-push (x ∷ es) e = ap (with_arg (arg_view x)) (args_view-push es e) ∙ sym (append-with (arg_view x) (args_view es) (one_arg (arg_view e)))

-- what was read before, and what is still read
abbrev pub with_front : ParsedArgs → Option ReadArgs → Option ReadArgs
with_front front read = read >>= λ x. Some (append front x.0, x.1, x.2)

with_front-with : (front : ParsedArgs) (x : ParsedArg) (read : Option ReadArgs) → with_front front (read >>= λ es. Some (with_arg x es.0, es.1, es.2)) ≡ with_front (append front (one_arg x)) read
with_front-with front x None = refl
with_front-with front x (Some es) =
    ap (λ (t : ParsedArgs). Some (t, es.1, es.2)) (ap (append front) (sym (append-with x ParsedEnd es.0)) ∙ sym (append-append front (one_arg x) es.0))

pub counted_shorter : (c : Budget) (d room : ℕ) (ts : List Lexeme) (x : ParsedArg) (left : ℕ) (rest : List Lexeme) → counted c (parsers d) room ts ≡ Some (x, left, rest) → length rest < length ts
counted_shorter c d room ts x left rest h = arg_shorter d x ts rest (counted_sound d (parsers d) (parsers_sound d) c room ts (x, left, rest) h).0

pub record Lists (one : Parser ParsedArg) (front : ParsedArgs) (room : ℕ) (ts : List Lexeme) (total : Option ReadArgs) : Type 0 where
  pub count : ℕ
  pub enough : length ts ≤ count
  pub is : with_front front (more_of one count room ts) ≡ total

pub lists_none : (one : Parser ParsedArg) (room : ℕ) (ts : List Lexeme) → begins mark.RightParen ts ≡ true → args_of one room ts ≡ Some (ParsedEnd, room, ts)
unfolding args_of
lists_none one room ts e = rw e refl

lists_some : (one : Parser ParsedArg) (room : ℕ) (ts : List Lexeme) → begins mark.RightParen ts ≡ false
    → args_of one room ts ≡ (one room ts >>= λ x. more_of one (length x.2) x.1 x.2 >>= λ es. Some (with_arg x.0 es.0, es.1, es.2))
unfolding args_of
lists_some one room ts e = rw e refl

pub lists_fail : (one : Parser ParsedArg) (room : ℕ) (ts : List Lexeme) (e : SourceFault) → begins mark.RightParen ts ≡ false → Fails e (one room ts) → Fails e (args_of one room ts)
lists_fail one room ts e other h = fails_first e (one room ts) _ (args_of one room ts) (lists_some one room ts other) h

pub lists_start : (one : Parser ParsedArg) (room : ℕ) (ts : List Lexeme) (x : ParsedArg) (less : ℕ) (rest : List Lexeme) → begins mark.RightParen ts ≡ false → one room ts ≡ Some (x, less, rest)
    → Lists one (one_arg x) less rest (args_of one room ts)
lists_start one room ts x less rest other read = record {
  count = length rest;
  enough = omega arith;
  is = sym (with_front-with ParsedEnd x (more_of one (length rest) less rest)) ∙ front_none ∙ sym (lists_some one room ts other ∙ rw read refl);
}
  where
    same : (r : Option ReadArgs) → with_front ParsedEnd r ≡ r
    same None = refl
    same (Some y) = refl

    front_none : with_front ParsedEnd (more_of one (length rest) less rest >>= λ es. Some (with_arg x es.0, es.1, es.2)) ≡ (more_of one (length rest) less rest >>= λ es. Some (with_arg x es.0, es.1, es.2))
    front_none = same (more_of one (length rest) less rest >>= λ es. Some (with_arg x es.0, es.1, es.2))

module _ (one : Parser ParsedArg) (front : ParsedArgs) (room : ℕ) (ts : List Lexeme) (total : Option ReadArgs) (so_far : Lists one front room ts total) where
  pub lists_end : take mark.Comma ts ≡ None → total ≡ Some (front, room, ts)
  unfolding more_of
  lists_end none = sym so_far.is ∙ ends so_far.count
    where
      ends : (n : ℕ) → with_front front (more_of one n room ts) ≡ Some (front, room, ts)
      ends zero = ap (λ (x : ParsedArgs). Some (x, room, ts)) (append-end front)
      ends (suc n) = rw none (ap (λ (x : ParsedArgs). Some (x, room, ts)) (append-end front))

  module _ (after : List Lexeme) (comma : take mark.Comma ts ≡ Some after) where
    abbrev Next : ℕ → Type 0
    Next n = total ≡ (one room after >>= λ x. with_front (append front (one_arg x.0)) (more_of one n x.1 x.2))

    next_arg : (n : ℕ) × (length after ≤ n) × Next n
    unfolding more_of
    next_arg = at so_far.count so_far.enough (sym so_far.is)
      where
        inner : (n : ℕ) (r : Option ReadArg)
            → with_front front (r >>= λ x. more_of one n x.1 x.2 >>= λ es. Some (with_arg x.0 es.0, es.1, es.2)) ≡ (r >>= λ x. with_front (append front (one_arg x.0)) (more_of one n x.1 x.2))
        inner n None = refl
        inner n (Some x) = with_front-with front x.0 (more_of one n x.1 x.2)

        at : (n : ℕ) → length ts ≤ n → total ≡ with_front front (more_of one n room ts) → (m : ℕ) × (length after ≤ m) × Next m
        at zero le is = absurd (omega (arith, takes_shorter _ ts after (take_takes mark.Comma ts after comma)))
        at (suc n) le is = (n, omega (arith, takes_shorter _ ts after (take_takes mark.Comma ts after comma)), is ∙ rw comma (inner n (one room after)))

    pub lists_fails : (e : SourceFault) → Fails e (one room after) → Fails e total
    lists_fails e h = let m = next_arg in fails_first e (one room after) _ total m.2 h

    pub lists_on : (x : ParsedArg) (less : ℕ) (rest : List Lexeme) → one room after ≡ Some (x, less, rest) → length rest < length after → Lists one (append front (one_arg x)) less rest total
    lists_on x less rest read shorter = let m = next_arg in record { count = m.0; enough = omega (arith, m.1); is = sym (m.2 ∙ rw read refl) }
