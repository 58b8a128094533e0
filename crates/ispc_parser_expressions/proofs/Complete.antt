-- What is spelled so is read, where enough operators are left.
use Rattle.std.proofs.Common.{◌≡◌, inl, inr, ℕ, zero, suc, ◌+◌, ◌≤◌, List, length, Option, Some, None, Bool, true, false, refl, ap, subst, ◌∙◌, arith}
use Rattle.std.specs.Prelude.{option_and_then}
use Rattle.gang_types.specs.declared.places.Place.{Place}
use Rattle.gang_types.specs.declared.operators.UnaryOp.{UnaryOp}
use Rattle.gang_types.specs.declared.types.IntType.{IntType}
use Rattle.gang_types.specs.declared.types.Rate.{Rate}
use Rattle.gang_model.specs.declared.marks.Mark.{Mark}
use Rattle.gang_model.specs.declared.marks.Mark.TheVariants as mark
use Rattle.gang_model.specs.declared.forms.Infix.{Infix}
use Rattle.gang_model.specs.declared.forms.Spec.{Spec}
use Rattle.gang_model.specs.Source.Tokens.{named, numbered, marked, Lexeme}
use Rattle.gang_model.specs.Source.Specs.{spec_of, cast_part, cast_spec_of}
use Rattle.gang_model.specs.Source.Parsed.{Name, ParsedExpr, ParsedNumber, ParsedBool, ParsedName, ParsedIndex, ParsedCall, ParsedParen, ParsedUnary, ParsedCast, ParsedBinary, ParsedChoice, ParsedArgs}
use Rattle.gang_model.specs.Source.Spells.{Takes, TakesAt, TakesWords, Opens, truth_mark, unary_mark, infix_mark, level, binary_levels, any_level, SpellsExpr, SpellsArgs, weight, args_weight, Stops}
use Rattle.ispc_parser_words.specs.Front.{take}
use Rattle.ispc_parser_words.specs.Words.{begins_word, cast_spec_at}
use Rattle.ispc_parser_words.specs.Operators.{operator_at}
use Rattle.ispc_parser_expressions.specs.Parse.{spend, Below, bracket_of, index_of, call_of, name_of, cast_of, paren_of, group_of, unary_of, marked_of, operand_of, chain_of, binary_of, choice_of, expr_of}
use Rattle.gang_model.proofs.NestingLaws.{opened}
use Rattle.ispc_parser_words.proofs.Tokens.{take_again, takes_shorter, take_none}
use Rattle.ispc_parser_words.proofs.OperatorMarks.{unary_op_again}
use Rattle.ispc_parser_words.proofs.SpecWords.{words_again, words_begin}
use Rattle.ispc_parser_expressions.proofs.Starts.{starts, spelled_shorter}
use Rattle.ispc_parser_words.proofs.Follows.{stops_less, stops_at, stops_infix, level_below, not_begins, no_operator, operator_again, tight_or}

pub spend_some : (room left : ℕ) → room ≡ suc left → spend room ≡ Some left
spend_some room left e = rw e refl

pub record IsComplete (d : ℕ) (b : Option Below) : Type 0 where
  pub inner : (n : ℕ) → d ≡ suc n → (i : Below) × (b ≡ Some i)
  pub expr : (i : Below) → b ≡ Some i → (e : ParsedExpr) (ts rest : List Lexeme) → Opens d (λ n. SpellsExpr n any_level e ts rest) → Stops any_level rest
      → (room left : ℕ) → room ≡ left + weight e → i.expr room ts ≡ Some (e, left, rest)
  pub operand : (i : Below) → b ≡ Some i → (e : ParsedExpr) (ts rest : List Lexeme) → Opens d (λ n. SpellsExpr n 0 e ts rest) → Stops 0 rest
      → (room left : ℕ) → room ≡ left + weight e → i.operand room ts ≡ Some (e, left, rest)
  pub args : (i : Below) → b ≡ Some i → (es : ParsedArgs) (ts rest after : List Lexeme) → Opens d (λ n. SpellsArgs n es ts rest) → Takes (marked mark.RightParen) rest after
      → (room left : ℕ) → room ≡ left + args_weight es → i.args room ts ≡ Some (es, left, rest)

cast_has_spec : (ws : List Mark) (r : Option Rate) (t : Option IntType) → cast_spec_of ws ≡ Some (r, t) → (s : Spec) × (spec_of ws ≡ Some s)
cast_has_spec ws r t e = go (spec_of ws) refl e
  where
    go : (o : Option Spec) → spec_of ws ≡ o → option_and_then cast_part o ≡ Some (r, t) → (s : Spec) × (spec_of ws ≡ Some s)
    go None is e = absurd cc
    go (Some s) is e = (s, is)

closes : (ts rest : List Lexeme) → Takes (marked mark.RightParen) ts rest → begins_word ts ≡ false
closes ts rest h = rw (h.is, h.sort_is) refl

module _ (d : ℕ) (b : Option Below) (s : IsComplete d b) where
  -- ---- behind a name

  pub bracket_complete : (e : ParsedExpr) (ts c rest : List Lexeme) → Opens d (λ n. SpellsExpr n any_level e ts c) → Takes (marked mark.RightBracket) c rest → (room left : ℕ) → room ≡ left + weight e
      → bracket_of b room ts ≡ Some (e, left, rest)
  unfolding bracket_of
  bracket_complete e ts c rest h close room left w =
      let p = opened d (λ (n : ℕ). SpellsExpr n any_level e ts c) h in
      let i = s.inner p.0 p.1 in
      let inside = s.expr i.0 i.1 e ts c h (stops_at any_level (marked mark.RightBracket) c rest close (omega arith)) room left w in
      rw (i.1, inside, take_again mark.RightBracket c rest close) refl

  of_name : (n : Name) (at : Place) (room : ℕ) (ts rest : List Lexeme) → TakesAt (named n) at ts rest → operand_of b room ts ≡ name_of b at n room rest
  unfolding operand_of
  of_name n at room ts rest h = rw (h.is, h.sort_is, h.place_is) refl

  of_mark : (m : Mark) (at : Place) (room : ℕ) (ts rest : List Lexeme) → TakesAt (marked m) at ts rest → operand_of b room ts ≡ marked_of b at m room rest
  unfolding operand_of
  of_mark m at room ts rest h = rw (h.is, h.sort_is, h.place_is) refl

  of_truth : (v : Bool) (at : Place) (room : ℕ) (rest : List Lexeme) → marked_of b at (truth_mark v) room rest ≡ Some (ParsedBool at v, room, rest)
  unfolding marked_of
  of_truth true at room rest = refl
  of_truth false at room rest = refl

  of_open : (at : Place) (room : ℕ) (rest : List Lexeme) → marked_of b at mark.LeftParen room rest ≡ group_of b at room rest
  unfolding marked_of
  of_open at room rest = refl

  name_index : (n : Name) (at : Place) (e : ParsedExpr) (ts x rest : List Lexeme) → Takes (marked mark.LeftBracket) ts x → (room mid left : ℕ) → room ≡ suc mid → bracket_of b mid x ≡ Some (e, left, rest)
      → name_of b at n room ts ≡ Some (ParsedIndex at n e, left, rest)
  unfolding name_of index_of
  name_index n at e ts x rest open_is room mid left w h =
      let no_paren : take mark.LeftParen ts ≡ None = take_none mark.LeftParen ts (rw (open_is.is, open_is.sort_is) refl) in
      rw (no_paren, take_again mark.LeftBracket ts x open_is, spend_some room mid w, h) refl

  name_call : (n : Name) (at : Place) (es : ParsedArgs) (ts x y rest : List Lexeme) → Takes (marked mark.LeftParen) ts x → (i : Below) → b ≡ Some i → (room mid left : ℕ) → room ≡ suc mid
      → i.args mid x ≡ Some (es, left, y) → Takes (marked mark.RightParen) y rest → name_of b at n room ts ≡ Some (ParsedCall at n es, left, rest)
  unfolding name_of call_of
  name_call n at es ts x y rest open_is i is room mid left w h close =
      rw (take_again mark.LeftParen ts x open_is, spend_some room mid w, is, h, take_again mark.RightParen y rest close) refl

  name_alone : (n : Name) (at : Place) (room : ℕ) (ts : List Lexeme) → Stops 0 ts → name_of b at n room ts ≡ Some (ParsedName at n, room, ts)
  unfolding name_of
  name_alone n at room ts stop =
      rw (take_none mark.LeftParen ts (not_begins mark.LeftParen 0 ts stop (omega arith)), take_none mark.LeftBracket ts (not_begins mark.LeftBracket 0 ts stop (omega arith))) refl

  -- ---- unary expressions

  group_cast : (at : Place) (ws : List Mark) (r : Option Rate) (t : Option IntType) (e : ParsedExpr) (ts x y rest : List Lexeme) → TakesWords ws ts x → cast_spec_of ws ≡ Some (r, t) → Takes (marked mark.RightParen) x y
      → (i : Below) → b ≡ Some i → (room mid left : ℕ) → room ≡ suc mid → i.operand mid y ≡ Some (e, left, rest) → group_of b at room ts ≡ Some (ParsedCast at r t e, left, rest)
  unfolding group_of cast_of cast_spec_at
  group_cast at ws r t e ts x y rest words spec close i is room mid left w h =
      let has_spec = cast_has_spec ws r t spec in
      let again = words_again ws ts x has_spec.0 words has_spec.1 (closes x y close) in
      rw (is, words_begin ws ts x has_spec.0 words has_spec.1, spend_some room mid w, again.0, spec, again.1, take_again mark.RightParen x y close, h) refl

  group_paren : (at : Place) (e : ParsedExpr) (ts x rest : List Lexeme) → begins_word ts ≡ false → Takes (marked mark.RightParen) x rest → (i : Below) → b ≡ Some i → (room left : ℕ)
      → i.expr room ts ≡ Some (e, left, x) → group_of b at room ts ≡ Some (ParsedParen at e, left, rest)
  unfolding group_of paren_of
  group_paren at e ts x rest no_word close i is room left h = rw (is, no_word, h, take_again mark.RightParen x rest close) refl

  marked_unary : (at : Place) (op : UnaryOp) (e : ParsedExpr) (ts rest : List Lexeme) (i : Below) → b ≡ Some i → (room mid left : ℕ) → room ≡ suc mid → i.operand mid ts ≡ Some (e, left, rest)
      → marked_of b at (unary_mark op) room ts ≡ Some (ParsedUnary at op e, left, rest)
  unfolding marked_of unary_of
  marked_unary at op e ts rest i is room mid left w h = rw (unary_op_again op, is, spend_some room mid w, h) refl

  at_number : (n : ℕ) (u l : Bool) (at : Place) (room : ℕ) (ts rest : List Lexeme) → TakesAt (numbered n u l) at ts rest → operand_of b room ts ≡ Some (ParsedNumber at n u l, room, rest)
  unfolding operand_of
  at_number n u l at room ts rest h = rw (h.is, h.sort_is, h.place_is) refl

  pub operand_complete : (e : ParsedExpr) (ts rest : List Lexeme) → SpellsExpr d 0 e ts rest → Stops 0 rest → (room left : ℕ) → room ≡ left + weight e → operand_of b room ts ≡ Some (e, left, rest)
  operand_complete (ParsedNumber at n u l) ts rest h stop room left w =
      let same : room ≡ left = omega arith in
      at_number n u l at room ts rest h ∙ ap (λ (m : ℕ). Some (ParsedNumber at n u l, m, rest)) same
  operand_complete (ParsedBool at v) ts rest h stop room left w =
      let same : room ≡ left = omega arith in
      of_mark (truth_mark v) at room ts rest h ∙ of_truth v at room rest ∙ ap (λ (m : ℕ). Some (ParsedBool at v, m, rest)) same
  operand_complete (ParsedName at n) ts rest h stop room left w =
      let same : room ≡ left = omega arith in
      of_name n at room ts rest h ∙ name_alone n at room rest stop ∙ ap (λ (m : ℕ). Some (ParsedName at n, m, rest)) same
  operand_complete (ParsedIndex at n e) ts rest h stop room left w =
      of_name n at room ts h.0 h.3
      ∙ name_index n at e h.0 h.1 rest h.4 room (left + weight e) left (omega arith) (bracket_complete e h.1 h.2 rest h.5 h.6 (left + weight e) left refl)
  operand_complete (ParsedCall at n es) ts rest h stop room left w =
      let p = opened d (λ (n : ℕ). SpellsArgs n es h.1 h.2) h.5 in
      let i = s.inner p.0 p.1 in
      of_name n at room ts h.0 h.3
      ∙ name_call n at es h.0 h.1 h.2 rest h.4 i.0 i.1 room (left + args_weight es) left (omega arith) (s.args i.0 i.1 es h.1 h.2 rest h.5 h.6 (left + args_weight es) left refl) h.6
  operand_complete (ParsedParen at e) ts rest h stop room left w =
      let p = opened d (λ (n : ℕ). SpellsExpr n any_level e h.0 h.1) h.3 in
      let i = s.inner p.0 p.1 in
      let inside = s.expr i.0 i.1 e h.0 h.1 h.3 (stops_at any_level (marked mark.RightParen) h.1 rest h.4 (omega arith)) room left w in
      of_mark mark.LeftParen at room ts h.0 h.2 ∙ of_open at room h.0
      ∙ group_paren at e h.0 h.1 rest (starts e p.0 any_level h.0 h.1 p.2).no_word h.4 i.0 i.1 room left inside
  operand_complete (ParsedUnary at op e) ts rest h stop room left w =
      let p = opened d (λ (n : ℕ). SpellsExpr n 0 e h.0 rest) h.2 in
      let i = s.inner p.0 p.1 in
      of_mark (unary_mark op) at room ts h.0 h.1
      ∙ marked_unary at op e h.0 rest i.0 i.1 room (left + weight e) left (omega arith) (s.operand i.0 i.1 e h.0 rest h.2 stop (left + weight e) left refl)
  operand_complete (ParsedCast at r t e) ts rest h stop room left w =
      let p = opened d (λ (n : ℕ). SpellsExpr n 0 e h.3 rest) h.8 in
      let i = s.inner p.0 p.1 in
      of_mark mark.LeftParen at room ts h.1 h.4 ∙ of_open at room h.1
      ∙ group_cast at h.0 r t e h.1 h.2 h.3 rest h.5 h.6 h.7 i.0 i.1 room (left + weight e) left (omega arith) (s.operand i.0 i.1 e h.3 rest h.8 stop (left + weight e) left refl)
  operand_complete (ParsedBinary op l r) ts rest h stop room left w = absurd (omega (arith, h.0))
  operand_complete (ParsedChoice c x y) ts rest h stop room left w = absurd (omega (arith, h.0))

  -- ---- binary operators

  module _ (k : ℕ) (le : suc k ≤ binary_levels)
      (side : (e : ParsedExpr) (ts rest : List Lexeme) → SpellsExpr d k e ts rest → Stops k rest → (room left : ℕ) → room ≡ left + weight e → binary_of b k room ts ≡ Some (e, left, rest)) where
    -- the parser comes to have read e, and goes on
    Reaches : ParsedExpr → (room left : ℕ) → List Lexeme → List Lexeme → Type 0
    Reaches e room left ts rest = (n : ℕ) × (length rest ≤ n) × (binary_of b (suc k) room ts ≡ chain_of (binary_of b k) k n e left rest)

    reaches_tight : (e : ParsedExpr) (ts rest : List Lexeme) → SpellsExpr d k e ts rest → Stops k rest → (room left : ℕ) → room ≡ left + weight e → Reaches e room left ts rest
    unfolding Reaches binary_of
    reaches_tight e ts rest h stop room left w = (length rest, omega arith, rw (side e ts rest h stop room left w) refl)

    reaches_next : (op : Infix) (l r : ParsedExpr) (ts x y rest : List Lexeme) → level op ≡ k → Takes (marked (infix_mark op)) x y → SpellsExpr d k r y rest → Stops k rest
        → (room mid left : ℕ) → mid ≡ suc (left + weight r) → Reaches l room mid ts x → Reaches (ParsedBinary op l r) room left ts rest
    unfolding Reaches chain_of
    reaches_next op l r ts x y rest is o right stop room mid left w (zero, long, so_far) = absurd (omega (arith, takes_shorter (marked (infix_mark op)) x y o))
    reaches_next op l r ts x y rest is o right stop room mid left w (suc n, long, so_far) =
        let found : operator_at k x ≡ Some (op, y) = subst (λ (m : ℕ). operator_at m x ≡ Some (op, y)) is (operator_again op x y o) in (
          n,
          omega (arith, takes_shorter (marked (infix_mark op)) x y o, spelled_shorter r d k y rest right),
          so_far ∙ rw (found, spend_some mid (left + weight r) w, side r y rest right stop (left + weight r) left refl) refl,
        )

    reaches : (e : ParsedExpr) (ts rest : List Lexeme) → SpellsExpr d (suc k) e ts rest → Stops k rest → (room left : ℕ) → room ≡ left + weight e → Reaches e room left ts rest
    reaches (ParsedBinary op l r) ts rest h stop room left w =
        elim (tight_or k (level op) h.0) [
          | inl lt ↦ reaches_tight (ParsedBinary op l r) ts rest (lt, h.1, h.2, h.3, h.4, h.5) stop room left w
          | inr is ↦
              let l_spelled : SpellsExpr d (suc k) l ts h.1 = subst (λ (m : ℕ). SpellsExpr d (suc m) l ts h.1) is h.3 in
              let r_spelled : SpellsExpr d k r h.2 rest = subst (λ (m : ℕ). SpellsExpr d m r h.2 rest) is h.5 in
              reaches_next op l r ts h.1 h.2 rest is h.4 r_spelled stop room (suc (left + weight r)) left refl
              (reaches l ts h.1 l_spelled (stops_at k (marked (infix_mark op)) h.1 h.2 h.4 (omega (arith, stops_infix op))) room (suc (left + weight r)) (omega arith))
        ]
    reaches (ParsedChoice c x y) ts rest h stop room left w = absurd (omega (arith, h.0))
    reaches (ParsedNumber at n u l) ts rest h stop room left w = reaches_tight (ParsedNumber at n u l) ts rest h stop room left w
    reaches (ParsedBool at v) ts rest h stop room left w = reaches_tight (ParsedBool at v) ts rest h stop room left w
    reaches (ParsedName at n) ts rest h stop room left w = reaches_tight (ParsedName at n) ts rest h stop room left w
    reaches (ParsedIndex at n e) ts rest h stop room left w = reaches_tight (ParsedIndex at n e) ts rest h stop room left w
    reaches (ParsedCall at n es) ts rest h stop room left w = reaches_tight (ParsedCall at n es) ts rest h stop room left w
    reaches (ParsedParen at e) ts rest h stop room left w = reaches_tight (ParsedParen at e) ts rest h stop room left w
    reaches (ParsedUnary at op e) ts rest h stop room left w = reaches_tight (ParsedUnary at op e) ts rest h stop room left w
    reaches (ParsedCast at r t e) ts rest h stop room left w = reaches_tight (ParsedCast at r t e) ts rest h stop room left w

    next_level : (e : ParsedExpr) (ts rest : List Lexeme) → SpellsExpr d (suc k) e ts rest → Stops (suc k) rest → (room left : ℕ) → room ≡ left + weight e → binary_of b (suc k) room ts ≡ Some (e, left, rest)
    unfolding Reaches chain_of
    next_level e ts rest h stop room left w =
        let r = reaches e ts rest h (stops_less k (suc k) rest (omega arith) stop) room left w in
        r.2 ∙ ends r.0
      where
        ends : (n : ℕ) → chain_of (binary_of b k) k n e left rest ≡ Some (e, left, rest)
        ends zero = refl
        ends (suc n) = rw (no_operator k rest stop) refl

  pub binary_complete : (k : ℕ) → k ≤ binary_levels → (e : ParsedExpr) (ts rest : List Lexeme) → SpellsExpr d k e ts rest → Stops k rest → (room left : ℕ) → room ≡ left + weight e → binary_of b k room ts ≡ Some (e, left, rest)
  unfolding binary_of
  binary_complete zero le e ts rest h stop room left w = operand_complete e ts rest h stop room left w
  binary_complete (suc k) le e ts rest h stop room left w = next_level k le (binary_complete k (omega arith)) e ts rest h stop room left w

  -- ---- an expression

  just_binary : (e : ParsedExpr) (ts rest : List Lexeme) → SpellsExpr d binary_levels e ts rest → Stops any_level rest → (room left : ℕ) → room ≡ left + weight e → expr_of b room ts ≡ Some (e, left, rest)
  unfolding expr_of
  just_binary e ts rest h stop room left w =
      let test = binary_complete binary_levels (omega arith) e ts rest h (stops_less binary_levels any_level rest (omega arith) stop) room left w in
      rw (test, take_none mark.Question rest (not_begins mark.Question any_level rest stop (omega arith))) refl

  choice_complete : (c x y : ParsedExpr) (ts rest : List Lexeme) → SpellsExpr d any_level (ParsedChoice c x y) ts rest → Stops any_level rest → (room left : ℕ) → room ≡ left + weight (ParsedChoice c x y)
      → expr_of b room ts ≡ Some (ParsedChoice c x y, left, rest)
  unfolding expr_of choice_of
  choice_complete c x y ts rest h stop room left w =
      let p = opened d (λ (n : ℕ). SpellsExpr n any_level x h.2 h.3) h.7 in
      let i = s.inner p.0 p.1 in
      let test = binary_complete binary_levels (omega arith) c ts h.1 h.5 (stops_at binary_levels (marked mark.Question) h.1 h.2 h.6 (omega arith)) room (suc (left + weight y + weight x)) (omega arith) in
      let first = s.expr i.0 i.1 x h.2 h.3 h.7 (stops_at any_level (marked mark.Colon) h.3 h.4 h.8 (omega arith)) (left + weight y + weight x) (left + weight y) refl in
      let second = s.expr i.0 i.1 y h.4 rest h.9 stop (left + weight y) left refl in
      rw (test, take_again mark.Question h.1 h.2 h.6, i.1, first, take_again mark.Colon h.3 h.4 h.8, second) refl

  pub expr_complete : (e : ParsedExpr) (ts rest : List Lexeme) → SpellsExpr d any_level e ts rest → Stops any_level rest → (room left : ℕ) → room ≡ left + weight e → expr_of b room ts ≡ Some (e, left, rest)
  expr_complete (ParsedChoice c x y) ts rest h stop room left w = choice_complete c x y ts rest h stop room left w
  expr_complete (ParsedBinary op l r) ts rest h stop room left w = just_binary (ParsedBinary op l r) ts rest (level_below op, h.1, h.2, h.3, h.4, h.5) stop room left w
  expr_complete (ParsedNumber at n u l) ts rest h stop room left w = just_binary (ParsedNumber at n u l) ts rest h stop room left w
  expr_complete (ParsedBool at v) ts rest h stop room left w = just_binary (ParsedBool at v) ts rest h stop room left w
  expr_complete (ParsedName at n) ts rest h stop room left w = just_binary (ParsedName at n) ts rest h stop room left w
  expr_complete (ParsedIndex at n e) ts rest h stop room left w = just_binary (ParsedIndex at n e) ts rest h stop room left w
  expr_complete (ParsedCall at n es) ts rest h stop room left w = just_binary (ParsedCall at n es) ts rest h stop room left w
  expr_complete (ParsedParen at e) ts rest h stop room left w = just_binary (ParsedParen at e) ts rest h stop room left w
  expr_complete (ParsedUnary at op e) ts rest h stop room left w = just_binary (ParsedUnary at op e) ts rest h stop room left w
  expr_complete (ParsedCast at r t e) ts rest h stop room left w = just_binary (ParsedCast at r t e) ts rest h stop room left w
