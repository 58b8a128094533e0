-- What is read is spelled so, and what it spends is its weight.
use Rattle.std.proofs.Common.{◌≡◌, inl, inr, ℕ, zero, suc, ◌+◌, ◌≤◌, List, [], ◌∷◌, length, Option, Some, refl, sym, ap, subst, ◌∙◌, arith}
use denote.Enum.Bare.{sameb, same_true}
use Rattle.gang_types.specs.declared.places.Place.{Place}
use Rattle.gang_types.specs.declared.operators.UnaryOp.{UnaryOp}
use Rattle.gang_types.specs.declared.types.IntType.{IntType}
use Rattle.gang_types.specs.declared.types.Rate.{Rate}
use Rattle.gang_model.specs.declared.marks.Mark.{Mark}
use Rattle.gang_model.specs.declared.marks.Mark.TheVariants as mark
use Rattle.gang_model.specs.contracts.marks.Mark.{the_type}
use Rattle.gang_model.specs.declared.forms.Infix.{Infix}
use Rattle.gang_model.specs.Source.Tokens.{Sort, named, numbered, marked, Lexeme}
use Rattle.gang_model.specs.Source.Specs.{cast_spec_of}
use Rattle.gang_model.specs.Source.Parsed.{Name, ParsedExpr, ParsedNumber, ParsedBool, ParsedName, ParsedIndex, ParsedCall, ParsedParen, ParsedUnary, ParsedCast, ParsedBinary, ParsedChoice, ParsedArgs}
use Rattle.gang_model.specs.Source.Spells.{Takes, TakesAt, TakesWords, Opens, unary_mark, level, binary_levels, any_level, SpellsExpr, SpellsArgs, weight, args_weight}
use Rattle.ispc_parser_words.specs.Front.{take}
use Rattle.ispc_parser_words.specs.Words.{words_of, after_words, begins_word, cast_spec_at}
use Rattle.ispc_parser_words.specs.Operators.{unary_op, truth_of, operator_at}
use Rattle.ispc_parser_expressions.specs.Parse.{spend, Below, bracket_of, index_of, call_of, name_of, cast_of, paren_of, group_of, unary_of, marked_of, operand_at, operand_of, chain_of, binary_of, choice_of, expr_of}
use Rattle.ispc_parser_words.proofs.Tokens.{take_takes}
use Rattle.ispc_parser_words.proofs.OperatorMarks.{unary_op_is, truth_of_is, operator_takes}
use Rattle.ispc_parser_words.proofs.SpecWords.{words_taken}
use Rattle.std.proofs.lemmas.Option.{same_Some}
use Rattle.ispc_lexer.proofs.Runs.{which, bind_some, chosen}

pub spend_is : (room left : ℕ) → spend room ≡ Some left → room ≡ suc left
spend_is zero left e = absurd cc
spend_is (suc room) left e = ap (λ (n : ℕ). suc n) (same_Some room left e)

-- an expression, how many operators are left, and the tokens after it
abbrev pub Read : Type 0
Read = ParsedExpr × ℕ × List Lexeme

-- what was read is spelled so at this level, and it took as many operators as it has
abbrev pub IsRead : (nestings level room : ℕ) → List Lexeme → Read → Type 0
IsRead d k room ts x = SpellsExpr d k x.0 ts x.2 × (room ≡ x.1 + weight x.0)

-- the same, one nesting deeper
abbrev pub IsInside : (nestings level room : ℕ) → List Lexeme → Read → Type 0
IsInside d k room ts x = Opens d (λ n. SpellsExpr n k x.0 ts x.2) × (room ≡ x.1 + weight x.0)

-- what holds of the parsers one nesting deeper, where so many are left
pub record IsSound (d : ℕ) (b : Option Below) : Type 0 where
  pub expr : (inner : Below) → b ≡ Some inner → (room : ℕ) (ts : List Lexeme) (x : Read) → inner.expr room ts ≡ Some x → IsInside d any_level room ts x
  pub operand : (inner : Below) → b ≡ Some inner → (room : ℕ) (ts : List Lexeme) (x : Read) → inner.operand room ts ≡ Some x → IsInside d 0 room ts x
  pub args : (inner : Below) → b ≡ Some inner → (room : ℕ) (ts : List Lexeme) (x : ParsedArgs × ℕ × List Lexeme) → inner.args room ts ≡ Some x
      → Opens d (λ n. SpellsArgs n x.0 ts x.2) × (room ≡ x.1 + args_weight x.0)

-- a looser level takes what a tighter one does
pub looser : (d j k : ℕ) (e : ParsedExpr) (ts rest : List Lexeme) → j ≤ k → SpellsExpr d j e ts rest → SpellsExpr d k e ts rest
looser d j k (ParsedBinary op l r) ts rest le h = (omega (arith, h.0), h.1, h.2, h.3, h.4, h.5)
looser d j k (ParsedChoice c x y) ts rest le h = (omega (arith, h.0), h.1, h.2, h.3, h.4, h.5, h.6, h.7, h.8, h.9)
looser d j k (ParsedNumber at n u l) ts rest le h = h
looser d j k (ParsedBool at b) ts rest le h = h
looser d j k (ParsedName at n) ts rest le h = h
looser d j k (ParsedIndex at n e) ts rest le h = h
looser d j k (ParsedCall at n es) ts rest le h = h
looser d j k (ParsedParen at e) ts rest le h = h
looser d j k (ParsedUnary at op e) ts rest le h = h
looser d j k (ParsedCast at r t e) ts rest le h = h

module _ (d : ℕ) (b : Option Below) (s : IsSound d b) where
  -- ---- behind a name

  pub record IsBracket (room : ℕ) (ts : List Lexeme) (x : Read) : Type 0 where
    pub closing : List Lexeme
    pub inside : Opens d (λ n. SpellsExpr n any_level x.0 ts closing)
    pub close : Takes (marked mark.RightBracket) closing x.2
    pub spent : room ≡ x.1 + weight x.0

  pub bracket_sound : (room : ℕ) (ts : List Lexeme) (x : Read) → bracket_of b room ts ≡ Some x → IsBracket room ts x
  unfolding bracket_of
  bracket_sound room ts x h =
      let q1 = bind_some b _ x h in
      let q2 = bind_some (q1.0.expr room ts) _ x q1.2 in
      let q3 = bind_some (take mark.RightBracket q2.0.2) _ x q2.2 in
      let i = s.expr q1.0 q1.1 room ts q2.0 q2.1 in
      subst (λ (y : Read). IsBracket room ts y) (same_Some (q2.0.0, q2.0.1, q3.0) x q3.2)
      (record { closing = q2.0.2; inside = i.0; close = take_takes mark.RightBracket q2.0.2 q3.0 q3.1; spent = i.1 })

  index_sound : (k : ℕ) (at : Place) (n : Name) (room : ℕ) (all ts after : List Lexeme) (x : Read) → TakesAt (named n) at all ts → Takes (marked mark.LeftBracket) ts after → index_of b at n room after ≡ Some x → IsRead d k room all x
  unfolding index_of
  index_sound k at n room all ts after x name_is open_is h =
      let q1 = bind_some (spend room) _ x h in
      let q2 = bind_some (bracket_of b q1.0 after) _ x q1.2 in
      let i = bracket_sound q1.0 after q2.0 q2.1 in
      subst (λ (y : Read). IsRead d k room all y) (same_Some (ParsedIndex at n q2.0.0, q2.0.1, q2.0.2) x q2.2)
      ((ts, after, i.closing, name_is, open_is, i.inside, i.close), omega (arith, spend_is room q1.0 q1.1, i.spent))

  call_sound : (k : ℕ) (at : Place) (n : Name) (room : ℕ) (all ts after : List Lexeme) (x : Read) → TakesAt (named n) at all ts → Takes (marked mark.LeftParen) ts after → call_of b at n room after ≡ Some x → IsRead d k room all x
  unfolding call_of
  call_sound k at n room all ts after x name_is open_is h =
      let q1 = bind_some (spend room) _ x h in
      let q2 = bind_some b _ x q1.2 in
      let q3 = bind_some (q2.0.args q1.0 after) _ x q2.2 in
      let q4 = bind_some (take mark.RightParen q3.0.2) _ x q3.2 in
      let i = s.args q2.0 q2.1 q1.0 after q3.0 q3.1 in
      subst (λ (y : Read). IsRead d k room all y) (same_Some (ParsedCall at n q3.0.0, q3.0.1, q4.0) x q4.2)
      ((ts, after, q3.0.2, name_is, open_is, i.0, take_takes mark.RightParen q3.0.2 q4.0 q4.1), omega (arith, spend_is room q1.0 q1.1, i.1))

  name_sound : (k : ℕ) (at : Place) (n : Name) (room : ℕ) (all ts : List Lexeme) (x : Read) → TakesAt (named n) at all ts → name_of b at n room ts ≡ Some x → IsRead d k room all x
  unfolding name_of
  name_sound k at n room all ts x name_is h =
      elim (chosen (take mark.LeftParen ts) _ _ (Some x) h) [
        | inl p ↦ call_sound k at n room all ts p.0 x name_is (take_takes mark.LeftParen ts p.0 p.1) p.2
        | inr p ↦
            elim (chosen (take mark.LeftBracket ts) _ _ (Some x) p.1) [
              | inl q ↦ index_sound k at n room all ts q.0 x name_is (take_takes mark.LeftBracket ts q.0 q.1) q.2
              | inr q ↦ subst (λ (y : Read). IsRead d k room all y) (same_Some (ParsedName at n, room, ts) x q.1) (name_is, omega arith)
            ]
      ]

  -- ---- behind a mark

  cast_sound : (k : ℕ) (at : Place) (inner : Below) → b ≡ Some inner → (room : ℕ) (all ts : List Lexeme) (x : Read) → TakesAt (marked mark.LeftParen) at all ts → cast_of inner at room ts ≡ Some x → IsRead d k room all x
  unfolding cast_of cast_spec_at
  cast_sound k at inner is room all ts x open_is h =
      let q1 = bind_some (spend room) _ x h in
      let q2 = bind_some (cast_spec_at ts) _ x q1.2 in
      let q3 = bind_some (take mark.RightParen q2.0.1) _ x q2.2 in
      let q4 = bind_some (inner.operand q1.0 q3.0) _ x q3.2 in
      let w = bind_some (cast_spec_of (words_of ts)) _ q2.0 q2.1 in
      let same : (w.0, after_words ts) ≡ q2.0 = same_Some (w.0, after_words ts) q2.0 w.2 in
      let words : TakesWords (words_of ts) ts q2.0.1 = subst (λ (y : (Option Rate × Option IntType) × List Lexeme). TakesWords (words_of ts) ts y.1) same (words_taken ts) in
      let spec : cast_spec_of (words_of ts) ≡ Some (q2.0.0.0, q2.0.0.1) = w.1 ∙ ap (λ (y : (Option Rate × Option IntType) × List Lexeme). Some y.0) same in
      let i = s.operand inner is q1.0 q3.0 q4.0 q4.1 in
      subst (λ (y : Read). IsRead d k room all y) (same_Some (ParsedCast at q2.0.0.0 q2.0.0.1 q4.0.0, q4.0.1, q4.0.2) x q4.2)
      ((words_of ts, ts, q2.0.1, q3.0, open_is, words, spec, take_takes mark.RightParen q2.0.1 q3.0 q3.1, i.0), omega (arith, spend_is room q1.0 q1.1, i.1))

  paren_sound : (k : ℕ) (at : Place) (inner : Below) → b ≡ Some inner → (room : ℕ) (all ts : List Lexeme) (x : Read) → TakesAt (marked mark.LeftParen) at all ts → paren_of inner at room ts ≡ Some x → IsRead d k room all x
  unfolding paren_of
  paren_sound k at inner is room all ts x open_is h =
      let q1 = bind_some (inner.expr room ts) _ x h in
      let q2 = bind_some (take mark.RightParen q1.0.2) _ x q1.2 in
      let i = s.expr inner is room ts q1.0 q1.1 in
      subst (λ (y : Read). IsRead d k room all y) (same_Some (ParsedParen at q1.0.0, q1.0.1, q2.0) x q2.2)
      ((ts, q1.0.2, open_is, i.0, take_takes mark.RightParen q1.0.2 q2.0 q2.1), i.1)

  group_sound : (k : ℕ) (at : Place) (room : ℕ) (all ts : List Lexeme) (x : Read) → TakesAt (marked mark.LeftParen) at all ts → group_of b at room ts ≡ Some x → IsRead d k room all x
  unfolding group_of
  group_sound k at room all ts x open_is h =
      let q = bind_some b _ x h in
      elim (which (begins_word ts) _ _ (Some x) q.2) [
        | inl p ↦ cast_sound k at q.0 q.1 room all ts x open_is p.1
        | inr p ↦ paren_sound k at q.0 q.1 room all ts x open_is p.1
      ]

  unary_sound : (k : ℕ) (at : Place) (op : UnaryOp) (room : ℕ) (all ts : List Lexeme) (x : Read) → TakesAt (marked (unary_mark op)) at all ts → unary_of b at op room ts ≡ Some x → IsRead d k room all x
  unfolding unary_of
  unary_sound k at op room all ts x mark_at h =
      let q1 = bind_some b _ x h in
      let q2 = bind_some (spend room) _ x q1.2 in
      let q3 = bind_some (q1.0.operand q2.0 ts) _ x q2.2 in
      let i = s.operand q1.0 q1.1 q2.0 ts q3.0 q3.1 in
      subst (λ (y : Read). IsRead d k room all y) (same_Some (ParsedUnary at op q3.0.0, q3.0.1, q3.0.2) x q3.2)
      ((ts, mark_at, i.0), omega (arith, spend_is room q2.0 q2.1, i.1))

  marked_sound : (k : ℕ) (t : Lexeme) (m : Mark) (room : ℕ) (ts : List Lexeme) (x : Read) → t.sort ≡ marked m → marked_of b t.place m room ts ≡ Some x → IsRead d k room (t ∷ ts) x
  unfolding marked_of
  marked_sound k t m room ts x is h =
      elim (chosen (unary_op m) _ _ (Some x) h) [
        | inl p ↦ unary_sound k t.place p.0 room (t ∷ ts) ts x (record { token = t; is = refl; sort_is = is ∙ ap marked (unary_op_is m p.0 p.1); place_is = refl }) p.2
        | inr p ↦
            elim (chosen (truth_of m) _ _ (Some x) p.1) [
              | inl q ↦
                  subst (λ (y : Read). IsRead d k room (t ∷ ts) y) (same_Some (ParsedBool t.place q.0, room, ts) x q.2)
                  (record { token = t; is = refl; sort_is = is ∙ ap marked (truth_of_is m q.0 q.1); place_is = refl }, omega arith)
              | inr q ↦
                  elim (which (sameb the_type m mark.LeftParen) _ _ (Some x) q.1) [
                    | inl r ↦ group_sound k t.place room (t ∷ ts) ts x (record { token = t; is = refl; sort_is = is ∙ ap marked (same_true the_type tt m mark.LeftParen r.0); place_is = refl }) r.1
                    | inr r ↦ let no_value = r.1 in absurd cc
                  ]
            ]
      ]

  at_sound : (k : ℕ) (t : Lexeme) (found : Sort) (room : ℕ) (ts : List Lexeme) (x : Read) → t.sort ≡ found → operand_at b found t.place room ts ≡ Some x → IsRead d k room (t ∷ ts) x
  at_sound k t (numbered n u l) room ts x is h =
      subst (λ (y : Read). IsRead d k room (t ∷ ts) y) (same_Some (ParsedNumber t.place n u l, room, ts) x h) (record { token = t; is = refl; sort_is = is; place_is = refl }, omega arith)
  at_sound k t (named n) room ts x is h = name_sound k t.place n room (t ∷ ts) ts x (record { token = t; is = refl; sort_is = is; place_is = refl }) h
  at_sound k t (marked m) room ts x is h = marked_sound k t m room ts x is h

  pub operand_sound : (k room : ℕ) (ts : List Lexeme) (x : Read) → operand_of b room ts ≡ Some x → IsRead d k room ts x
  unfolding operand_of
  operand_sound k room [] x h = absurd cc
  operand_sound k room (t ∷ ts) x h = at_sound k t t.sort room ts x refl h

  -- ---- binary operators

  chain_sound : (k n before room : ℕ) (left : ParsedExpr) (all ts : List Lexeme) (x : Read)
      → ((room2 : ℕ) (us : List Lexeme) (y : Read) → binary_of b k room2 us ≡ Some y → IsRead d k room2 us y)
      → IsRead d (suc k) before all (left, room, ts) → chain_of (binary_of b k) k n left room ts ≡ Some x → IsRead d (suc k) before all x
  unfolding chain_of
  chain_sound k zero before room left all ts x side so_far h =
      subst (λ (y : Read). IsRead d (suc k) before all y) (same_Some (left, room, ts) x h) so_far
  chain_sound k (suc n) before room left all ts x side so_far h =
      elim (chosen (operator_at k ts) _ _ (Some x) h) [
        | inl p ↦
            let op : Infix = p.0.0 in
            let q1 = bind_some (spend room) _ x p.2 in
            let q2 = bind_some (binary_of b k q1.0 p.0.1) _ x q1.2 in
            let o = operator_takes k ts p.0.0 p.0.1 p.1 in
            let right = side q1.0 p.0.1 q2.0 q2.1 in
            let l : SpellsExpr d (suc (level op)) left all ts = subst (λ (m : ℕ). SpellsExpr d (suc m) left all ts) (sym o.0) so_far.0 in
            let r : SpellsExpr d (level op) q2.0.0 p.0.1 q2.0.2 = subst (λ (m : ℕ). SpellsExpr d m q2.0.0 p.0.1 q2.0.2) (sym o.0) right.0 in
            chain_sound k n before q2.0.1 (ParsedBinary p.0.0 left q2.0.0) all q2.0.2 x side
            ((omega (arith, o.0), ts, p.0.1, l, o.1, r), omega (arith, so_far.1, spend_is room q1.0 q1.1, right.1)) q2.2
        | inr p ↦ subst (λ (y : Read). IsRead d (suc k) before all y) (same_Some (left, room, ts) x p.1) so_far
      ]

  pub binary_sound : (k room : ℕ) (ts : List Lexeme) (x : Read) → binary_of b k room ts ≡ Some x → IsRead d k room ts x
  unfolding binary_of
  binary_sound zero room ts x h = operand_sound 0 room ts x h
  binary_sound (suc k) room ts x h =
      let p = bind_some (binary_of b k room ts) _ x h in
      let first = binary_sound k room ts p.0 p.1 in
      chain_sound k (length p.0.2) room p.0.1 p.0.0 ts p.0.2 x (binary_sound k) (looser d k (suc k) p.0.0 ts p.0.2 (omega arith) first.0, first.1) p.2

  -- ---- an expression

  choice_sound : (c : Read) (room : ℕ) (ts after : List Lexeme) (x : Read) → IsRead d binary_levels room ts c → Takes (marked mark.Question) c.2 after → choice_of b c.0 c.1 after ≡ Some x → IsRead d any_level room ts x
  unfolding choice_of
  choice_sound c room ts after x test question h =
      let q1 = bind_some b _ x h in
      let q2 = bind_some (spend c.1) _ x q1.2 in
      let q3 = bind_some (q1.0.expr q2.0 after) _ x q2.2 in
      let q4 = bind_some (take mark.Colon q3.0.2) _ x q3.2 in
      let q5 = bind_some (q1.0.expr q3.0.1 q4.0) _ x q4.2 in
      let first = s.expr q1.0 q1.1 q2.0 after q3.0 q3.1 in
      let second = s.expr q1.0 q1.1 q3.0.1 q4.0 q5.0 q5.1 in
      subst (λ (y : Read). IsRead d any_level room ts y) (same_Some (ParsedChoice c.0 q3.0.0 q5.0.0, q5.0.1, q5.0.2) x q5.2) (
        (omega arith, c.2, after, q3.0.2, q4.0, test.0, question, first.0, take_takes mark.Colon q3.0.2 q4.0 q4.1, second.0),
        omega (arith, test.1, spend_is c.1 q2.0 q2.1, first.1, second.1),
      )

  pub expr_sound : (room : ℕ) (ts : List Lexeme) (x : Read) → expr_of b room ts ≡ Some x → IsRead d any_level room ts x
  unfolding expr_of
  expr_sound room ts x h =
      let p = bind_some (binary_of b 10 room ts) _ x h in
      let test = binary_sound 10 room ts p.0 p.1 in
      elim (chosen (take mark.Question p.0.2) _ _ (Some x) p.2) [
        | inl q ↦ choice_sound p.0 room ts q.0 x test (take_takes mark.Question p.0.2 q.0 q.1) q.2
        | inr q ↦ subst (λ (y : Read). IsRead d any_level room ts y) (same_Some p.0 x q.1) (looser d 10 11 p.0.0 ts p.0.2 (omega arith) test.0, test.1)
      ]
