-- Arguments that are read are spelled so, and the parsers of all nestings are sound.
use Rattle.std.proofs.Common.{◌≡◌, inl, inr, ℕ, zero, suc, ◌+◌, List, [], ◌∷◌, length, Option, Some, Bool, true, false, refl, ap, subst, ◌∙◌, arith}
use Rattle.gang_model.specs.declared.marks.Mark.TheVariants as mark
use Rattle.gang_model.specs.Source.Tokens.{Sort, named, numbered, marked, Lexeme}
use Rattle.gang_model.specs.Source.Parsed.{ParsedArgs, ParsedEnd}
use Rattle.gang_model.specs.Source.Spells.{Takes, SpellsItems, SpellsArgs, max_weight}
use Rattle.ispc_parser_expressions.specs.declared.budget.Budget.{Budget}
use Rattle.ispc_parser_expressions.specs.declared.budget.Budget.TheVariants as budget
use Rattle.source_tree.specs.Expressions.{ParsedArg, OfValue, OfPart, OfPartFrom, with_arg}
use Rattle.ispc_parser_words.specs.Front.{begins, take}
use Rattle.ispc_parser_expressions.specs.Parse.{spend, Below, bracket_of, expr_of, part_at, part_of, arg_of, own_arg, counted, more_of, args_of, within, parsers}
use Rattle.ispc_parser_words.proofs.Tokens.{take_takes}
use Rattle.ispc_parser_expressions.proofs.Args.{SpellsArg, arg_weight, items_spelled, Counts, CountsAll, counts_none, counts_more}
use Rattle.ispc_parser_expressions.proofs.Sound.{spend_is, IsSound, bracket_sound, operand_sound, expr_sound}
use Rattle.std.proofs.lemmas.Option.{same_Some}
use Rattle.ispc_lexer.proofs.Runs.{which, bind_some, chosen}

abbrev pub ReadArg : Type 0
ReadArg = ParsedArg × ℕ × List Lexeme

abbrev pub ReadArgs : Type 0
ReadArgs = ParsedArgs × ℕ × List Lexeme

module _ (d : ℕ) (b : Option Below) (s : IsSound d b) where
  abbrev IsArg : ℕ → List Lexeme → ReadArg → Type 0
  IsArg room ts x = SpellsArg d x.0 ts x.2 × (room ≡ x.1 + arg_weight x.0)

  part_sound : (t : Lexeme) (found : Sort) (room : ℕ) (all ts : List Lexeme) (x : ReadArg) → t.sort ≡ found → Takes (marked mark.Ampersand) all (t ∷ ts) → part_at b found t.place room ts ≡ Some x → IsArg room all x
  part_sound t (numbered n u l) room all ts x is mark_is h = absurd cc
  part_sound t (marked m) room all ts x is mark_is h = absurd cc
  part_sound t (named n) room all ts x is mark_is h =
      elim (chosen (take mark.LeftBracket ts) _ _ (Some x) h) [
        | inl p ↦
            let q1 = bind_some (spend room) _ x p.2 in
            let q2 = bind_some (bracket_of b q1.0 p.0) _ x q1.2 in
            let i = bracket_sound d b s q1.0 p.0 q2.0 q2.1 in
            subst (λ (y : ReadArg). IsArg room all y) (same_Some (OfPartFrom t.place n q2.0.0, q2.0.1, q2.0.2) x q2.2) (
              (t ∷ ts, ts, p.0, i.closing, mark_is, record { token = t; is = refl; sort_is = is; place_is = refl }, take_takes mark.LeftBracket ts p.0 p.1, i.inside, i.close),
              omega (arith, spend_is room q1.0 q1.1, i.spent),
            )
        | inr p ↦
            subst (λ (y : ReadArg). IsArg room all y) (same_Some (OfPart t.place n, room, ts) x p.1)
            ((t ∷ ts, mark_is, record { token = t; is = refl; sort_is = is; place_is = refl }), omega arith)
      ]

  behind_sound : (room : ℕ) (all ts : List Lexeme) (x : ReadArg) → Takes (marked mark.Ampersand) all ts → part_of b room ts ≡ Some x → IsArg room all x
  unfolding part_of
  behind_sound room all [] x mark_is h = absurd cc
  behind_sound room all (t ∷ ts) x mark_is h = part_sound t t.sort room all ts x refl mark_is h

  arg_sound : (room : ℕ) (ts : List Lexeme) (x : ReadArg) → arg_of b room ts ≡ Some x → IsArg room ts x
  unfolding arg_of
  arg_sound room ts x h =
      elim (chosen (take mark.Ampersand ts) _ _ (Some x) h) [
        | inl p ↦ behind_sound room ts p.0 x (take_takes mark.Ampersand ts p.0 p.1) p.2
        | inr p ↦
            let q = bind_some (expr_of b room ts) _ x p.1 in
            subst (λ (y : ReadArg). IsArg room ts y) (same_Some (OfValue q.0.0, q.0.1, q.0.2) x q.2) (expr_sound d b s room ts q.0 q.1)
      ]

  pub counted_sound : (c : Budget) (room : ℕ) (ts : List Lexeme) (x : ReadArg) → counted c b room ts ≡ Some x → SpellsArg d x.0 ts x.2 × Counts c room x.1 (arg_weight x.0)
  unfolding own_arg
  counted_sound budget.Shared room ts x h = arg_sound room ts x h
  counted_sound budget.Own room ts x h =
      let q = bind_some (arg_of b max_weight ts) _ x h in
      let i = arg_sound max_weight ts q.0 q.1 in
      subst (λ (y : ReadArg). SpellsArg d y.0 ts y.2 × Counts budget.Own room y.1 (arg_weight y.0)) (same_Some (q.0.0, room, q.0.2) x q.2)
      (i.0, (omega (arith, i.1), refl))

  abbrev AreArgs : Budget → Bool → ℕ → List Lexeme → ReadArgs → Type 0
  AreArgs c first room ts x = SpellsItems d first x.0 ts x.2 × CountsAll c room x.1 x.0

  more_sound : (c : Budget) (n room : ℕ) (ts : List Lexeme) (x : ReadArgs) → more_of (counted c b) n room ts ≡ Some x → AreArgs c false room ts x
  unfolding more_of
  more_sound c zero room ts x h = subst (λ (y : ReadArgs). AreArgs c false room ts y) (same_Some (ParsedEnd, room, ts) x h) (refl, counts_none c room)
  more_sound c (suc n) room ts x h =
      elim (chosen (take mark.Comma ts) _ _ (Some x) h) [
        | inl p ↦
            let q1 = bind_some (counted c b room p.0) _ x p.2 in
            let q2 = bind_some (more_of (counted c b) n q1.0.1 q1.0.2) _ x q1.2 in
            let one = counted_sound c room p.0 q1.0 q1.1 in
            let others = more_sound c n q1.0.1 q1.0.2 q2.0 q2.1 in
            subst (λ (y : ReadArgs). AreArgs c false room ts y) (same_Some (with_arg q1.0.0 q2.0.0, q2.0.1, q2.0.2) x q2.2) (
              items_spelled d false q1.0.0 q2.0.0 ts p.0 q1.0.2 q2.0.2 (take_takes mark.Comma ts p.0 p.1) one.0 others.0,
              counts_more c q1.0.0 q2.0.0 room q1.0.1 q2.0.1 one.1 others.1,
            )
        | inr p ↦ subst (λ (y : ReadArgs). AreArgs c false room ts y) (same_Some (ParsedEnd, room, ts) x p.1) (refl, counts_none c room)
      ]

  pub args_sound : (c : Budget) (room : ℕ) (ts : List Lexeme) (x : ReadArgs) → args_of (counted c b) room ts ≡ Some x → SpellsArgs d x.0 ts x.2 × CountsAll c room x.1 x.0
  unfolding args_of
  args_sound c room ts x h =
      elim (which (begins mark.RightParen ts) _ _ (Some x) h) [
        | inl p ↦ subst (λ (y : ReadArgs). AreArgs c true room ts y) (same_Some (ParsedEnd, room, ts) x p.1) (refl, counts_none c room)
        | inr p ↦
            let q1 = bind_some (counted c b room ts) _ x p.1 in
            let q2 = bind_some (more_of (counted c b) (length q1.0.2) q1.0.1 q1.0.2) _ x q1.2 in
            let one = counted_sound c room ts q1.0 q1.1 in
            let others = more_sound c (length q1.0.2) q1.0.1 q1.0.2 q2.0 q2.1 in
            subst (λ (y : ReadArgs). AreArgs c true room ts y) (same_Some (with_arg q1.0.0 q2.0.0, q2.0.1, q2.0.2) x q2.2) (
              items_spelled d true q1.0.0 q2.0.0 ts ts q1.0.2 q2.0.2 refl one.0 others.0,
              counts_more c q1.0.0 q2.0.0 room q1.0.1 q2.0.1 one.1 others.1,
            )
      ]

pub parsers_sound : (d : ℕ) → IsSound d (parsers d)
unfolding parsers
parsers_sound zero = record {
  expr = λ inner is room ts x h. absurd cc;
  operand = λ inner is room ts x h. absurd cc;
  args = λ inner is room ts x h. absurd cc;
}
parsers_sound (suc d) = record {
  expr = λ inner is room ts x h. expr_sound d (parsers d) (parsers_sound d) room ts x (ap (λ (i : Below). i.expr room ts) (same_Some (within (parsers d)) inner is) ∙ h);
  operand = λ inner is room ts x h. operand_sound d (parsers d) (parsers_sound d) 0 room ts x (ap (λ (i : Below). i.operand room ts) (same_Some (within (parsers d)) inner is) ∙ h);
  args = λ inner is room ts x h. args_sound d (parsers d) (parsers_sound d) budget.Shared room ts x (ap (λ (i : Below). i.args room ts) (same_Some (within (parsers d)) inner is) ∙ h);
}
