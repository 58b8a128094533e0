-- Arguments that are spelled so are read, and the parsers of all nestings are complete.
use Rattle.std.proofs.Common.{◌≡◌, inl, inr, ℕ, zero, suc, ◌-◌, ◌+◌, ◌≤◌, List, length, Option, Some, None, true, false, refl, sym, ap, subst, ◌∙◌, arith}
use Rattle.gang_types.specs.declared.places.Place.{Place}
use Rattle.gang_model.specs.declared.marks.Mark.TheVariants as mark
use Rattle.gang_model.specs.Source.Tokens.{named, marked, Lexeme}
use Rattle.gang_model.specs.Source.Parsed.{Name, ParsedExpr, ParsedArgs, ParsedEnd}
use Rattle.gang_model.specs.Source.Spells.{Takes, TakesAt, any_level, SpellsExpr, SpellsItems, SpellsArgs, weight, max_weight, Stops}
use Rattle.ispc_parser_expressions.specs.declared.budget.Budget.{Budget}
use Rattle.ispc_parser_expressions.specs.declared.budget.Budget.TheVariants as budget
use Rattle.source_tree.specs.Expressions.{ParsedArg, OfValue, OfPart, OfPartFrom, with_arg}
use Rattle.ispc_parser_words.specs.Front.{begins, take}
use Rattle.ispc_parser_expressions.specs.Parse.{Below, bracket_of, part_of, arg_of, own_arg, counted, more_of, args_of, within, parsers}
use Rattle.ispc_parser_words.proofs.Tokens.{take_again, begins_again, takes_shorter, take_none}
use Rattle.ispc_parser_expressions.proofs.Args.{SpellsArg, arg_weight, items_split, Counts, CountsAll, counts_split, counts_end, arg_shorter}
use Rattle.ispc_parser_expressions.proofs.Starts.{starts}
use Rattle.ispc_parser_words.proofs.Follows.{stops_at, not_begins}
use Rattle.ispc_parser_expressions.proofs.Complete.{IsComplete, spend_some, bracket_complete, operand_complete, expr_complete}
use Rattle.std.proofs.lemmas.Option.{same_Some}

module _ (d : ℕ) (b : Option Below) (s : IsComplete d b) where
  part_alone : (at : Place) (n : Name) (room : ℕ) (ts a rest : List Lexeme) → Takes (marked mark.Ampersand) ts a → TakesAt (named n) at a rest → take mark.LeftBracket rest ≡ None → arg_of b room ts ≡ Some (OfPart at n, room, rest)
  unfolding arg_of part_of
  part_alone at n room ts a rest mark_is name_is stop = rw (take_again mark.Ampersand ts a mark_is, name_is.is, name_is.sort_is, name_is.place_is, stop) refl

  part_index : (at : Place) (n : Name) (e : ParsedExpr) (ts a c f rest : List Lexeme) → Takes (marked mark.Ampersand) ts a → TakesAt (named n) at a c → Takes (marked mark.LeftBracket) c f
      → (room mid left : ℕ) → room ≡ suc mid → bracket_of b mid f ≡ Some (e, left, rest) → arg_of b room ts ≡ Some (OfPartFrom at n e, left, rest)
  unfolding arg_of part_of
  part_index at n e ts a c f rest mark_is name_is open_is room mid left w h =
      rw (take_again mark.Ampersand ts a mark_is, name_is.is, name_is.sort_is, name_is.place_is, take_again mark.LeftBracket c f open_is, spend_some room mid w, h) refl

  arg_value : (e : ParsedExpr) (ts rest : List Lexeme) → SpellsExpr d any_level e ts rest → Stops any_level rest → (room left : ℕ) → room ≡ left + weight e → arg_of b room ts ≡ Some (OfValue e, left, rest)
  unfolding arg_of
  arg_value e ts rest h stop room left w =
      let first = starts e d any_level ts rest h in
      rw (take_none mark.Ampersand ts first.no_ampersand, expr_complete d b s e ts rest h stop room left w) refl

  arg_complete : (x : ParsedArg) (ts rest : List Lexeme) → SpellsArg d x ts rest → Stops any_level rest → (room left : ℕ) → room ≡ left + arg_weight x → arg_of b room ts ≡ Some (x, left, rest)
  arg_complete (OfValue e) ts rest h stop room left w = arg_value e ts rest h stop room left w
  arg_complete (OfPart at n) ts rest h stop room left w =
      let same : room ≡ left = omega arith in
      part_alone at n room ts h.0 rest h.1 h.2 (take_none mark.LeftBracket rest (not_begins mark.LeftBracket any_level rest stop (omega arith)))
      ∙ ap (λ (m : ℕ). Some (OfPart at n, m, rest)) same
  arg_complete (OfPartFrom at n e) ts rest h stop room left w =
      part_index at n e ts h.0 h.1 h.2 rest h.4 h.5 h.6 room (left + weight e) left (omega arith) (bracket_complete d b s e h.2 h.3 rest h.7 h.8 (left + weight e) left refl)

  counted_complete : (c : Budget) (x : ParsedArg) (ts rest : List Lexeme) → SpellsArg d x ts rest → Stops any_level rest → (room left : ℕ) → Counts c room left (arg_weight x) → counted c b room ts ≡ Some (x, left, rest)
  unfolding own_arg
  counted_complete budget.Shared x ts rest h stop room left w = arg_complete x ts rest h stop room left w
  counted_complete budget.Own x ts rest h stop room left w =
      rw (arg_complete x ts rest h stop max_weight (max_weight - arg_weight x) (omega (arith, w.0)), w.1) refl

  -- ---- lists of them

  items_stop : (es : ParsedArgs) (ts rest after : List Lexeme) → SpellsItems d false es ts rest → Takes (marked mark.RightParen) rest after → Stops any_level ts
  items_stop es ts rest after h close =
      elim (items_split d false es ts rest h) [
        | inl p ↦ stops_at any_level (marked mark.RightParen) ts after (subst (λ (w : List Lexeme). Takes (marked mark.RightParen) w after) (sym p.1) close) (omega arith)
        | inr p ↦ stops_at any_level (marked mark.Comma) ts p.start p.separated (omega arith)
      ]

  no_comma : (ts after : List Lexeme) → Takes (marked mark.RightParen) ts after → take mark.Comma ts ≡ None
  no_comma ts after h = take_none mark.Comma ts (rw (h.is, h.sort_is) refl)

  more_none : (c : Budget) (n room : ℕ) (ts after : List Lexeme) → Takes (marked mark.RightParen) ts after → more_of (counted c b) n room ts ≡ Some (ParsedEnd, room, ts)
  unfolding more_of
  more_none c zero room ts after close = refl
  more_none c (suc n) room ts after close = rw (no_comma ts after close) refl

  more_some : (c : Budget) (n : ℕ) (x : ParsedArg) (es : ParsedArgs) (ts a mid rest : List Lexeme) → Takes (marked mark.Comma) ts a → (room less left : ℕ) → counted c b room a ≡ Some (x, less, mid)
      → more_of (counted c b) n less mid ≡ Some (es, left, rest) → more_of (counted c b) (suc n) room ts ≡ Some (with_arg x es, left, rest)
  unfolding more_of
  more_some c n x es ts a mid rest comma room less left one others = rw (take_again mark.Comma ts a comma, one, others) refl

  none_more : (c : Budget) (n : ℕ) (es : ParsedArgs) (ts rest after : List Lexeme) → es ≡ ParsedEnd → ts ≡ rest → Takes (marked mark.RightParen) rest after → (room left : ℕ) → CountsAll c room left es
      → more_of (counted c b) n room ts ≡ Some (es, left, rest)
  none_more c n es ts rest after none same close room left w =
      let all_left : room ≡ left = counts_end c room left (subst (λ (x : ParsedArgs). CountsAll c room left x) none w) in
      rw (none, same) (more_none c n room rest after close ∙ ap (λ (m : ℕ). Some (ParsedEnd, m, rest)) all_left)

  more_complete : (c : Budget) (n : ℕ) (es : ParsedArgs) (ts rest after : List Lexeme) → length ts ≤ n → SpellsItems d false es ts rest → Takes (marked mark.RightParen) rest after → (room left : ℕ) → CountsAll c room left es
      → more_of (counted c b) n room ts ≡ Some (es, left, rest)
  more_complete c zero es ts rest after long h close room left w =
      elim (items_split d false es ts rest h) [
        | inl p ↦ none_more c zero es ts rest after p.0 p.1 close room left w
        | inr p ↦ absurd (omega (arith, takes_shorter (marked mark.Comma) ts p.start p.separated))
      ]
  more_complete c (suc n) es ts rest after long h close room left w =
      elim (items_split d false es ts rest h) [
        | inl p ↦ none_more c (suc n) es ts rest after p.0 p.1 close room left w
        | inr p ↦
            let m = counts_split c p.arg p.others room left (subst (λ (x : ParsedArgs). CountsAll c room left x) p.is w) in
            let one = counted_complete c p.arg p.start p.end p.spelled (items_stop p.others p.end rest after p.more close) room m.0 m.1 in
            let others = more_complete c n p.others p.end rest after (omega (arith, takes_shorter (marked mark.Comma) ts p.start p.separated, arg_shorter d p.arg p.start p.end p.spelled)) p.more close m.0 left m.2 in
            rw p.is (more_some c n p.arg p.others ts p.start p.end rest p.separated room m.0 left one others)
      ]

  starts_arg : (x : ParsedArg) (ts rest : List Lexeme) → SpellsArg d x ts rest → begins mark.RightParen ts ≡ false
  starts_arg (OfValue e) ts rest h = (starts e d any_level ts rest h).no_close
  starts_arg (OfPart at n) ts rest h = rw (h.1.is, h.1.sort_is) refl
  starts_arg (OfPartFrom at n e) ts rest h = rw (h.4.is, h.4.sort_is) refl

  args_none : (c : Budget) (room : ℕ) (ts after : List Lexeme) → Takes (marked mark.RightParen) ts after → args_of (counted c b) room ts ≡ Some (ParsedEnd, room, ts)
  unfolding args_of
  args_none c room ts after close = rw (begins_again mark.RightParen ts after close) refl

  args_some : (c : Budget) (x : ParsedArg) (es : ParsedArgs) (ts mid rest : List Lexeme) → begins mark.RightParen ts ≡ false → (room less left : ℕ) → counted c b room ts ≡ Some (x, less, mid)
      → more_of (counted c b) (length mid) less mid ≡ Some (es, left, rest) → args_of (counted c b) room ts ≡ Some (with_arg x es, left, rest)
  unfolding args_of
  args_some c x es ts mid rest other room less left one others = rw (other, one, others) refl

  pub args_complete : (c : Budget) (es : ParsedArgs) (ts rest after : List Lexeme) → SpellsArgs d es ts rest → Takes (marked mark.RightParen) rest after → (room left : ℕ) → CountsAll c room left es
      → args_of (counted c b) room ts ≡ Some (es, left, rest)
  args_complete c es ts rest after h close room left w =
      elim (items_split d true es ts rest h) [
        | inl p ↦
            let all_left : room ≡ left = counts_end c room left (subst (λ (x : ParsedArgs). CountsAll c room left x) p.0 w) in
            rw (p.0, p.1) (args_none c room rest after close ∙ ap (λ (m : ℕ). Some (ParsedEnd, m, rest)) all_left)
        | inr p ↦
            let m = counts_split c p.arg p.others room left (subst (λ (x : ParsedArgs). CountsAll c room left x) p.is w) in
            let spelled : SpellsArg d p.arg ts p.end = subst (λ (x : List Lexeme). SpellsArg d p.arg x p.end) (sym p.separated) p.spelled in
            let one = counted_complete c p.arg ts p.end spelled (items_stop p.others p.end rest after p.more close) room m.0 m.1 in
            let others = more_complete c (length p.end) p.others p.end rest after (omega arith) p.more close m.0 left m.2 in
            rw p.is (args_some c p.arg p.others ts p.end rest (starts_arg p.arg ts p.end spelled) room m.0 left one others)
      ]

pub parsers_complete : (d : ℕ) → IsComplete d (parsers d)
unfolding parsers
parsers_complete zero = record {
  inner = λ n is. absurd cc;
  expr = λ i is e ts rest h stop room left w. absurd h;
  operand = λ i is e ts rest h stop room left w. absurd h;
  args = λ i is es ts rest after h close room left w. absurd h;
}
parsers_complete (suc d) = record {
  inner = λ n is. (within (parsers d), refl);
  expr = λ i is e ts rest h stop room left w. ap (λ (x : Below). x.expr room ts) (sym (same_Some (within (parsers d)) i is)) ∙ expr_complete d (parsers d) (parsers_complete d) e ts rest h stop room left w;
  operand = λ i is e ts rest h stop room left w. ap (λ (x : Below). x.operand room ts) (sym (same_Some (within (parsers d)) i is)) ∙ operand_complete d (parsers d) (parsers_complete d) e ts rest h stop room left w;
  args = λ i is es ts rest after h close room left w. ap (λ (x : Below). x.args room ts) (sym (same_Some (within (parsers d)) i is)) ∙ args_complete d (parsers d) (parsers_complete d) budget.Shared es ts rest after h close room left w;
}
