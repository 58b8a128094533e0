-- What is spelled as the head of a loop or a foreach form is read so.
use Rattle.std.proofs.Common.{◌≡◌, inl, inr, ℕ, List, [], ◌∷◌, Option, Some, None, Bool, true, refl, ◌∙◌, arith}
use Rattle.gang_types.specs.declared.places.Place.{Place}
use Rattle.gang_model.specs.declared.marks.Mark.TheVariants as mark
use Rattle.gang_model.specs.Source.Tokens.{Sort, named, marked, Lexeme}
use Rattle.gang_model.specs.Source.Parsed.{Name, ParsedExpr, ParsedDim, ParsedStmt, ParsedEmpty, ParsedDeclare}
use Rattle.gang_model.specs.Source.Spells.{Takes, TakesAt, Stops, any_level, WholeExpr}
use Rattle.gang_model.specs.Source.SpellsStatements.{BeginsAt, Maybe, InParens, SpellsStart, SpellsUpdate, SpellsRounds, SpellsDim, max_dims, SpellsDims, SpellsDistinct}
use Rattle.ispc_parser_words.specs.Words.{begins_word}
use Rattle.ispc_parser_expressions.specs.Parse.{whole_expr}
use Rattle.ispc_parser_words.proofs.Tokens.{take_again, begins_again}
use Rattle.ispc_parser_expressions.proofs.Starts.{starts}
use Rattle.ispc_parser_words.proofs.Follows.{stops_at}
use Rattle.ispc_parser_expressions.proofs.Whole.{whole_complete}
use Rattle.ispc_parser_shared.specs.declared.words.Loop.TheVariants as loop
use Rattle.ispc_parser_shared.specs.Front.{name_of, in_parens}
use Rattle.ispc_parser_shared.proofs.Tokens.{other_first, in_parens_again, name_again}
use Rattle.ispc_parser_shared.proofs.SpecTokens.{word_first}
use Rattle.ispc_parser_shared.proofs.CommaLists.{list_complete}
use Rattle.ispc_parser_parts.specs.Parts.{behind, declaration_of, simple_of}
use Rattle.ispc_parser_parts.proofs.Beginnings.{BeginsSimple, simple_first, simple_no_word, simple_other, declaration_word}
use Rattle.ispc_parser_parts.proofs.PartsComplete.{declaration_complete, simple_complete}
use Rattle.ispc_parser_heads.specs.Heads.{optional_of, start_of, update_of, rounds_of, dim_of, dims_of, distinct_of, ParsedRounds, ParsedDistinct, WhileHead, ForHead, ForEachHead, ActiveHead, UniqueHead, head_of}

module _ (d : ℕ) where
  -- ---- the parts of a head

  pub optional_complete : (o : Option ParsedExpr) (ts rest after : List Lexeme) → Maybe (WholeExpr d) o ts rest → Takes (marked mark.Semicolon) rest after → optional_of d ts ≡ Some (o, rest)
  unfolding optional_of
  optional_complete None ts rest after h last = rw (h, begins_again mark.Semicolon rest after last) refl
  optional_complete (Some e) ts rest after h last =
      rw ((starts e d any_level ts rest h.0).no_semicolon, whole_complete d e ts rest h (stops_at any_level (marked mark.Semicolon) rest after last (omega arith))) refl

  start_declared : (at : Place) (ts : List Lexeme) → begins_word ts ≡ true → BeginsAt at ts → start_of d ts ≡ declaration_of d at ts
  unfolding start_of
  start_declared at [] word here = absurd here
  start_declared at (t ∷ ts) word here = rw (word_first mark.Semicolon (t ∷ ts) word refl, word, here) refl

  start_simple : (s : Sort) (ts after : List Lexeme) → Takes s ts after → BeginsSimple s → start_of d ts ≡ simple_of d ts
  unfolding start_of
  start_simple s ts after h simple = rw (h.is, h.sort_is, simple_other mark.Semicolon s simple (λ h. h), simple_no_word s simple) refl

  start_complete : (x : ParsedStmt) (ts rest after : List Lexeme) → SpellsStart d x ts rest → Takes (marked mark.Semicolon) rest after → start_of d ts ≡ Some (x, rest)
  unfolding start_of
  start_complete ParsedEmpty ts rest after h last = rw (h, last.is, last.sort_is) refl
  start_complete (ParsedDeclare at spec name_at n o) ts rest after (inl h) last =
      start_declared at ts (declaration_word d (ParsedDeclare at spec name_at n o) ts rest h) h.2 ∙ declaration_complete d at spec name_at n o ts rest after h last
  start_complete _ ts rest after (inl h) last = absurd h
  start_complete x ts rest after (inr h) last =
      let p = simple_first d x ts rest h in
      start_simple p.0 ts p.1 p.2 p.3 ∙ simple_complete d x ts rest h (stops_at any_level (marked mark.Semicolon) rest after last (omega arith))

  update_complete : (x : ParsedStmt) (ts rest after : List Lexeme) → SpellsUpdate d x ts rest → Takes (marked mark.RightParen) rest after → update_of d ts ≡ Some (x, rest)
  unfolding update_of
  update_complete ParsedEmpty ts rest after h close = rw (h, begins_again mark.RightParen rest after close) refl
  update_complete x ts rest after h close =
      let p = simple_first d x ts rest h in
      rw (other_first mark.RightParen p.0 ts p.1 p.2 (simple_other mark.RightParen p.0 p.3 (λ h. h)))
      (simple_complete d x ts rest h (stops_at any_level (marked mark.RightParen) rest after close (omega arith)))

  rounds_complete : (r : ParsedRounds) (ts rest after : List Lexeme) → SpellsRounds r.start r.test r.update d ts rest → Takes (marked mark.RightParen) rest after → rounds_of d ts ≡ Some (r, rest)
  unfolding rounds_of
  rounds_complete r ts rest after h close =
      rw (
        start_complete r.start ts h.0 h.1 h.4 h.5,
        take_again mark.Semicolon h.0 h.1 h.5,
        optional_complete r.test h.1 h.2 h.3 h.6 h.7,
        take_again mark.Semicolon h.2 h.3 h.7,
        update_complete r.update h.3 rest after h.8 close,
      ) refl

  dim_complete : (x : ParsedDim) (ts rest : List Lexeme) → SpellsDim d x ts rest → Stops any_level rest → dim_of d ts ≡ Some (x, rest)
  unfolding dim_of behind
  dim_complete x ts rest h stop =
      rw (
        name_again x.at x.name ts h.0 h.4,
        take_again mark.Assign h.0 h.1 h.5,
        whole_complete d x.low h.1 h.2 h.6 (stops_at any_level (marked mark.Dots) h.2 h.3 h.7 (omega arith)),
        take_again mark.Dots h.2 h.3 h.7,
        whole_complete d x.high h.3 rest h.8 stop,
      ) refl

  dims_complete : (xs : List ParsedDim) (ts rest after : List Lexeme) → SpellsDims xs d ts rest → Takes (marked mark.RightParen) rest after → dims_of d ts ≡ Some (xs, rest)
  unfolding dims_of
  dims_complete xs ts rest after h close = list_complete (dim_of d) (SpellsDim d) dim_complete max_dims xs ts rest after h.0 h.1 close

  distinct_complete : (v : ParsedDistinct) (ts rest after : List Lexeme) → SpellsDistinct v.at v.name v.value d ts rest → Takes (marked mark.RightParen) rest after → distinct_of d ts ≡ Some (v, rest)
  unfolding distinct_of behind
  distinct_complete v ts rest after h close =
      rw (name_again v.at v.name ts h.0 h.2, take_again mark.In h.0 h.1 h.3, whole_complete d v.value h.1 rest h.4 (stops_at any_level (marked mark.RightParen) rest after close (omega arith))) refl

-- ---- heads

module _ (d : ℕ) (at : Place) (ts rest : List Lexeme) where
  pub test_complete : (e : ParsedExpr) → InParens d (λ inner. WholeExpr inner e) ts rest → in_parens whole_expr d ts ≡ Some (e, rest)
  test_complete e h =
      in_parens_again whole_expr (λ x inner. WholeExpr inner x) (λ n x a b after k close. whole_complete n x a b k (stops_at any_level (marked mark.RightParen) b after close (omega arith))) d e ts rest h

  pub while_complete : (e : ParsedExpr) → InParens d (λ inner. WholeExpr inner e) ts rest → head_of loop.While d at ts ≡ Some (WhileHead at e, rest)
  unfolding head_of
  while_complete e h = rw (test_complete e h) refl

  pub for_complete : (r : ParsedRounds) → InParens d (SpellsRounds r.start r.test r.update) ts rest → head_of loop.For d at ts ≡ Some (ForHead at r, rest)
  unfolding head_of
  for_complete r h = rw (in_parens_again rounds_of (λ x. SpellsRounds x.start x.test x.update) rounds_complete d r ts rest h) refl

  pub foreach_complete : (is_tiled : Bool) (dims : List ParsedDim) → InParens d (SpellsDims dims) ts rest → head_of (loop.ForEach is_tiled) d at ts ≡ Some (ForEachHead at is_tiled dims, rest)
  unfolding head_of
  foreach_complete is_tiled dims h = rw all refl
    where
      all : in_parens dims_of d ts ≡ Some (dims, rest)
      all = in_parens_again dims_of SpellsDims dims_complete d dims ts rest h

  pub active_complete : (name_at : Place) (n : Name) → InParens d (λ inner. TakesAt (named n) name_at) ts rest → head_of loop.ForEachActive d at ts ≡ Some (ActiveHead at name_at n, rest)
  unfolding head_of
  active_complete name_at n h = rw (in_parens_again (λ inner. name_of) (λ y inner. TakesAt (named y.1) y.0) (λ k y a b after p close. name_again y.0 y.1 a b p) d (name_at, n) ts rest h) refl

  pub unique_complete : (v : ParsedDistinct) → InParens d (SpellsDistinct v.at v.name v.value) ts rest → head_of loop.ForEachUnique d at ts ≡ Some (UniqueHead at v, rest)
  unfolding head_of
  unique_complete v h = rw (in_parens_again distinct_of (λ x. SpellsDistinct x.at x.name x.value) distinct_complete d v ts rest h) refl
