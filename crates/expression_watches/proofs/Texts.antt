-- The expression that a text is, as lexer and parser find it.
use Rattle.std.proofs.Common.{◌≡◌, refl, sym, subst, ap, ◌∙◌, ℕ, ◌<◌, ◌≤◌, Bool, true, false, List, [], ◌∷◌, length, Option, Some, None, Result, Ok, Err, inl, inr, arith}
use Rattle.std.specs.Prelude.{◌⊎◌, nat_lt, option_map, if◌then◌else◌}
use Rattle.std.specs.Result.{result_ok}
use Rattle.std.proofs.lemmas.Bool.{cases_lt, le-ltb, lt-ltb}
use Rattle.std.proofs.lemmas.Option.{none-some, same_Some}
use Rattle.gang_types.specs.declared.places.Spot.{Spot}
use Rattle.gang_types.specs.declared.types.IntType.{IntType}
use Rattle.gang_types.specs.declared.types.Rate.{Rate}
use Rattle.gang_model.specs.declared.refusals.SourceRefusal.{SourceRefusal}
use Rattle.gang_model.specs.Source.Judged.{Faulty, Judged, Sound, answer_of, sound_part}
use Rattle.gang_model.specs.Source.Lexes.{Lexes, first_place, max_source}
use Rattle.gang_model.specs.Source.Parsed.{ParsedExpr}
use Rattle.gang_model.specs.Source.Spells.{WholeExpr}
use Rattle.gang_model.specs.Source.SpellsSource.{max_nesting}
use Rattle.gang_model.specs.Source.Tokens.{Lexeme}
use Rattle.gang_model.specs.Types.Conversions.{Typed, typed}
use Rattle.gang_model.specs.Types.Tree.{Expr, Program}
use Rattle.gang_model.specs.Types.Typing.{expression}
use Rattle.source_answers.specs.declared.fault.SourceFault.TheVariants as fault
use Rattle.ispc_lexer.specs.Refusal.{IsRefusal}
use Rattle.ispc_lexer.specs.Source.{lexed}
use Rattle.ispc_lexer.proofs.Lexed.{lex_complete, lex_sound}
use Rattle.ispc_lexer.proofs.Laws.{same_tokens}
use Rattle.ispc_parser_expressions.specs.Parse.{whole_expr}
use Rattle.ispc_parser_expressions.proofs.Whole.{whole_complete, whole_sound}
use Rattle.frame_expressions.specs.Meanings.{entries_at}
use Rattle.placed_expressions.specs.declared.answers.ExpressionRefusal.{ExpressionRefusal}
use Rattle.placed_expressions.specs.declared.answers.ExpressionRefusal.TheVariants as refusal
use Rattle.placed_expressions.specs.Placed.{HasTokens, IsWritten}
use Rattle.placed_expressions.specs.Refusals.{HasNoExpression, IsRefused}
use Rattle.expression_watches.specs.Names.{same_names}
use Rattle.expression_watches.specs.Meanings.{meaning_at, meaning_by, tokens_of, tree_at, tree_in, whole, written_by}

-- ---- the tokens

module _ (text : List ℕ) where
  abbrev read : Result (List Lexeme) SourceRefusal
  read = lexed (length text) 0 first_place text

  by_size : (b : Bool) → nat_lt max_source (length text) ≡ b → tokens_of text ≡ (if b then None else result_ok read)
  by_size b is = ap (λ (b : Bool). if b then None else result_ok read) is

  -- those that spell it
  pub tokens_are : (tokens : List Lexeme) → length text ≤ max_source → Lexes text tokens → tokens_of text ≡ Some tokens
  tokens_are tokens few spelled =
      let found : read ≡ Ok tokens = lex_complete spelled.0 (length text) 0 first_place text (omega arith) spelled.1 ∙ ap Ok spelled.2 in
      by_size false (le-ltb max_source (length text) few) ∙ ap result_ok found

  -- too many bytes have none
  pub too_long : max_source < length text → tokens_of text ≡ None
  too_long many = by_size true (lt-ltb max_source (length text) many)

  by_reading : (r : Result (List Lexeme) SourceRefusal) → read ≡ r → ((tokens : List Lexeme) → Lexes text tokens → ⊥) → result_ok r ≡ None
  by_reading (Ok tokens) is none = absurd (none tokens (lex_sound (length text) 0 first_place text tokens (omega arith) is))
  by_reading (Err fault) is none = refl

  -- a text that no tokens spell has none
  pub no_tokens : length text ≤ max_source → ((tokens : List Lexeme) → Lexes text tokens → ⊥) → tokens_of text ≡ None
  no_tokens few none = by_size false (le-ltb max_source (length text) few) ∙ by_reading read refl none

  by_found : (r : Result (List Lexeme) SourceRefusal) → read ≡ r → (tokens : List Lexeme) → result_ok r ≡ Some tokens → Lexes text tokens
  by_found (Ok found) is tokens same = lex_sound (length text) 0 first_place text tokens (omega arith) (is ∙ ap Ok (same_Some found tokens same))
  by_found (Err fault) is tokens same = absurd (none-some tokens same)

  by_bound : (c : (max_source < length text) ⊎ (length text ≤ max_source)) → (tokens : List Lexeme) → tokens_of text ≡ Some tokens → HasTokens text tokens
  by_bound (inl many) tokens are = absurd (none-some tokens (sym (too_long many) ∙ are))
  by_bound (inr few) tokens are = record {
    few = few;
    spelled = by_found read refl tokens (sym (by_size false (le-ltb max_source (length text) few)) ∙ are);
  }

  -- those that it has spell it
  pub tokens_spell : (tokens : List Lexeme) → tokens_of text ≡ Some tokens → HasTokens text tokens
  tokens_spell tokens are = by_bound (cases_lt max_source (length text)) tokens are

-- a text that the lexer refuses has none
pub refused_tokens : (text : List ℕ) (r : SourceRefusal) → IsRefusal text (fault.Refused r) → tokens_of text ≡ None
refused_tokens text r (inl (many, number, place)) = too_long text many
refused_tokens text r (inr (few, only)) = no_tokens text few only.none

-- ---- the expression

module _ (tokens : List Lexeme) where
  -- what they spell
  pub is_written : (written : ParsedExpr) → WholeExpr max_nesting written tokens [] → written_by tokens ≡ Some written
  is_written written spelled = ap whole (whole_complete max_nesting written tokens [] spelled tt)

  by_parser : (r : Option (ParsedExpr × List Lexeme)) → whole_expr max_nesting tokens ≡ r → ((written : ParsedExpr) → WholeExpr max_nesting written tokens [] → ⊥) → whole r ≡ None
  by_parser None is none = refl
  by_parser (Some (written, [])) is none = absurd (none written (whole_sound max_nesting written tokens [] is))
  by_parser (Some (written, token ∷ more)) is none = refl

  -- those that spell none
  pub none_written : ((written : ParsedExpr) → WholeExpr max_nesting written tokens [] → ⊥) → written_by tokens ≡ None
  none_written none = by_parser (whole_expr max_nesting tokens) refl none

-- the expression with its names resolved
pub tree_is : (p : Program) (spot : Spot) (tokens : List Lexeme) (written : ParsedExpr) (e : Expr) (type : IntType) (rate : Rate) → WholeExpr max_nesting written tokens []
    → expression written (entries_at p spot) ≡ Sound (typed e type rate) → tree_at p spot tokens ≡ Some e
tree_is p spot tokens written e type rate spelled sound =
    ap (tree_in (entries_at p spot)) (is_written tokens written spelled) ∙ ap (λ (j : Judged Typed). option_map (λ (t : Typed). t.expr) (sound_part j)) sound

by_judging : (j : Judged Typed) (r : SourceRefusal) → answer_of j ≡ Err r → option_map (λ (t : Typed). t.expr) (sound_part j) ≡ None
by_judging (Sound t) r is = absurd cc
by_judging (Faulty first others) r is = refl

-- an expression that is refused has none
pub no_tree : (p : Program) (spot : Spot) (tokens : List Lexeme) (written : ParsedExpr) (r : SourceRefusal) → WholeExpr max_nesting written tokens []
    → answer_of (expression written (entries_at p spot)) ≡ Err r → tree_at p spot tokens ≡ None
no_tree p spot tokens written r spelled refused =
    ap (tree_in (entries_at p spot)) (is_written tokens written spelled) ∙ by_judging (expression written (entries_at p spot)) r refused

-- ---- a text that is refused

module _ (p : Program) (spot : Spot) (text : List ℕ) (tokens : List Lexeme) (are : tokens_of text ≡ Some tokens) where
  abbrev has : HasTokens text tokens
  has = tokens_spell text tokens are

  spelled_by : (others : List Lexeme) (written : ParsedExpr) → HasTokens text others → WholeExpr max_nesting written others [] → WholeExpr max_nesting written tokens []
  spelled_by others written their spelled = subst (λ ts. WholeExpr max_nesting written ts []) (same_tokens text others tokens their.spelled has.spelled) spelled

  -- what it is, where it is an expression
  pub tree_here : (written : ParsedExpr) (e : Expr) (type : IntType) (rate : Rate) → IsWritten text written → expression written (entries_at p spot) ≡ Sound (typed e type rate)
      → tree_at p spot tokens ≡ Some e
  tree_here written e type rate (others, reads) sound = tree_is p spot tokens written e type rate (spelled_by others written reads.tokens_are reads.spelled) sound

  -- what it means, by whether its names stand for the same
  pub meant : (set_at : Spot) (b : Bool) → same_names p set_at spot tokens ≡ b → meaning_at p set_at spot text ≡ (if b then tree_at p spot tokens else None)
  meant set_at b same = ap (meaning_by p set_at spot) are ∙ ap (λ (b : Bool). if b then tree_at p spot tokens else None) same

  -- it has no meaning, where there was memory
  pub none_at : (r : ExpressionRefusal) → (r ≡ refusal.Memory → ⊥) → IsRefused text p spot r → tree_at p spot tokens ≡ None
  none_at refusal.Memory other is = absurd (other refl)
  none_at (refusal.NoTokens r) other (inl long) = absurd (none-some tokens (sym (too_long text long.many) ∙ are))
  none_at (refusal.NoTokens r) other (inr none) = absurd (none.none tokens has.spelled)
  none_at (refusal.NoExpression r) other (others, their, none) =
      let here = subst (λ ts. HasNoExpression ts r) (same_tokens text others tokens their.spelled has.spelled) none in
      ap (tree_in (entries_at p spot)) (none_written tokens here.none)
  none_at (refusal.NoValue r) other (others, written, reads, none) = no_tree p spot tokens written none.0 (spelled_by others written reads.tokens_are reads.spelled) none.1
  none_at (refusal.CallsFunction place) other (others, written, reads, none) = no_tree p spot tokens written _ (spelled_by others written reads.tokens_are reads.spelled) none.0
