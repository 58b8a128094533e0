-- What the parser's answer says of whole expressions.
use Rattle.std.proofs.Common.{◌≡◌, ℕ, ◌<◌, ◌≤◌, List, [], ◌∷◌, length, get_or, drop, Some, None, inl, refl, sym, ap, ◌∙◌, subst, arith}
use Rattle.std.proofs.lemmas.Option.{same_Some}
use Rattle.gang_model.specs.declared.refusals.RefusalNumber.TheVariants.{S3}
use Rattle.gang_model.specs.declared.refusals.SourceRefusal.{SourceRefusal}
use Rattle.gang_model.specs.Source.Lexes.{Lexes}
use Rattle.gang_model.specs.Source.Parsed.{ParsedExpr}
use Rattle.gang_model.specs.Source.Spells.{WholeExpr}
use Rattle.gang_model.specs.Source.SpellsSource.{max_nesting}
use Rattle.gang_model.specs.Source.Tokens.{Lexeme}
use Rattle.ispc_lexer.specs.declared.token.Token.{Token}
use Rattle.ispc_lexer.specs.Views.{lexeme_of, lexemes_of}
use Rattle.ispc_lexer.proofs.Laws.{same_tokens}
use Rattle.ispc_parser_words.specs.Front.{IsParserNumber}
use Rattle.ispc_parser_words.proofs.TreeNumbers.{tree_number}
use Rattle.ispc_parser_expressions.specs.Parse.{whole_expr}
use Rattle.ispc_parser_expressions.proofs.Whole.{whole_complete, whole_sound}
use Rattle.placed_expressions.specs.Placed.{Reads}
use Rattle.placed_expressions.specs.Refusals.{HasNoExpression}

module _ (tokens : List Lexeme) where
  -- nothing is left
  pub is_whole : (written : ParsedExpr) (rest : List Lexeme) → whole_expr max_nesting tokens ≡ Some (written, rest) → rest ≡ [] → WholeExpr max_nesting written tokens []
  is_whole written rest read none = whole_sound max_nesting written tokens [] (read ∙ ap (λ rest. Some (written, rest)) none)

  -- a token is left
  pub goes_on : (written : ParsedExpr) (token : Lexeme) (rest : List Lexeme) → whole_expr max_nesting tokens ≡ Some (written, token ∷ rest)
      → HasNoExpression tokens (record { number = S3; place = token.place })
  goes_on written token rest read = record {
    none = λ other spelled.
        let same = same_Some (written, token ∷ rest) (other, []) (sym read ∙ whole_complete max_nesting other tokens [] spelled tt) in
        let left : token ∷ rest ≡ [] = ap (λ (p : ParsedExpr × List Lexeme). p.1) same in
        absurd cc;
    number = inl refl;
    behind = λ other next more spelled stops.
        let same = same_Some (written, token ∷ rest) (other, next ∷ more) (sym read ∙ whole_complete max_nesting other tokens (next ∷ more) spelled stops) in
        let left : token ∷ rest ≡ next ∷ more = ap (λ (p : ParsedExpr × List Lexeme). p.1) same in
        let one : token ≡ next = cc in
        ap (λ (t : Lexeme). record { number = S3; place = t.place }) one;
  }

  -- nothing is read
  pub is_none : (refusal : SourceRefusal) → whole_expr max_nesting tokens ≡ None → IsParserNumber refusal.number → HasNoExpression tokens refusal
  is_none refusal read number = record {
    none = λ other spelled. let found = sym read ∙ whole_complete max_nesting other tokens [] spelled tt in absurd cc;
    number = tree_number refusal.number number;
    behind = λ other next more spelled stops. let found = sym read ∙ whole_complete max_nesting other tokens (next ∷ more) spelled stops in absurd cc;
  }

-- ---- one expression

pub one_written : (text : List ℕ) (tokens others : List Lexeme) (written other : ParsedExpr) → Lexes text tokens → WholeExpr max_nesting written tokens [] → Reads text others other → written ≡ other
one_written text tokens others written other lexed spelled reads =
    let same : others ≡ tokens = same_tokens text others tokens reads.tokens_are.spelled lexed in
    let theirs = whole_complete max_nesting other tokens [] (subst (λ ts. WholeExpr max_nesting other ts []) same reads.spelled) tt in
    let one = same_Some (written, []) (other, []) (sym (whole_complete max_nesting written tokens [] spelled tt) ∙ theirs) in
    ap (λ (p : ParsedExpr × List Lexeme). p.0) one

-- ---- the tokens that are left

pub none_left : (ts : List Token) → length ts < 1 → lexemes_of ts ≡ []
none_left [] few = refl
none_left (t ∷ ts) few = absurd (omega (arith, few))

pub one_left : (ts : List Token) (t : Token) → 1 ≤ length ts → t ≡ get_or ts 0 t → lexemes_of ts ≡ lexeme_of t ∷ lexemes_of (drop 1 ts)
one_left [] t some is = absurd (omega (arith, some))
one_left (u ∷ ts) t some is = ap (λ x. lexeme_of x ∷ lexemes_of ts) (sym is)
