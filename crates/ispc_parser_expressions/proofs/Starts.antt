-- How expressions begin, and that they take tokens.
use Rattle.std.proofs.Common.{◌≡◌, ℕ, suc, ◌<◌, ◌≤◌, List, length, None, Bool, true, false, refl, ap, arith}
use Rattle.gang_types.specs.declared.operators.UnaryOp.{UnaryOp}
use Rattle.gang_types.specs.declared.operators.UnaryOp.TheVariants as unary
use Rattle.gang_model.specs.declared.marks.Mark.TheVariants as mark
use Rattle.gang_model.specs.Source.Tokens.{Sort, named, numbered, marked, Lexeme}
use Rattle.gang_model.specs.Source.Parsed.{ParsedExpr, ParsedNumber, ParsedBool, ParsedName, ParsedIndex, ParsedCall, ParsedParen, ParsedUnary, ParsedCast, ParsedBinary, ParsedChoice, ParsedArgs, ParsedEnd, ParsedValue, ParsedPart, ParsedPartFrom}
use Rattle.gang_model.specs.Source.Spells.{Takes, Separates, truth_mark, unary_mark, infix_mark, level, binary_levels, any_level, SpellsExpr, SpellsItems}
use Rattle.ispc_parser_words.specs.Front.{is_mark, begins}
use Rattle.ispc_parser_words.specs.Words.{spec_word, begins_word}
use Rattle.gang_model.proofs.NestingLaws.{opened}
use Rattle.ispc_parser_words.proofs.Tokens.{takes_at, takes_shorter, at_shorter}
use Rattle.ispc_parser_words.proofs.SpecWords.{words_shorter}

-- ---- the first token

-- no expression begins so
pub record Starts (ts : List Lexeme) : Type 0 where
  pub no_word : begins_word ts ≡ false
  pub no_close : begins mark.RightParen ts ≡ false
  pub no_semicolon : begins mark.Semicolon ts ≡ false
  pub no_ampersand : begins mark.Ampersand ts ≡ false

starts_with : (s : Sort) (ts rest : List Lexeme) → Takes s ts rest → spec_word s ≡ None → is_mark mark.RightParen s ≡ false → is_mark mark.Semicolon s ≡ false → is_mark mark.Ampersand s ≡ false → Starts ts
starts_with s ts rest h p q r v = record { no_word = rw (h.is, h.sort_is, p) refl; no_close = rw (h.is, h.sort_is) q; no_semicolon = rw (h.is, h.sort_is) r; no_ampersand = rw (h.is, h.sort_is) v }

starts_truth : (b : Bool) (ts rest : List Lexeme) → Takes (marked (truth_mark b)) ts rest → Starts ts
starts_truth true ts rest h = starts_with (marked mark.True) ts rest h refl refl refl refl
starts_truth false ts rest h = starts_with (marked mark.False) ts rest h refl refl refl refl

starts_unary : (op : UnaryOp) (ts rest : List Lexeme) → Takes (marked (unary_mark op)) ts rest → Starts ts
starts_unary unary.Negate ts rest h = starts_with (marked mark.Minus) ts rest h refl refl refl refl
starts_unary unary.Plus ts rest h = starts_with (marked mark.Plus) ts rest h refl refl refl refl
starts_unary unary.Not ts rest h = starts_with (marked mark.Exclamation) ts rest h refl refl refl refl
starts_unary unary.Complement ts rest h = starts_with (marked mark.Tilde) ts rest h refl refl refl refl

pub starts : (e : ParsedExpr) (d k : ℕ) (ts rest : List Lexeme) → SpellsExpr d k e ts rest → Starts ts
starts (ParsedNumber at n u l) d k ts rest h = starts_with (numbered n u l) ts rest (takes_at (numbered n u l) at ts rest h) refl refl refl refl
starts (ParsedBool at b) d k ts rest h = starts_truth b ts rest (takes_at (marked (truth_mark b)) at ts rest h)
starts (ParsedName at n) d k ts rest h = starts_with (named n) ts rest (takes_at (named n) at ts rest h) refl refl refl refl
starts (ParsedIndex at n e) d k ts rest h = starts_with (named n) ts h.0 (takes_at (named n) at ts h.0 h.3) refl refl refl refl
starts (ParsedCall at n es) d k ts rest h = starts_with (named n) ts h.0 (takes_at (named n) at ts h.0 h.3) refl refl refl refl
starts (ParsedParen at e) d k ts rest h = starts_with (marked mark.LeftParen) ts h.0 (takes_at (marked mark.LeftParen) at ts h.0 h.2) refl refl refl refl
starts (ParsedUnary at op e) d k ts rest h = starts_unary op ts h.0 (takes_at (marked (unary_mark op)) at ts h.0 h.1)
starts (ParsedCast at r t e) d k ts rest h = starts_with (marked mark.LeftParen) ts h.1 (takes_at (marked mark.LeftParen) at ts h.1 h.4) refl refl refl refl
starts (ParsedBinary op l r) d k ts rest h = starts l d (suc (level op)) ts h.1 h.3
starts (ParsedChoice c x y) d k ts rest h = starts c d binary_levels ts h.1 h.5

-- ---- lengths

separates_shorter : (first : Bool) (ts rest : List Lexeme) → Separates first ts rest → length rest ≤ length ts
separates_shorter true ts rest h = omega (arith, ap length h)
separates_shorter false ts rest h = omega (arith, takes_shorter (marked mark.Comma) ts rest h)

mutual
  pub spelled_shorter : (e : ParsedExpr) (d k : ℕ) (ts rest : List Lexeme) → SpellsExpr d k e ts rest → length rest < length ts
  spelled_shorter (ParsedNumber at n u l) d k ts rest h = omega (arith, at_shorter (numbered n u l) at ts rest h)
  spelled_shorter (ParsedBool at b) d k ts rest h = omega (arith, at_shorter (marked (truth_mark b)) at ts rest h)
  spelled_shorter (ParsedName at n) d k ts rest h = omega (arith, at_shorter (named n) at ts rest h)
  spelled_shorter (ParsedIndex at n e) d k ts rest h =
      let p = opened d (λ (n : ℕ). SpellsExpr n any_level e h.1 h.2) h.5 in
      omega (arith, at_shorter (named n) at ts h.0 h.3, takes_shorter (marked mark.LeftBracket) h.0 h.1 h.4, spelled_shorter e p.0 any_level h.1 h.2 p.2, takes_shorter (marked mark.RightBracket) h.2 rest h.6)
  spelled_shorter (ParsedCall at n es) d k ts rest h =
      let p = opened d (λ (n : ℕ). SpellsItems n true es h.1 h.2) h.5 in
      omega (arith, at_shorter (named n) at ts h.0 h.3, takes_shorter (marked mark.LeftParen) h.0 h.1 h.4, items_shorter es p.0 true h.1 h.2 p.2, takes_shorter (marked mark.RightParen) h.2 rest h.6)
  spelled_shorter (ParsedParen at e) d k ts rest h =
      let p = opened d (λ (n : ℕ). SpellsExpr n any_level e h.0 h.1) h.3 in
      omega (arith, at_shorter (marked mark.LeftParen) at ts h.0 h.2, spelled_shorter e p.0 any_level h.0 h.1 p.2, takes_shorter (marked mark.RightParen) h.1 rest h.4)
  spelled_shorter (ParsedUnary at op e) d k ts rest h =
      let p = opened d (λ (n : ℕ). SpellsExpr n 0 e h.0 rest) h.2 in
      omega (arith, at_shorter (marked (unary_mark op)) at ts h.0 h.1, spelled_shorter e p.0 0 h.0 rest p.2)
  spelled_shorter (ParsedCast at r t e) d k ts rest h =
      let p = opened d (λ (n : ℕ). SpellsExpr n 0 e h.3 rest) h.8 in
      omega (arith, at_shorter (marked mark.LeftParen) at ts h.1 h.4, words_shorter h.0 h.1 h.2 h.5, takes_shorter (marked mark.RightParen) h.2 h.3 h.7, spelled_shorter e p.0 0 h.3 rest p.2)
  spelled_shorter (ParsedBinary op l r) d k ts rest h =
      omega (arith, spelled_shorter l d (suc (level op)) ts h.1 h.3, takes_shorter (marked (infix_mark op)) h.1 h.2 h.4, spelled_shorter r d (level op) h.2 rest h.5)
  spelled_shorter (ParsedChoice c x y) d k ts rest h =
      let p = opened d (λ (n : ℕ). SpellsExpr n any_level x h.2 h.3) h.7 in
      let q = opened d (λ (n : ℕ). SpellsExpr n any_level y h.4 rest) h.9 in
      omega (arith, spelled_shorter c d binary_levels ts h.1 h.5, takes_shorter (marked mark.Question) h.1 h.2 h.6, spelled_shorter x p.0 any_level h.2 h.3 p.2, takes_shorter (marked mark.Colon) h.3 h.4 h.8, spelled_shorter y q.0 any_level h.4 rest q.2)

  pub items_shorter : (es : ParsedArgs) (d : ℕ) (first : Bool) (ts rest : List Lexeme) → SpellsItems d first es ts rest → length rest ≤ length ts
  items_shorter ParsedEnd d first ts rest h = omega (arith, ap length h)
  items_shorter (ParsedValue e es) d first ts rest h = omega (arith, separates_shorter first ts h.0 h.2, spelled_shorter e d any_level h.0 h.1 h.3, items_shorter es d false h.1 rest h.4)
  items_shorter (ParsedPart at n es) d first ts rest h =
      omega (arith, separates_shorter first ts h.0 h.3, takes_shorter (marked mark.Ampersand) h.0 h.1 h.4, at_shorter (named n) at h.1 h.2 h.5, items_shorter es d false h.2 rest h.6)
  items_shorter (ParsedPartFrom at n e es) d first ts rest h =
      let p = opened d (λ (n : ℕ). SpellsExpr n any_level e h.3 h.4) h.10 in
      omega (
        arith,
        separates_shorter first ts h.0 h.6,
        takes_shorter (marked mark.Ampersand) h.0 h.1 h.7,
        at_shorter (named n) at h.1 h.2 h.8,
        takes_shorter (marked mark.LeftBracket) h.2 h.3 h.9,
        spelled_shorter e p.0 any_level h.3 h.4 p.2,
        takes_shorter (marked mark.RightBracket) h.4 h.5 h.11,
        items_shorter es d false h.5 rest h.12,
      )
