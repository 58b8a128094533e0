-- Steps of the loop over functions and file-scope variables.
use Rattle.std.proofs.Common.{◌≡◌, ℕ, zero, suc, List, [], ◌∷◌, ◌++◌, length, Option, Some, None, true, false, refl, sym, ap, ◌∙◌, arith, append_assoc, true≢false}
use Rattle.std.specs.Prelude.{◌==◌}
use Rattle.std.proofs.lemmas.Bool.{eqb-true}
use Rattle.std.proofs.lemmas.List.{append-nil}
use Rattle.gang_model.specs.Source.Tokens.{Lexeme}
use Rattle.gang_model.specs.Source.Parsed.{ParsedItem, ParsedSource}
use Rattle.source_answers.specs.declared.fault.SourceFault.{SourceFault}
use Rattle.ispc_lexer.specs.declared.token.Token.{Token}
use Rattle.ispc_lexer.specs.Views.{lexemes_of}
use Rattle.ispc_lexer.specs.Options.{◌>>=◌}
use Rattle.ispc_parser_words.specs.Front.{Fails}
use Rattle.ispc_parser_shared.proofs.Fails.{fails_when}
use Rattle.ispc_parser.specs.Source.{is_empty, item_of, items_of}

-- what was read before, and what is still read
abbrev pub with_items : ParsedSource → Option ParsedSource → Option ParsedSource
with_items front read = read >>= λ x. Some (front ++ x)

pub nothing_left : (ts : List Token) → (length ts == 0) ≡ true → is_empty (lexemes_of ts) ≡ true
nothing_left [] e = refl
nothing_left (t ∷ ts) e = absurd (omega (arith, eqb-true (length (t ∷ ts)) 0 e))

pub something_left : (ts : List Token) → (length ts == 0) ≡ false → is_empty (lexemes_of ts) ≡ false
something_left [] e = absurd (true≢false e)
something_left (t ∷ ts) e = refl

pub items_begin : (n k : ℕ) (ts : List Lexeme) → n ≡ k → with_items [] (items_of n ts) ≡ items_of k ts
items_begin n k ts e = go (items_of n ts) ∙ ap (λ (x : ℕ). items_of x ts) e
  where
    go : (r : Option ParsedSource) → with_items [] r ≡ r
    go None = refl
    go (Some x) = refl

pub items_done : (n : ℕ) (front : ParsedSource) (ts : List Lexeme) → is_empty ts ≡ true → with_items front (items_of n ts) ≡ Some front
unfolding items_of
items_done zero front ts e = rw e (ap (λ (x : ParsedSource). Some x) (append-nil front))
items_done (suc n) front ts e = rw e (ap (λ (x : ParsedSource). Some x) (append-nil front))

pub items_spent : (n : ℕ) (front : ParsedSource) (ts : List Lexeme) → n ≡ 0 → is_empty ts ≡ false → with_items front (items_of n ts) ≡ None
unfolding items_of
items_spent zero front ts n-is e = rw e refl
items_spent (suc n) front ts n-is e = absurd (omega arith)

module _ (n m : ℕ) (front : ParsedSource) (ts : List Lexeme) (total : Option ParsedSource)
    (n-is : n ≡ suc m) (goes : is_empty ts ≡ false) (so_far : with_items front (items_of n ts) ≡ total) where
  pub items_fail : (e : SourceFault) → Fails e (item_of ts) → Fails e total
  unfolding items_of
  items_fail e h = fails_when e (item_of ts) total (λ none. sym so_far ∙ rw (n-is, goes, none) refl) h

  pub items_go_on : (x : ParsedItem) (rest : List Lexeme) → item_of ts ≡ Some (x, rest) → with_items (front ++ x ∷ []) (items_of m rest) ≡ total
  unfolding items_of
  items_go_on x rest e = last (items_of m rest) ∙ sym next ∙ so_far
    where
      next : with_items front (items_of n ts) ≡ with_items front (items_of m rest >>= λ xs. Some (x ∷ xs))
      next = rw (n-is, goes, e) refl

      last : (r : Option ParsedSource) → with_items (front ++ x ∷ []) r ≡ with_items front (r >>= λ xs. Some (x ∷ xs))
      last None = refl
      last (Some xs) = ap (λ (l : ParsedSource). Some l) (append_assoc front (x ∷ []) xs)
