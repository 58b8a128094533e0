-- Steps of the loops that read what commas separate.
use Rattle.std.proofs.Common.{◌≡◌, ℕ, zero, suc, List, [], ◌∷◌, ◌++◌, Option, Some, None, refl, sym, ap, ◌∙◌, arith, append_assoc}
use Rattle.gang_model.specs.declared.marks.Mark.TheVariants as mark
use Rattle.gang_model.specs.Source.Tokens.{Lexeme}
use Rattle.source_answers.specs.declared.fault.SourceFault.{SourceFault}
use Rattle.ispc_lexer.specs.Options.{◌>>=◌}
use Rattle.ispc_parser_words.specs.Front.{Fails, take}
use Rattle.ispc_parser_shared.specs.Front.{Reader, list_of}
use Rattle.ispc_parser_shared.proofs.Fails.{fails_when}

-- what was read before, and what is still read
abbrev pub with_front : {A : Type 0} → List A → Option (List A × List Lexeme) → Option (List A × List Lexeme)
with_front front read = read >>= λ x. Some (front ++ x.0, x.1)

module _ {A : Type 0} (one : Reader A) where
  pub starts_empty : (n : ℕ) (ts : List Lexeme) → with_front [] (list_of one n ts) ≡ list_of one n ts
  starts_empty n ts = go (list_of one n ts)
    where
      go : (r : Option (List A × List Lexeme)) → with_front [] r ≡ r
      go None = refl
      go (Some x) = refl

  pub list_spent : (n : ℕ) (front : List A) (ts : List Lexeme) → n ≡ 0 → with_front front (list_of one n ts) ≡ None
  unfolding list_of
  list_spent zero front ts e = refl
  list_spent (suc n) front ts e = absurd (omega arith)

  module _ (n m : ℕ) (front : List A) (ts : List Lexeme) (total : Option (List A × List Lexeme)) (n-is : n ≡ suc m) (so_far : with_front front (list_of one n ts) ≡ total) where
    pub list_fails : (e : SourceFault) → Fails e (one ts) → Fails e total
    unfolding list_of
    list_fails e h = fails_when e (one ts) total (λ none. sym so_far ∙ rw (n-is, none) refl) h

    pub list_ends : (x : A) (after : List Lexeme) → one ts ≡ Some (x, after) → take mark.Comma after ≡ None → total ≡ Some (front ++ x ∷ [], after)
    unfolding list_of
    list_ends x after e stop = sym so_far ∙ rw (n-is, e, stop) refl

    pub list_goes_on : (x : A) (after rest : List Lexeme) → one ts ≡ Some (x, after) → take mark.Comma after ≡ Some rest
        → with_front (front ++ x ∷ []) (list_of one m rest) ≡ total
    unfolding list_of
    list_goes_on x after rest e more = last (list_of one m rest) ∙ sym next ∙ so_far
      where
        next : with_front front (list_of one n ts) ≡ with_front front (list_of one m rest >>= λ xs. Some (x ∷ xs.0, xs.1))
        next = rw (n-is, e, more) refl

        last : (r : Option (List A × List Lexeme)) → with_front (front ++ x ∷ []) r ≡ with_front front (r >>= λ xs. Some (x ∷ xs.0, xs.1))
        last None = refl
        last (Some xs) = ap (λ (l : List A). Some (l, xs.1)) (append_assoc front (x ∷ []) xs.0)
