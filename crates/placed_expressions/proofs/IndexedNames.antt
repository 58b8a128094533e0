-- Indices of names that nothing has, one token after another.
use Rattle.std.proofs.Common.{◌≡◌, ℕ, zero, suc, ◌+◌, ◌<◌, Bool, true, false, ◌||◌, List, [], ◌∷◌, length, drop, refl, sym, ap, ◌∙◌, add-one, arith}
use Rattle.gang_types.specs.declared.places.Place.{Place}
use Rattle.gang_model.specs.Types.Typing.{Scope}
use Rattle.ispc_lexer.specs.declared.token.Token.{Token}
use Rattle.ispc_lexer.specs.Views.{lexemes_of}
use Rattle.placed_expressions.specs.Refusals.{begins_unknown, indexes_unknown}

module _ (scope : Scope) (place : Place) where
  abbrev among : List Token → Bool
  among ts = indexes_unknown scope (lexemes_of ts) place

  first_or_later : (ts : List Token) (i : ℕ) → i < length ts → among (drop i ts) ≡ (begins_unknown scope place (lexemes_of (drop i ts)) || among (drop (suc i) ts))
  first_or_later [] i below = absurd (omega (arith, below))
  first_or_later (t ∷ ts) zero below = refl
  first_or_later (t ∷ ts) (suc i) below = first_or_later ts i (omega (arith, below))

  module _ (ts : List Token) (i : ℕ) (below : i < length ts) (before : among (drop i ts) ≡ among ts) where
    front : (b : Bool) → b ≡ begins_unknown scope place (lexemes_of (drop i ts)) → among (drop i ts) ≡ (b || among (drop (i + 1) ts))
    front b e = first_or_later ts i below ∙ ap (λ t. t || among (drop (suc i) ts)) (sym e) ∙ ap (λ k. b || among (drop k ts)) (sym (add-one i))

    pub array_found : true ≡ begins_unknown scope place (lexemes_of (drop i ts)) → true ≡ among ts
    array_found e = sym (front true e) ∙ before

    pub array_other : false ≡ begins_unknown scope place (lexemes_of (drop i ts)) → among (drop (i + 1) ts) ≡ among ts
    array_other e = sym (front false e) ∙ before
