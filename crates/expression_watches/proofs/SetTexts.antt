-- Texts that are judged at the step where they are set: each name stands for the same there.
use Rattle.std.proofs.Common.{◌≡◌, refl, ap, ◌∙◌, ℕ, true, false, List, [], ◌∷◌, Option, Some, None, inl, inr}
use Rattle.std.specs.Prelude.{◌==◌, ◌&&◌, is_some}
use Rattle.std.specs.List.{list_all}
use Rattle.std.proofs.lemmas.Bool.{eq-eqb}
use Rattle.gang_types.specs.declared.places.Spot.{Spot}
use Rattle.gang_types.specs.declared.places.VarId.{VarId}
use Rattle.gang_types.specs.declared.places.VarId.TheVariants as id
use Rattle.gang_model.specs.Running.State.{same_id}
use Rattle.gang_model.specs.Source.Tokens as token
use Rattle.gang_model.specs.Source.Tokens.{Lexeme, Sort}
use Rattle.gang_model.specs.Types.Tree.{Program}
use Rattle.typed_tree.specs.Views.{expr_view}
use Rattle.placed_expressions.specs.declared.answers.ExpressionRefusal.{ExpressionRefusal}
use Rattle.placed_expressions.specs.declared.answers.ExpressionRefusal.TheVariants as refusal
use Rattle.placed_expressions.specs.declared.answers.PlacedExpression.{PlacedExpression}
use Rattle.placed_expressions.specs.Placed.{HasTokens, IsPlaced}
use Rattle.placed_expressions.specs.Refusals.{IsRefused}
use Rattle.expression_watches.specs.Names.{local_at, same_at, same_found, same_names}
use Rattle.expression_watches.specs.Meanings.{IsDenied, is_meant, meaning_at, meaning_by, tokens_of, tree_at}
use Rattle.expression_watches.proofs.Texts.{meant, no_tokens, none_at, tokens_are, too_long, tree_here}

same_number : (n : ℕ) → (n == n) ≡ true
same_number n = eq-eqb n n refl

same_variable : (v : VarId) → same_id v v ≡ true
same_variable (id.File n) = same_number n
same_variable (id.Local n) = same_number n

same_one : (v : Option VarId) → same_found v v ≡ true
same_one None = refl
same_one (Some v) = same_variable v

module _ (p : Program) (spot : Spot) where
  same_sort : (sort : Sort) → same_at p spot spot sort ≡ true
  same_sort (token.named name) = same_one (local_at p spot name)
  same_sort (token.numbered value is_unsigned is_long) = refl
  same_sort (token.marked mark) = refl

  same_each : (tokens : List Lexeme) → list_all (λ t. same_at p spot spot t.sort) tokens ≡ true
  same_each [] = refl
  same_each (t ∷ tokens) = ap (λ b. b && list_all (λ t. same_at p spot spot t.sort) tokens) (same_sort t.sort) ∙ same_each tokens

  same_here : (tokens : List Lexeme) → same_names p spot spot tokens ≡ true
  same_here tokens = ap (λ b. b && list_all (λ t. same_at p spot spot t.sort) tokens) (same_number spot.function.0) ∙ same_each tokens

  module _ (text : List ℕ) where
    -- what it means there
    by_tokens : (tokens : List Lexeme) → tokens_of text ≡ Some tokens → meaning_at p spot spot text ≡ tree_at p spot tokens
    by_tokens tokens are = meant p spot text tokens are spot true (same_here tokens)

    tokens_have : (tokens : List Lexeme) → HasTokens text tokens → tokens_of text ≡ Some tokens
    tokens_have tokens has = tokens_are text tokens has.few has.spelled

    -- a text that is placed means something
    pub placed_means : (placed : PlacedExpression) → IsPlaced text p spot placed → is_meant p spot text ≡ true
    placed_means placed (written, (tokens, reads), means) =
        let are = tokens_have tokens reads.tokens_are in
        ap is_some (by_tokens tokens are ∙ tree_here p spot text tokens are written (expr_view means.tree) placed.value_type placed.rate (tokens, reads) means.is_sound)

    unmeant : (tokens : List Lexeme) → HasTokens text tokens → (why : ExpressionRefusal) → (why ≡ refusal.Memory → ⊥) → IsRefused text p spot why → is_meant p spot text ≡ false
    unmeant tokens has why other is =
        let are = tokens_have tokens has in
        ap is_some (by_tokens tokens are ∙ none_at p spot text tokens are why other is)

    untokened : tokens_of text ≡ None → is_meant p spot text ≡ false
    untokened none = ap (λ tokens. is_some (meaning_by p spot spot tokens)) none

    -- a text that is refused means nothing, where there was memory
    pub refused_is_denied : (why : ExpressionRefusal) → IsRefused text p spot why → IsDenied text p spot why
    refused_is_denied refusal.Memory is = tt
    refused_is_denied (refusal.NoTokens r) (inl long) = (untokened (too_long text long.many), inl long)
    refused_is_denied (refusal.NoTokens r) (inr none) = (untokened (no_tokens text none.few none.none), inr none)
    refused_is_denied (refusal.NoExpression r) (tokens, has, none) =
        (unmeant tokens has (refusal.NoExpression r) (λ e. absurd cc) (tokens, has, none), (tokens, has, none))
    refused_is_denied (refusal.NoValue r) (tokens, written, reads, none) =
        (unmeant tokens reads.tokens_are (refusal.NoValue r) (λ e. absurd cc) (tokens, written, reads, none), (tokens, written, reads, none))
    refused_is_denied (refusal.CallsFunction place) (tokens, written, reads, none) =
        (unmeant tokens reads.tokens_are (refusal.CallsFunction place) (λ e. absurd cc) (tokens, written, reads, none), (tokens, written, reads, none))
