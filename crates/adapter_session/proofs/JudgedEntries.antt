-- Which texts are no expressions, and entries that are judged one after another.
use Rattle.std.proofs.Common.{◌≡◌, ℕ, ◌+◌, ◌<◌, List, [], ◌∷◌, ◌++◌, Option, length, take, get_or, sym, subst, arith, inl, inr}
use Rattle.std.specs.Prelude.{◌⊎◌, Result, Ok, Err, IfOk, IfErr, IfSome}
use Rattle.std.proofs.lemmas.List.{take_more}
use Rattle.gang_types.specs.declared.places.Spot.{Spot}
use Rattle.gang_model.specs.declared.refusals.SourceRefusal.{SourceRefusal}
use Rattle.gang_model.specs.Source.Sources.{HasNoTokens, IsTooLong}
use Rattle.gang_model.specs.Source.Spells.{WholeExpr}
use Rattle.gang_model.specs.Source.SpellsSource.{max_nesting}
use Rattle.gang_model.specs.Source.Tokens.{Lexeme}
use Rattle.gang_model.specs.Texts.Text.{Bytes}
use Rattle.gang_model.specs.Types.Tree.{Program}
use Rattle.ispc_lexer.proofs.Laws.{same_tokens}
use Rattle.placed_expressions.specs.declared.answers.ExpressionRefusal.{ExpressionRefusal}
use Rattle.placed_expressions.specs.declared.answers.ExpressionRefusal.TheVariants.{Memory, NoTokens, NoExpression, NoValue, CallsFunction}
use Rattle.placed_expressions.specs.declared.answers.PlacedExpression.{PlacedExpression}
use Rattle.placed_expressions.specs.Placed.{HasTokens, IsPlaced}
use Rattle.placed_expressions.specs.Refusals.{HasNoExpression, IsRefused}
use Rattle.adapter_requests.specs.declared.reply.BreakpointFault.{BreakpointFault}
use Rattle.adapter_session.specs.Judged.{AreJudged, IsExpressionOrNot, IsJudged, IsNoExpression, is_written}

-- a text without tokens is none
pub without_tokens : (text : Bytes) (r : SourceRefusal) → IsTooLong text r ⊎ HasNoTokens text r → IsNoExpression text
without_tokens text r is =
    elim is [
      | inl long ↦ λ written (tokens, reads). absurd (omega (arith, long.many, reads.tokens_are.few))
      | inr none ↦ λ written (tokens, reads). none.none tokens reads.tokens_are.spelled
    ]

-- nor is one whose tokens are none
pub without_tree : (text : Bytes) (r : SourceRefusal) (tokens : List Lexeme) → HasTokens text tokens → HasNoExpression tokens r → IsNoExpression text
without_tree text r tokens has none written (others, reads) =
    none.none written (subst (λ ts. WholeExpr max_nesting written ts []) (same_tokens text others tokens reads.tokens_are.spelled has.spelled) reads.spelled)

-- what came of placing a text at a step says whether it is an expression
pub written_or_not : (text : Bytes) (p : Program) (spot : Spot) (answer : Result PlacedExpression ExpressionRefusal)
    → IfOk answer (IsPlaced text p spot) → IfErr answer (IsRefused text p spot) → IfSome (is_written answer) (IsExpressionOrNot text)
written_or_not text p spot (Ok placed) (written, is, meaning) refused = (written, is)
written_or_not text p spot (Err Memory) means refused = tt
written_or_not text p spot (Err (NoTokens r)) means refused = without_tokens text r refused
written_or_not text p spot (Err (NoExpression r)) means (tokens, has, none) = without_tree text r tokens has none
written_or_not text p spot (Err (NoValue r)) means (tokens, written, reads, fails) = (written, (tokens, reads))
written_or_not text p spot (Err (CallsFunction place)) means (tokens, written, reads, fails) = (written, (tokens, reads))

-- one more entry is judged
judged_behind : {A : Type 0} (condition : A → Option Bytes) (asked judged : List (Result A BreakpointFault)) (one told : Result A BreakpointFault)
    → AreJudged condition asked judged → IsJudged condition one told → AreJudged condition (asked ++ one ∷ []) (judged ++ told ∷ [])
judged_behind condition [] [] one told are is = (is, tt)
judged_behind condition [] (j ∷ judged) one told are is = absurd are
judged_behind condition (a ∷ asked) [] one told are is = absurd are
judged_behind condition (a ∷ asked) (j ∷ judged) one told are is = (are.0, judged_behind condition asked judged one told are.1 is)

pub judged_more : {A : Type 0} (condition : A → Option Bytes) (asked : List (Result A BreakpointFault)) (i : ℕ) (d told : Result A BreakpointFault) (old new : List (Result A BreakpointFault))
    → i < length asked → AreJudged condition (take i asked) old → IsJudged condition (get_or asked i d) told → new ≡ old ++ told ∷ [] → AreJudged condition (take (i + 1) asked) new
judged_more condition asked i d told old new within are is more =
    subst (AreJudged condition (take (i + 1) asked)) (sym more)
    (subst (λ list. AreJudged condition list (old ++ told ∷ [])) (sym (take_more asked i d within)) (judged_behind condition (take i asked) old (get_or asked i d) told are is))
