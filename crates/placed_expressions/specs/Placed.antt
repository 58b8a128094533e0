-- What a text is as an expression at a step of a program.
use Rattle.std.specs.Prelude.{ℕ, ◌≤◌, List, [], length}
use Rattle.gang_types.specs.declared.places.Spot.{Spot}
use Rattle.gang_model.specs.Source.Lexes.{Lexes, max_source}
use Rattle.gang_model.specs.Source.Parsed.{ParsedExpr}
use Rattle.gang_model.specs.Source.Spells.{WholeExpr}
use Rattle.gang_model.specs.Source.SpellsSource.{max_nesting}
use Rattle.gang_model.specs.Source.Tokens.{Lexeme}
use Rattle.gang_model.specs.Types.Tree.{Program}
use Rattle.gang_model.specs.Types.Typing.{Scope}
use Rattle.frame_expressions.specs.Meanings.{Means, entries_at}
use Rattle.placed_expressions.specs.declared.answers.PlacedExpression.{PlacedExpression}

-- the tokens of a text that is not too long
pub record HasTokens (text : List ℕ) (tokens : List Lexeme) : Type 0 where
  pub few : length text ≤ max_source
  pub spelled : Lexes text tokens

-- a text is an expression from its first token to its last
pub record Reads (text : List ℕ) (tokens : List Lexeme) (written : ParsedExpr) : Type 0 where
  pub tokens_are : HasTokens text tokens
  pub spelled : WholeExpr max_nesting written tokens []

abbrev pub IsWritten : (text : List ℕ) → ParsedExpr → Type 0
IsWritten text written = (tokens : List Lexeme) × Reads text tokens written

-- this is what the expression means in a scope
abbrev pub IsMeaning : ParsedExpr → Scope → PlacedExpression → Type 0
IsMeaning written scope placed = Means written scope placed.value_type placed.rate placed.code.items

-- the text is an expression that means this at the step
abbrev pub IsPlaced : (text : List ℕ) → Program → Spot → PlacedExpression → Type 0
IsPlaced text p spot placed = (written : ParsedExpr) × IsWritten text written × IsMeaning written (entries_at p spot) placed

-- whatever expression the text is, it means this at the step
abbrev pub IsOnlyPlaced : (text : List ℕ) → Program → Spot → PlacedExpression → Type 0
IsOnlyPlaced text p spot placed = (written : ParsedExpr) → IsWritten text written → IsMeaning written (entries_at p spot) placed
