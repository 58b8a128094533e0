-- No function of a spelled source has more parameters than the parser takes.
use Rattle.std.proofs.Common.{◌≤◌, List, [], ◌∷◌, length}
use Rattle.gang_model.specs.Source.Tokens.{Lexeme}
use Rattle.gang_model.specs.Source.Parsed.{ParsedSource, ParsedFunctionItem, ParsedGlobalItem, functions_in}
use Rattle.gang_model.specs.Source.SpellsSource.{IsTree, max_params}
use Rattle.gang_model.proofs.StandingLaws.{Each}

abbrev pub HasFewParams : ParsedSource → Type 0
HasFewParams source = Each (λ f. length f.params ≤ max_params) (functions_in source)

-- a tree that tokens spell
pub few_params : (source : ParsedSource) (tokens : List Lexeme) → IsTree source tokens → HasFewParams source
few_params [] tokens tree = tt
few_params (ParsedFunctionItem f ∷ items) tokens tree = (tree.1.12, few_params items tree.0 tree.2)
few_params (ParsedGlobalItem g ∷ items) tokens tree = few_params items tree.0 tree.2
