-- What the text of an expression means at a step of a program, where its names stand for what they stood for at another one.
use Rattle.std.specs.Prelude.{◌≡◌, ⊤, ℕ, Bool, false, nat_lt, List, [], length, Option, Some, None, is_some, option_map, if◌then◌else◌, Vec}
use Rattle.std.specs.Result.{result_ok}
use Rattle.std.specs.Global.{Global}
use Rattle.gang_types.specs.declared.places.Spot.{Spot}
use Rattle.gang_types.specs.declared.types.IntType.{IntType}
use Rattle.gang_types.specs.declared.types.Rate.{Rate}
use Rattle.gang_model.specs.Source.Judged.{sound_part}
use Rattle.gang_model.specs.Source.Lexes.{first_place, max_source}
use Rattle.gang_model.specs.Source.Parsed.{ParsedExpr}
use Rattle.gang_model.specs.Source.SpellsSource.{max_nesting}
use Rattle.gang_model.specs.Source.Tokens.{Lexeme}
use Rattle.gang_model.specs.Types.Tree.{Expr, Program}
use Rattle.gang_model.specs.Types.Typing.{Scope, expression}
use Rattle.expression_instructions.specs.declared.code.Instruction.{Instruction}
use Rattle.ispc_lexer.specs.Source.{lexed}
use Rattle.ispc_parser_expressions.specs.Parse.{whole_expr}
use Rattle.typed_tree.specs.Views.{expr_view}
use Rattle.frame_expressions.specs.Meanings.{Means, entries_at}
use Rattle.placed_expressions.specs.declared.answers.ExpressionRefusal.{ExpressionRefusal}
use Rattle.placed_expressions.specs.declared.answers.ExpressionRefusal.TheVariants as refusal
use Rattle.placed_expressions.specs.Refusals.{IsRefused}
use Rattle.expression_watches.specs.Names.{same_names}

-- the tokens of a text, if it has any
abbrev pub tokens_of : List ℕ → Option (List Lexeme)
tokens_of text = if nat_lt max_source (length text) then None else result_ok (lexed (length text) 0 first_place text)

-- what was read, if nothing is left behind it
abbrev pub whole : Option (ParsedExpr × List Lexeme) → Option ParsedExpr
whole None = None
whole (Some (written, [])) = Some written
whole (Some (written, more)) = None

-- the expression that tokens spell from the first to the last, if they spell one
abbrev pub written_by : List Lexeme → Option ParsedExpr
written_by tokens = whole (whole_expr max_nesting tokens)

-- an expression with its names resolved, if it has a value in a scope
abbrev pub tree_in : Scope → Option ParsedExpr → Option Expr
tree_in scope None = None
tree_in scope (Some written) = option_map (λ t. t.expr) (sound_part (expression written scope))

-- the same of tokens at a step
abbrev pub tree_at : Program → Spot → List Lexeme → Option Expr
tree_at p spot tokens = tree_in (entries_at p spot) (written_by tokens)

-- the same, where their names stand for what they stood for where they were set
abbrev pub meaning_by : Program → (set_at spot : Spot) → Option (List Lexeme) → Option Expr
meaning_by p set_at spot None = None
meaning_by p set_at spot (Some tokens) = if same_names p set_at spot tokens then tree_at p spot tokens else None

-- the same of a text
abbrev pub meaning_at : Program → (set_at spot : Spot) → (text : List ℕ) → Option Expr
meaning_at p set_at spot text = meaning_by p set_at spot (tokens_of text)

-- whether it means something at a step where it is set
abbrev pub is_meant : Program → Spot → (text : List ℕ) → Bool
is_meant p spot text = is_some (meaning_at p spot spot text)

-- a text is refused at a step: it means nothing there, for the reason that is told; or memory ran out
abbrev pub IsDenied : (text : List ℕ) → Program → Spot → ExpressionRefusal → Type 0
IsDenied text p spot refusal.Memory = ⊤
IsDenied text p spot why = (is_meant p spot text ≡ false) × IsRefused text p spot why

-- ---- code

-- at a step this code computes what is meant
abbrev pub HasCode : Program → Spot → (meant : Option Expr) → (code : List Instruction) → Type 0
HasCode p spot meant code =
    (written : ParsedExpr) × (type : IntType) × (rate : Rate) × (means : Means written (entries_at p spot) type rate code) × (meant ≡ Some (expr_view means.tree))

-- the same of code that may be there: where it is not, nothing is meant
abbrev pub IsCode : Program → Spot → (meant : Option Expr) → Option (Vec Instruction Global) → Type 0
IsCode p spot meant None = meant ≡ None
IsCode p spot meant (Some code) = HasCode p spot meant code.items
