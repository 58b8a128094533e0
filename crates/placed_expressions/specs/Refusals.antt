-- Why a text has no value at a step of a program.
use Rattle.std.specs.Prelude.{◌≡◌, ◌⊎◌, ℕ, Bool, false, true, ◌&&◌, ◌||◌, ◌==◌, List, [], ◌∷◌, Err, is_none}
use Rattle.std.specs.List.{list_any}
use Rattle.gang_types.specs.declared.places.Place.{Place}
use Rattle.gang_types.specs.declared.places.Spot.{Spot}
use Rattle.gang_model.specs.declared.marks.Mark.TheVariants.{LeftBracket}
use Rattle.gang_model.specs.declared.refusals.RefusalNumber.{RefusalNumber}
use Rattle.gang_model.specs.declared.refusals.RefusalNumber.TheVariants.{S3, S5, S8, S9}
use Rattle.gang_model.specs.declared.refusals.SourceRefusal.{SourceRefusal}
use Rattle.gang_model.specs.Source.Judged.{Judged, answer_of}
use Rattle.gang_model.specs.Source.Names.{same_text}
use Rattle.gang_model.specs.Source.Parsed.{Name, ParsedExpr}
use Rattle.gang_model.specs.Source.Sources.{HasNoTokens, IsTooLong, IsTreeNumber}
use Rattle.gang_model.specs.Source.Spells.{Stops, WholeExpr, any_level}
use Rattle.gang_model.specs.Source.SpellsSource.{max_nesting}
use Rattle.gang_model.specs.Source.Tokens.{Lexeme, Sort, named}
use Rattle.gang_model.specs.Types.Conversions.{Typed}
use Rattle.gang_model.specs.Types.Tree.{Function, Program}
use Rattle.gang_model.specs.Types.Typing.{Scope, built_in, entry_of, expression}
use Rattle.ispc_parser_words.specs.Front.{begins}
use Rattle.source_answers.specs.declared.fault.SourceFault.{SourceFault}
use Rattle.source_answers.specs.declared.fault.SourceFault.TheVariants as fault
use Rattle.frame_expressions.specs.Meanings.{entries_at}
use Rattle.placed_expressions.specs.declared.answers.ExpressionRefusal.{ExpressionRefusal}
use Rattle.placed_expressions.specs.declared.answers.ExpressionRefusal.TheVariants.{Memory, NoTokens, NoExpression, NoValue, CallsFunction}
use Rattle.placed_expressions.specs.Placed.{HasTokens, Reads}

-- ---- no tokens

-- the text has no tokens, or memory ran out
abbrev pub IsUnread : (text : List ℕ) → ExpressionRefusal → Type 0
IsUnread text Memory = Unit {0}
IsUnread text (NoTokens r) = IsTooLong text r ⊎ HasNoTokens text r
IsUnread text refusal = ⊥

-- ---- no expression

-- the tokens are no expression; where one stands at their front that goes no further, it is S3 at the token behind it
pub record HasNoExpression (tokens : List Lexeme) (refusal : SourceRefusal) : Type 0 where
  pub none : (written : ParsedExpr) → WholeExpr max_nesting written tokens [] → ⊥
  pub number : IsTreeNumber refusal.number
  pub behind : (written : ParsedExpr) (token : Lexeme) (rest : List Lexeme) → WholeExpr max_nesting written tokens (token ∷ rest) → Stops any_level (token ∷ rest)
      → refusal ≡ record { number = S3; place = token.place }

-- the tokens are no expression, or memory ran out
abbrev pub IsUnspelled : List Lexeme → ExpressionRefusal → Type 0
IsUnspelled tokens Memory = Unit {0}
IsUnspelled tokens (NoExpression r) = HasNoExpression tokens r
IsUnspelled tokens refusal = ⊥

-- ---- no value

-- a function has this name
abbrev pub is_function : List Function → Name → Bool
is_function functions name = list_any (λ f. same_text f.name name) functions

-- a token is the name of a function
abbrev pub names_function : List Function → Sort → Bool
names_function functions (named name) = is_function functions name
names_function functions sort = false

-- a token stands at a place
abbrev pub stands_at : Place → Lexeme → Bool
stands_at place t = (t.place.line == place.line) && (t.place.col == place.col)

-- a token stands at a place, and is the name of a function
abbrev pub is_named_at : List Function → Place → Lexeme → Bool
is_named_at functions place t = stands_at place t && names_function functions t.sort

-- the token at a place is the name of a function
abbrev pub is_function_at : List Function → List Lexeme → Place → Bool
is_function_at functions tokens place = list_any (is_named_at functions place) tokens

-- a token is a name that nothing in scope has, and that is not built in
abbrev pub is_unknown : Scope → Sort → Bool
is_unknown scope (named name) = is_none (entry_of scope name) && is_none (built_in name)
is_unknown scope sort = false

-- such a name stands first, at a place, and a `[` behind it
abbrev pub begins_unknown : Scope → Place → List Lexeme → Bool
begins_unknown scope place [] = false
begins_unknown scope place (t ∷ behind) = stands_at place t && (is_unknown scope t.sort && begins LeftBracket behind)

-- such a name is indexed at a place
abbrev pub indexes_unknown : Scope → List Lexeme → Place → Bool
indexes_unknown scope [] place = false
indexes_unknown scope (t ∷ behind) place = begins_unknown scope place (t ∷ behind) || indexes_unknown scope behind place

-- the number that is told of a fault, by whether a name that nothing has is indexed there
abbrev pub told_number : RefusalNumber → (is_unknown : Bool) → RefusalNumber
told_number S8 true = S5
told_number number is_unknown = number

-- a fault as it is told: S5 in place of S8 where a name that nothing has is indexed, and each other one as it is
abbrev pub told : Scope → List Lexeme → SourceRefusal → SourceRefusal
told scope tokens fault = record { number = told_number fault.number (indexes_unknown scope tokens fault.place); place = fault.place }

-- the least fault of an expression, or memory ran out
abbrev pub Fails : Judged Typed → SourceFault → Type 0
Fails judged fault.Memory = Unit {0}
Fails judged (fault.Refused r) = answer_of judged ≡ Err r

-- The expression's least fault where the step stands, as it is told, or memory ran out. A call without a value is named apart where a function of
-- the program has its name.
abbrev pub HasNoValue : ParsedExpr → List Lexeme → Program → Spot → ExpressionRefusal → Type 0
HasNoValue written tokens p spot Memory = Unit {0}
HasNoValue written tokens p spot (NoValue r) = (fault : SourceRefusal)
    × (answer_of (expression written (entries_at p spot)) ≡ Err fault)
    × (r ≡ told (entries_at p spot) tokens fault)
    × (fault.number ≡ S9 → is_function_at p.functions tokens fault.place ≡ false)
HasNoValue written tokens p spot (CallsFunction place) =
    (answer_of (expression written (entries_at p spot)) ≡ Err (record { number = S9; place = place })) × (is_function_at p.functions tokens place ≡ true)
HasNoValue written tokens p spot refusal = ⊥

-- ---- why

-- why a text has no value where the step stands; memory may run out at any text
abbrev pub IsRefused : (text : List ℕ) → Program → Spot → ExpressionRefusal → Type 0
IsRefused text p spot Memory = Unit {0}
IsRefused text p spot (NoTokens r) = IsTooLong text r ⊎ HasNoTokens text r
IsRefused text p spot (NoExpression r) = (tokens : List Lexeme) × HasTokens text tokens × HasNoExpression tokens r
IsRefused text p spot refusal = (tokens : List Lexeme) × (written : ParsedExpr) × Reads text tokens written × HasNoValue written tokens p spot refusal
