-- Worked examples of how the fault of an expression is told, by computing.
use Rattle.std.proofs.Common.{ℕ, List, [], ◌∷◌, true, false, refl}
use Rattle.std.specs.Prelude.{codes}
use Rattle.gang_types.specs.declared.places.Place.{Place}
use Rattle.gang_types.specs.declared.places.Spot.{Spot}
use Rattle.gang_types.specs.declared.places.VarId.TheVariants.{File}
use Rattle.gang_types.specs.declared.types.IntType.TheVariants.{Int32}
use Rattle.gang_types.specs.declared.types.Rate.TheVariants.{Uniform, Varying}
use Rattle.gang_model.specs.declared.marks.Mark.TheVariants.{Ampersand, LeftBracket, LeftParen, RightBracket, RightParen}
use Rattle.gang_model.specs.declared.refusals.RefusalNumber.{RefusalNumber}
use Rattle.gang_model.specs.declared.refusals.RefusalNumber.TheVariants.{S5, S8}
use Rattle.gang_model.specs.Source.Parsed.{Name, ParsedExpr, ParsedCall, ParsedEnd, ParsedIndex, ParsedName, ParsedNumber, ParsedPartFrom, ParsedValue}
use Rattle.gang_model.specs.Source.Tokens.{Lexeme, Sort, marked, named, numbered}
use Rattle.gang_model.specs.Types.Tree.{Program}
use Rattle.placed_expressions.specs.declared.answers.ExpressionRefusal.{ExpressionRefusal}
use Rattle.placed_expressions.specs.declared.answers.ExpressionRefusal.TheVariants.{NoValue}
use Rattle.placed_expressions.specs.Refusals.{HasNoValue}

abbrev at : ℕ → Place
at col = record { line = 1; col = col }

abbrev token : Sort → ℕ → Lexeme
token sort col = record { sort = sort; start = 0; end = 0; place = at col }

abbrev fault : RefusalNumber → ℕ → ExpressionRefusal
fault number col = NoValue (record { number = number; place = at col })

-- a file with `int v` and `uniform int table[4]`, and no function
abbrev program : Program
program = record {
  functions = [];
  globals = record { variable = record { name = codes "v"; id = File 0; type = Int32; rate = Varying; is_array = false; is_parameter = false; is_constant = false }; word = 0; len = 0 }
      ∷ record { variable = record { name = codes "table"; id = File 1; type = Int32; rate = Uniform; is_array = true; is_parameter = false; is_constant = false }; word = 1; len = 4 } ∷ [];
}

abbrev spot : Spot
spot = record { function = record { 0 = 0 }; number = 0 }

-- `NAME[3]`, where the `[` stands in a column
abbrev indexed : Name → ParsedExpr
indexed name = ParsedIndex (at 1) name (ParsedNumber (at 8) 3 false false)

abbrev tokens : Name → List Lexeme
tokens name = token (named name) 1 ∷ token (marked LeftBracket) 7 ∷ token (numbered 3 false false) 8 ∷ token (marked RightBracket) 9 ∷ []

-- `counts[3]`, where nothing is called `counts`
an_unknown_array : HasNoValue (indexed (codes "counts")) (tokens (codes "counts")) program spot (fault S5 1)
an_unknown_array = (record { number = S8; place = at 1 }, refl, refl, λ e. absurd cc)

-- `any(&counts[3])`
an_unknown_part : HasNoValue (ParsedCall (at 1) (codes "any") (ParsedPartFrom (at 6) (codes "counts") (ParsedNumber (at 13) 3 false false) ParsedEnd))
    (token (named (codes "any")) 1 ∷ token (marked LeftParen) 4 ∷ token (marked Ampersand) 5 ∷ token (named (codes "counts")) 6 ∷ token (marked LeftBracket) 12 ∷ token (numbered 3 false false) 13 ∷ token (marked RightBracket) 14 ∷ token (marked RightParen) 15 ∷ [])
    program spot (fault S5 6)
an_unknown_part = (record { number = S8; place = at 6 }, refl, refl, λ e. absurd cc)

-- `v[3]`
a_scalar : HasNoValue (indexed (codes "v")) (tokens (codes "v")) program spot (fault S8 1)
a_scalar = (record { number = S8; place = at 1 }, refl, refl, λ e. absurd cc)

-- `programIndex[3]`
a_built_in_name : HasNoValue (indexed (codes "programIndex")) (tokens (codes "programIndex")) program spot (fault S8 1)
a_built_in_name = (record { number = S8; place = at 1 }, refl, refl, λ e. absurd cc)

-- `table[any(v)]`, whose index is bool: nothing is called `any`, and it is no array
a_library_call : HasNoValue (ParsedIndex (at 1) (codes "table") (ParsedCall (at 7) (codes "any") (ParsedValue (ParsedName (at 11) (codes "v")) ParsedEnd)))
    (token (named (codes "table")) 1 ∷ token (marked LeftBracket) 6 ∷ token (named (codes "any")) 7 ∷ token (marked LeftParen) 10 ∷ token (named (codes "v")) 11 ∷ token (marked RightParen) 12 ∷ token (marked RightBracket) 13 ∷ [])
    program spot (fault S8 7)
a_library_call = (record { number = S8; place = at 7 }, refl, refl, λ e. absurd cc)
