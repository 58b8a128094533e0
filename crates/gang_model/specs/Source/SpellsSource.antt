-- What a whole source is spelled as.
use Rattle.std.specs.Prelude.{◌≡◌, ◌⊎◌, ℕ, ◌≤◌, Bool, true, false, List, [], ◌∷◌, length}
use Rattle.gang_model.specs.declared.marks.Mark.TheVariants as mark
use Rattle.gang_model.specs.declared.forms.GlobalForm.{GlobalForm}
use Rattle.gang_model.specs.declared.forms.GlobalForm.TheVariants as form
use Rattle.gang_model.specs.declared.forms.Literal.{Literal}
use Rattle.gang_model.specs.declared.forms.Literal.TheVariants as literal
use Rattle.gang_model.specs.Source.Tokens.{named, numbered, marked, Lexeme}
use Rattle.gang_model.specs.Source.Spells.{Takes, TakesAt, Opens, truth_mark}
use Rattle.gang_model.specs.Source.Parsed.{ParsedParam, ParsedFunction, ParsedGlobal, ParsedItem, ParsedFunctionItem, ParsedGlobalItem, ParsedSource}
use Rattle.gang_model.specs.Source.SpellsStatements.{SpellsSpec, IsLocal, SpellsList, SpellsSign, SpellsStmts}

-- how many nestings a source may have
abbrev pub max_nesting : ℕ
max_nesting = 64

abbrev pub max_params : ℕ
max_params = 8

-- [ ]
abbrev pub SpellsEmptyBrackets : (is_array : Bool) → List Lexeme → List Lexeme → Type 0
SpellsEmptyBrackets false ts rest = ts ≡ rest
SpellsEmptyBrackets true ts rest = (a : List Lexeme) × Takes (marked mark.LeftBracket) ts a × Takes (marked mark.RightBracket) a rest

abbrev pub SpellsParam : ParsedParam → List Lexeme → List Lexeme → Type 0
SpellsParam param ts rest = (a b : List Lexeme)
    × SpellsSpec param.spec ts a × IsLocal param.spec × TakesAt (named param.name) param.at a b × SpellsEmptyBrackets param.is_array b rest

-- what stands between a function's parentheses
abbrev pub SpellsParams : List ParsedParam → List Lexeme → List Lexeme → Type 0
SpellsParams [] ts rest = (ts ≡ rest) ⊎ Takes (marked mark.Void) ts rest
SpellsParams params ts rest = SpellsList SpellsParam params ts rest

-- `const` does not stand on a function
abbrev pub SpellsFunction : ParsedFunction → List Lexeme → List Lexeme → Type 0
SpellsFunction f ts rest = (a b c g h i j : List Lexeme)
    × SpellsSpec f.spec ts a × (f.spec.is_constant ≡ false) × TakesAt (named f.name) f.at a b
    × Takes (marked mark.LeftParen) b c × SpellsParams f.params c g × (length f.params ≤ max_params) × Takes (marked mark.RightParen) g h
    × Takes (marked mark.LeftBrace) h i × Opens max_nesting (λ inner. SpellsStmts f.body inner i j)
    × TakesAt (marked mark.RightBrace) f.closing j rest

abbrev pub SpellsLiteral : Literal → List Lexeme → List Lexeme → Type 0
SpellsLiteral (literal.Number is_negative n is_unsigned is_long) ts rest = (a : List Lexeme)
    × SpellsSign is_negative ts a × Takes (numbered n is_unsigned is_long) a rest
SpellsLiteral (literal.Truth b) ts rest = Takes (marked (truth_mark b)) ts rest

-- nothing, [ number ] or = literal
abbrev pub SpellsForm : GlobalForm → List Lexeme → List Lexeme → Type 0
SpellsForm form.Plain ts rest = ts ≡ rest
SpellsForm (form.Array n) ts rest = (is_unsigned is_long : Bool) × (a b : List Lexeme)
    × Takes (marked mark.LeftBracket) ts a × Takes (numbered n is_unsigned is_long) a b × Takes (marked mark.RightBracket) b rest
SpellsForm (form.Initial value) ts rest = (a : List Lexeme) × Takes (marked mark.Assign) ts a × SpellsLiteral value a rest

-- `export` and `inline` do not stand on a file-scope variable
abbrev pub SpellsGlobal : ParsedGlobal → List Lexeme → List Lexeme → Type 0
SpellsGlobal g ts rest = (a b c : List Lexeme)
    × SpellsSpec g.spec ts a × (g.spec.is_exported ≡ false) × (g.spec.is_inline ≡ false) × TakesAt (named g.name) g.at a b
    × SpellsForm g.form b c × Takes (marked mark.Semicolon) c rest

abbrev pub SpellsItem : ParsedItem → List Lexeme → List Lexeme → Type 0
SpellsItem (ParsedFunctionItem f) ts rest = SpellsFunction f ts rest
SpellsItem (ParsedGlobalItem g) ts rest = SpellsGlobal g ts rest

-- the whole source
abbrev pub IsTree : ParsedSource → List Lexeme → Type 0
IsTree [] ts = ts ≡ []
IsTree (item ∷ items) ts = (rest : List Lexeme) × SpellsItem item ts rest × IsTree items rest
