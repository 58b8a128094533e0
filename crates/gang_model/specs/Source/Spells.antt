-- What an expression is spelled as, form by form.
use Rattle.std.specs.Prelude.{◌≡◌, ℕ, zero, suc, ◌+◌, ◌<◌, ◌≤◌, Bool, true, false, List, [], ◌∷◌, Some}
use Rattle.gang_types.specs.declared.operators.UnaryOp.{UnaryOp}
use Rattle.gang_types.specs.declared.operators.UnaryOp.TheVariants as unary
use Rattle.gang_types.specs.declared.operators.BinaryOp.TheVariants as binary
use Rattle.gang_types.specs.declared.places.Place.{Place}
use Rattle.gang_model.specs.declared.marks.Mark.{Mark}
use Rattle.gang_model.specs.declared.marks.Mark.TheVariants as mark
use Rattle.gang_model.specs.declared.forms.Infix.{Infix}
use Rattle.gang_model.specs.declared.forms.Infix.TheVariants.{Op, AndAlso, OrElse}
use Rattle.gang_model.specs.Source.Tokens.{Sort, named, numbered, marked, Lexeme}
use Rattle.gang_model.specs.Source.Specs.{cast_spec_of}
use Rattle.gang_model.specs.Source.Parsed.{ParsedExpr, ParsedNumber, ParsedBool, ParsedName, ParsedIndex, ParsedCall, ParsedParen, ParsedUnary, ParsedCast, ParsedBinary, ParsedChoice, ParsedArgs, ParsedEnd, ParsedValue, ParsedPart, ParsedPartFrom}

-- ---- tokens

-- the tokens are one of this sort, and then the rest
pub record Takes (sort : Sort) (ts rest : List Lexeme) : Type 0 where
  pub token : Lexeme
  pub is : ts ≡ token ∷ rest
  pub sort_is : token.sort ≡ sort

-- the same, at this place
pub record TakesAt (sort : Sort) (place : Place) (ts rest : List Lexeme) : Type 0 where
  pub token : Lexeme
  pub is : ts ≡ token ∷ rest
  pub sort_is : token.sort ≡ sort
  pub place_is : token.place ≡ place

-- the tokens are these words, and then the rest
abbrev pub TakesWords : List Mark → List Lexeme → List Lexeme → Type 0
TakesWords [] ts rest = ts ≡ rest
TakesWords (w ∷ ws) ts rest = (a : List Lexeme) × Takes (marked w) ts a × TakesWords ws a rest

-- one nesting more, where one is left
abbrev pub Opens : ℕ → (ℕ → Type 0) → Type 0
Opens zero inside = ⊥
Opens (suc d) inside = inside d

-- ---- operators

abbrev pub truth_mark : Bool → Mark
truth_mark true = mark.True
truth_mark false = mark.False

abbrev pub unary_mark : UnaryOp → Mark
unary_mark unary.Negate = mark.Minus
unary_mark unary.Plus = mark.Plus
unary_mark unary.Not = mark.Exclamation
unary_mark unary.Complement = mark.Tilde

abbrev pub infix_mark : Infix → Mark
infix_mark (Op binary.Add) = mark.Plus
infix_mark (Op binary.Sub) = mark.Minus
infix_mark (Op binary.Mul) = mark.Star
infix_mark (Op binary.Div) = mark.Slash
infix_mark (Op binary.Rem) = mark.Percent
infix_mark (Op binary.And) = mark.Ampersand
infix_mark (Op binary.Or) = mark.Bar
infix_mark (Op binary.Xor) = mark.Caret
infix_mark (Op binary.Shl) = mark.ShiftLeft
infix_mark (Op binary.Shr) = mark.ShiftRight
infix_mark (Op binary.Less) = mark.Less
infix_mark (Op binary.LessEqual) = mark.LessEqual
infix_mark (Op binary.Greater) = mark.Greater
infix_mark (Op binary.GreaterEqual) = mark.GreaterEqual
infix_mark (Op binary.Equal) = mark.EqualEqual
infix_mark (Op binary.NotEqual) = mark.NotEqual
infix_mark AndAlso = mark.AndAnd
infix_mark OrElse = mark.OrOr

-- how loosely an operator binds
abbrev pub level : Infix → ℕ
level (Op binary.Mul) = 0
level (Op binary.Div) = 0
level (Op binary.Rem) = 0
level (Op binary.Add) = 1
level (Op binary.Sub) = 1
level (Op binary.Shl) = 2
level (Op binary.Shr) = 2
level (Op binary.Less) = 3
level (Op binary.LessEqual) = 3
level (Op binary.Greater) = 3
level (Op binary.GreaterEqual) = 3
level (Op binary.Equal) = 4
level (Op binary.NotEqual) = 4
level (Op binary.And) = 5
level (Op binary.Xor) = 6
level (Op binary.Or) = 7
level AndAlso = 8
level OrElse = 9

-- An expression of a level has at its top only operators whose own level is below it: at 0 a unary expression, at
-- `binary_levels` any but a choice.
abbrev pub binary_levels : ℕ
binary_levels = 10

abbrev pub any_level : ℕ
any_level = 11

-- a comma stands before each argument but the first
abbrev pub Separates : (is_first : Bool) → List Lexeme → List Lexeme → Type 0
Separates true ts rest = ts ≡ rest
Separates false ts rest = Takes (marked mark.Comma) ts rest

-- ---- expressions

-- The tokens are the expression's, and then the rest, with at most so many nestings, at this level.
abbrev mutual
  pub SpellsExpr : (nestings level : ℕ) → ParsedExpr → List Lexeme → List Lexeme → Type 0
  SpellsExpr d k (ParsedNumber at n u l) ts rest = TakesAt (numbered n u l) at ts rest
  SpellsExpr d k (ParsedBool at b) ts rest = TakesAt (marked (truth_mark b)) at ts rest
  SpellsExpr d k (ParsedName at n) ts rest = TakesAt (named n) at ts rest
  SpellsExpr d k (ParsedIndex at n e) ts rest = (a b c : List Lexeme)
      × TakesAt (named n) at ts a × Takes (marked mark.LeftBracket) a b
      × Opens d (λ inner. SpellsExpr inner any_level e b c) × Takes (marked mark.RightBracket) c rest
  SpellsExpr d k (ParsedCall at n es) ts rest = (a b c : List Lexeme)
      × TakesAt (named n) at ts a × Takes (marked mark.LeftParen) a b
      × Opens d (λ inner. SpellsItems inner true es b c) × Takes (marked mark.RightParen) c rest
  SpellsExpr d k (ParsedParen at e) ts rest = (a b : List Lexeme)
      × TakesAt (marked mark.LeftParen) at ts a
      × Opens d (λ inner. SpellsExpr inner any_level e a b) × Takes (marked mark.RightParen) b rest
  SpellsExpr d k (ParsedUnary at op e) ts rest = (a : List Lexeme)
      × TakesAt (marked (unary_mark op)) at ts a × Opens d (λ inner. SpellsExpr inner 0 e a rest)
  SpellsExpr d k (ParsedCast at r t e) ts rest = (ws : List Mark) × (a b c : List Lexeme)
      × TakesAt (marked mark.LeftParen) at ts a × TakesWords ws a b × (cast_spec_of ws ≡ Some (r, t))
      × Takes (marked mark.RightParen) b c × Opens d (λ inner. SpellsExpr inner 0 e c rest)
  -- operators of one level group from the left
  SpellsExpr d k (ParsedBinary op l r) ts rest = (level op < k) × (a b : List Lexeme)
      × SpellsExpr d (suc (level op)) l ts a × Takes (marked (infix_mark op)) a b × SpellsExpr d (level op) r b rest
  SpellsExpr d k (ParsedChoice c x y) ts rest = (binary_levels < k) × (a b e f : List Lexeme)
      × SpellsExpr d binary_levels c ts a × Takes (marked mark.Question) a b
      × Opens d (λ inner. SpellsExpr inner any_level x b e) × Takes (marked mark.Colon) e f
      × Opens d (λ inner. SpellsExpr inner any_level y f rest)

  -- the arguments from the first one on, or from a later one
  pub SpellsItems : (nestings : ℕ) → (is_first : Bool) → ParsedArgs → List Lexeme → List Lexeme → Type 0
  SpellsItems d first ParsedEnd ts rest = ts ≡ rest
  SpellsItems d first (ParsedValue e es) ts rest = (a b : List Lexeme)
      × Separates first ts a × SpellsExpr d any_level e a b × SpellsItems d false es b rest
  SpellsItems d first (ParsedPart at n es) ts rest = (a b c : List Lexeme)
      × Separates first ts a × Takes (marked mark.Ampersand) a b × TakesAt (named n) at b c × SpellsItems d false es c rest
  SpellsItems d first (ParsedPartFrom at n e es) ts rest = (a b c f g h : List Lexeme)
      × Separates first ts a × Takes (marked mark.Ampersand) a b × TakesAt (named n) at b c
      × Takes (marked mark.LeftBracket) c f × Opens d (λ inner. SpellsExpr inner any_level e f g)
      × Takes (marked mark.RightBracket) g h × SpellsItems d false es h rest

-- what stands between a call's parentheses
abbrev pub SpellsArgs : (nestings : ℕ) → ParsedArgs → List Lexeme → List Lexeme → Type 0
SpellsArgs d es ts rest = SpellsItems d true es ts rest

-- ---- how many operators, calls and indexings

abbrev mutual
  pub weight : ParsedExpr → ℕ
  weight (ParsedNumber at n u l) = 0
  weight (ParsedBool at b) = 0
  weight (ParsedName at n) = 0
  weight (ParsedIndex at n e) = suc (weight e)
  weight (ParsedCall at n es) = suc (args_weight es)
  weight (ParsedParen at e) = weight e
  weight (ParsedUnary at op e) = suc (weight e)
  weight (ParsedCast at r t e) = suc (weight e)
  weight (ParsedBinary op l r) = suc (weight l + weight r)
  weight (ParsedChoice c x y) = suc (weight c + weight x + weight y)

  pub args_weight : ParsedArgs → ℕ
  args_weight ParsedEnd = 0
  args_weight (ParsedValue e es) = weight e + args_weight es
  args_weight (ParsedPart at n es) = args_weight es
  args_weight (ParsedPartFrom at n e es) = suc (weight e) + args_weight es

abbrev pub max_weight : ℕ
max_weight = 256

-- each argument has at most so many of its own
abbrev pub AreLight : ParsedArgs → Type 0
AreLight ParsedEnd = Unit {0}
AreLight (ParsedValue e es) = (weight e ≤ max_weight) × AreLight es
AreLight (ParsedPart at n es) = AreLight es
AreLight (ParsedPartFrom at n e es) = (suc (weight e) ≤ max_weight) × AreLight es

-- an expression that stands in no other one
abbrev pub WholeExpr : (nestings : ℕ) → ParsedExpr → List Lexeme → List Lexeme → Type 0
WholeExpr d e ts rest = SpellsExpr d any_level e ts rest × (weight e ≤ max_weight)

-- the arguments of a call that is a statement: each is such an expression
abbrev pub WholeArgs : (nestings : ℕ) → ParsedArgs → List Lexeme → List Lexeme → Type 0
WholeArgs d es ts rest = SpellsArgs d es ts rest × AreLight es

-- ---- what may stand after an expression

-- an expression of a level below this number ends before such a token
abbrev pub stops : Sort → ℕ
stops (marked mark.LeftParen) = 0
stops (marked mark.LeftBracket) = 0
stops (marked mark.Star) = 1
stops (marked mark.Slash) = 1
stops (marked mark.Percent) = 1
stops (marked mark.Plus) = 2
stops (marked mark.Minus) = 2
stops (marked mark.ShiftLeft) = 3
stops (marked mark.ShiftRight) = 3
stops (marked mark.Less) = 4
stops (marked mark.LessEqual) = 4
stops (marked mark.Greater) = 4
stops (marked mark.GreaterEqual) = 4
stops (marked mark.EqualEqual) = 5
stops (marked mark.NotEqual) = 5
stops (marked mark.Ampersand) = 6
stops (marked mark.Caret) = 7
stops (marked mark.Bar) = 8
stops (marked mark.AndAnd) = 9
stops (marked mark.OrOr) = 10
stops (marked mark.Question) = 11
stops _ = 12

abbrev pub Stops : (level : ℕ) → List Lexeme → Type 0
Stops k [] = Unit {0}
Stops k (t ∷ ts) = k < stops t.sort
