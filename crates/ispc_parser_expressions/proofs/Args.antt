-- Arguments: how they are spelled, and what they count for.
use Rattle.std.proofs.Common.{◌≡◌, ◌⊎◌, inl, inr, ℕ, suc, ◌+◌, ◌<◌, ◌≤◌, List, length, Bool, false, refl, sym, ◌∙◌, arith}
use Rattle.gang_model.specs.declared.marks.Mark.TheVariants as mark
use Rattle.gang_model.specs.Source.Tokens.{named, marked, Lexeme}
use Rattle.gang_model.specs.Source.Parsed.{ParsedArgs, ParsedEnd, ParsedValue, ParsedPart, ParsedPartFrom}
use Rattle.gang_model.specs.Source.Spells.{Takes, TakesAt, Opens, Separates, any_level, SpellsExpr, SpellsItems, weight, args_weight, max_weight, AreLight}
use Rattle.ispc_parser_expressions.specs.declared.budget.Budget.{Budget}
use Rattle.ispc_parser_expressions.specs.declared.budget.Budget.TheVariants as budget
use Rattle.source_tree.specs.Expressions.{ParsedArg, OfValue, OfPart, OfPartFrom, with_arg}
use Rattle.gang_model.proofs.NestingLaws.{opened}
use Rattle.ispc_parser_words.proofs.Tokens.{takes_shorter, at_shorter}
use Rattle.ispc_parser_expressions.proofs.Starts.{spelled_shorter}

-- the tokens are the argument's, and then the rest
abbrev pub SpellsArg : ℕ → ParsedArg → List Lexeme → List Lexeme → Type 0
SpellsArg d (OfValue e) ts rest = SpellsExpr d any_level e ts rest
SpellsArg d (OfPart at n) ts rest = (a : List Lexeme) × Takes (marked mark.Ampersand) ts a × TakesAt (named n) at a rest
SpellsArg d (OfPartFrom at n e) ts rest = (a b c f : List Lexeme) × Takes (marked mark.Ampersand) ts a × TakesAt (named n) at a b
    × Takes (marked mark.LeftBracket) b c × Opens d (λ inner. SpellsExpr inner any_level e c f) × Takes (marked mark.RightBracket) f rest

abbrev pub arg_weight : ParsedArg → ℕ
arg_weight (OfValue e) = weight e
arg_weight (OfPart at n) = 0
arg_weight (OfPartFrom at n e) = suc (weight e)

pub items_spelled : (d : ℕ) (first : Bool) (x : ParsedArg) (es : ParsedArgs) (ts a b rest : List Lexeme) → Separates first ts a → SpellsArg d x a b → SpellsItems d false es b rest → SpellsItems d first (with_arg x es) ts rest
items_spelled d first (OfValue e) es ts a b rest s h more = (a, b, s, h, more)
items_spelled d first (OfPart at n) es ts a b rest s h more = (a, h.0, b, s, h.1, h.2, more)
items_spelled d first (OfPartFrom at n e) es ts a b rest s h more = (a, h.0, h.1, h.2, h.3, b, s, h.4, h.5, h.6, h.7, h.8, more)

-- an argument, and the ones after it
pub record IsSplit (d : ℕ) (first : Bool) (es : ParsedArgs) (ts rest : List Lexeme) : Type 0 where
  pub arg : ParsedArg
  pub others : ParsedArgs
  pub is : es ≡ with_arg arg others
  pub start : List Lexeme
  pub end : List Lexeme
  pub separated : Separates first ts start
  pub spelled : SpellsArg d arg start end
  pub more : SpellsItems d false others end rest

pub items_split : (d : ℕ) (first : Bool) (es : ParsedArgs) (ts rest : List Lexeme) → SpellsItems d first es ts rest → ((es ≡ ParsedEnd) × (ts ≡ rest)) ⊎ IsSplit d first es ts rest
items_split d first ParsedEnd ts rest h = inl (refl, h)
items_split d first (ParsedValue e es) ts rest h = inr (record { arg = OfValue e; others = es; is = refl; start = h.0; end = h.1; separated = h.2; spelled = h.3; more = h.4 })
items_split d first (ParsedPart at n es) ts rest h = inr (record { arg = OfPart at n; others = es; is = refl; start = h.0; end = h.2; separated = h.3; spelled = (h.1, h.4, h.5); more = h.6 })
items_split d first (ParsedPartFrom at n e es) ts rest h =
    inr (record { arg = OfPartFrom at n e; others = es; is = refl; start = h.0; end = h.5; separated = h.6; spelled = (h.1, h.2, h.3, h.4, h.7, h.8, h.9, h.10, h.11); more = h.12 })

pub arg_shorter : (d : ℕ) (x : ParsedArg) (ts rest : List Lexeme) → SpellsArg d x ts rest → length rest < length ts
arg_shorter d (OfValue e) ts rest h = spelled_shorter e d any_level ts rest h
arg_shorter d (OfPart at n) ts rest h = omega (arith, takes_shorter (marked mark.Ampersand) ts h.0 h.1, at_shorter (named n) at h.0 rest h.2)
arg_shorter d (OfPartFrom at n e) ts rest h =
    let p = opened d (λ (n : ℕ). SpellsExpr n any_level e h.2 h.3) h.7 in
    omega (
      arith,
      takes_shorter (marked mark.Ampersand) ts h.0 h.4,
      at_shorter (named n) at h.0 h.1 h.5,
      takes_shorter (marked mark.LeftBracket) h.1 h.2 h.6,
      spelled_shorter e p.0 any_level h.2 h.3 p.2,
      takes_shorter (marked mark.RightBracket) h.3 rest h.8,
    )

-- ---- counting

-- reading something of so many operators leaves so many
abbrev pub Counts : Budget → (room left weight : ℕ) → Type 0
Counts budget.Shared room left w = room ≡ left + w
Counts budget.Own room left w = (w ≤ max_weight) × (left ≡ room)

abbrev pub CountsAll : Budget → (room left : ℕ) → ParsedArgs → Type 0
CountsAll budget.Shared room left es = room ≡ left + args_weight es
CountsAll budget.Own room left es = AreLight es × (left ≡ room)

pub counts_none : (c : Budget) (room : ℕ) → CountsAll c room room ParsedEnd
counts_none budget.Shared room = omega arith
counts_none budget.Own room = (tt, refl)

args_weight-with : (x : ParsedArg) (es : ParsedArgs) → args_weight (with_arg x es) ≡ arg_weight x + args_weight es
args_weight-with (OfValue e) es = refl
args_weight-with (OfPart at n) es = omega arith
args_weight-with (OfPartFrom at n e) es = refl

light_with : (x : ParsedArg) (es : ParsedArgs) → arg_weight x ≤ max_weight → AreLight es → AreLight (with_arg x es)
light_with (OfValue e) es le all = (le, all)
light_with (OfPart at n) es le all = all
light_with (OfPartFrom at n e) es le all = (le, all)

with_light : (x : ParsedArg) (es : ParsedArgs) → AreLight (with_arg x es) → (arg_weight x ≤ max_weight) × AreLight es
with_light (OfValue e) es all = all
with_light (OfPart at n) es all = (omega arith, all)
with_light (OfPartFrom at n e) es all = all

pub counts_more : (c : Budget) (x : ParsedArg) (es : ParsedArgs) (room mid left : ℕ) → Counts c room mid (arg_weight x) → CountsAll c mid left es → CountsAll c room left (with_arg x es)
counts_more budget.Shared x es room mid left h more = omega (arith, args_weight-with x es)
counts_more budget.Own x es room mid left h more = (light_with x es h.0 more.0, more.1 ∙ h.1)

pub counts_split : (c : Budget) (x : ParsedArg) (es : ParsedArgs) (room left : ℕ) → CountsAll c room left (with_arg x es) → (mid : ℕ) × Counts c room mid (arg_weight x) × CountsAll c mid left es
counts_split budget.Shared x es room left h = (left + args_weight es, omega (arith, args_weight-with x es), refl)
counts_split budget.Own x es room left h = (room, ((with_light x es h.0).0, refl), ((with_light x es h.0).1, h.1))

pub counts_end : (c : Budget) (room left : ℕ) → CountsAll c room left ParsedEnd → room ≡ left
counts_end budget.Shared room left h = omega arith
counts_end budget.Own room left h = sym h.1
