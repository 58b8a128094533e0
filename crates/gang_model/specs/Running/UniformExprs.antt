-- The expressions that have one value for all lanes that evaluate them (ISPC User's Guide, "Uniform and Varying Qualifiers").
use Rattle.std.specs.Prelude.{◌≡◌, ℕ, true, List}
use Rattle.gang_types.specs.declared.types.Rate.TheVariants.{Uniform}
use Rattle.gang_types.specs.Lanes.{Lanes, has}
use Rattle.gang_model.specs.Running.Lanes.{at}
use Rattle.gang_model.specs.Types.Tree.{Expr, Number, ProgramIndex, ProgramCount, LaneMask, Read, Element, Unary, Binary, Convert, And, Or, Choice, Reduce, Scan, OfOne, OfTwo, Extract, Insert, Rotate, Shift, Shuffle, ShuffleTwo, Select}

-- an expression is uniform: it reads uniform variables alone, or it is one value of all lanes
abbrev pub IsUniform : Expr → Type 0
IsUniform (Number n) = Unit {0}
IsUniform ProgramIndex = ⊥
IsUniform ProgramCount = Unit {0}
IsUniform LaneMask = Unit {0}
IsUniform (Read v) = v.rate ≡ Uniform
IsUniform (Element array index) = IsUniform index
IsUniform (Unary op type a) = IsUniform a
IsUniform (Binary op type a b) = IsUniform a × IsUniform b
IsUniform (Convert from to a) = IsUniform a
IsUniform (And a b) = IsUniform a × IsUniform b
IsUniform (Or a b) = IsUniform a × IsUniform b
IsUniform (Choice test a b) = IsUniform test × IsUniform a × IsUniform b
IsUniform (Select test a b) = IsUniform test × IsUniform a × IsUniform b
IsUniform (Reduce f type a) = Unit {0}
IsUniform (OfOne f type a) = IsUniform a
IsUniform (OfTwo f type a b) = IsUniform a × IsUniform b
IsUniform (Extract a index) = IsUniform index
IsUniform (Scan f type a) = ⊥
IsUniform (Insert a index new) = ⊥
IsUniform (Rotate a by) = ⊥
IsUniform (Shift a by) = ⊥
IsUniform (Shuffle a places) = ⊥
IsUniform (ShuffleTwo a b places) = ⊥

-- the lanes of the set have equal values
abbrev pub AreAlike : Lanes → List ℕ → Type 0
AreAlike lanes xs = (j k : ℕ) → has lanes j ≡ true → has lanes k ≡ true → at xs j ≡ at xs k
