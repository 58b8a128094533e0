-- What it means that each index variable of a foreach form is one of the function that has the form.
use Rattle.std.specs.Prelude.{List, [], ◌∷◌}
use Rattle.gang_types.specs.declared.places.VarId.{VarId}
use Rattle.gang_types.specs.declared.places.VarId.TheVariants.{File, Local}
use Rattle.gang_model.specs.Types.Tree.{Dimension, RoundsOf, Rows, Tiles, EachLane, EachValue, Stmt, Then, If, Loop, BodyFirst, Switch, Segment, ForEach}

-- a variable of a function, and none of the file
abbrev pub IsLocal : VarId → Type 0
IsLocal (File n) = ⊥
IsLocal (Local n) = Unit {0}

-- the index variables of a domain
abbrev pub AreDimensionsLocal : List Dimension → Type 0
AreDimensionsLocal [] = Unit {0}
AreDimensionsLocal (d ∷ dims) = IsLocal d.index.id × AreDimensionsLocal dims

-- the index variables of a foreach form
abbrev pub AreRoundsLocal : RoundsOf → Type 0
AreRoundsLocal (Rows dims) = AreDimensionsLocal dims
AreRoundsLocal (Tiles dims) = AreDimensionsLocal dims
AreRoundsLocal (EachLane v) = IsLocal v.id
AreRoundsLocal (EachValue v e) = IsLocal v.id

-- the index variables of the foreach forms of a statement
abbrev pub AreIndicesLocal : Stmt → Type 0
AreIndicesLocal (Then first rest) = AreIndicesLocal first × AreIndicesLocal rest
AreIndicesLocal (If number e first other) = AreIndicesLocal first × AreIndicesLocal other
AreIndicesLocal (Loop number e update body) = AreIndicesLocal update × AreIndicesLocal body
AreIndicesLocal (BodyFirst number e body) = AreIndicesLocal body
AreIndicesLocal (Switch number e segments) = AreIndicesLocal segments
AreIndicesLocal (Segment label body rest) = AreIndicesLocal body × AreIndicesLocal rest
AreIndicesLocal (ForEach number rounds body) = AreRoundsLocal rounds × AreIndicesLocal body
AreIndicesLocal s = Unit {0}
