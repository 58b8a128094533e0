-- Every expression of a statement finds room.
use Rattle.std.specs.Prelude.{List, [], ◌∷◌, Option, Some, None}
use Rattle.gang_model.specs.Types.Tree.{Expr, Target, Scalar, ElementOf, Arg, Value, Array, Dimension, RoundsOf, Rows, Tiles, EachLane, EachValue, Stmt, Then, Declare, Assign, Change, If, Loop, BodyFirst, Return, Switch, Segment, ForEach, Call, Check, PackedStore, PackedLoad}
use Rattle.expression_runs.specs.Room.{HasRoom}

-- an expression, if there is one
abbrev pub SomeHasRoom : Option Expr → Type 0
SomeHasRoom None = Unit {0}
SomeHasRoom (Some e) = HasRoom e

-- the index of what is assigned
abbrev pub TargetHasRoom : Target → Type 0
TargetHasRoom (Scalar x) = Unit {0}
TargetHasRoom (ElementOf array rate index) = HasRoom index

-- what a call passes
abbrev pub ArgsHaveRoom : List Arg → Type 0
ArgsHaveRoom [] = Unit {0}
ArgsHaveRoom (Value x e ∷ args) = HasRoom e × ArgsHaveRoom args
ArgsHaveRoom (Array parameter array from ∷ args) = SomeHasRoom from × ArgsHaveRoom args

-- the bounds of index variables
abbrev pub DimensionsHaveRoom : List Dimension → Type 0
DimensionsHaveRoom [] = Unit {0}
DimensionsHaveRoom (d ∷ dims) = HasRoom d.low × HasRoom d.high × DimensionsHaveRoom dims

-- the head of a foreach form
abbrev pub RoundsHaveRoom : RoundsOf → Type 0
RoundsHaveRoom (Rows dims) = DimensionsHaveRoom dims
RoundsHaveRoom (Tiles dims) = DimensionsHaveRoom dims
RoundsHaveRoom (EachLane x) = Unit {0}
RoundsHaveRoom (EachValue x e) = HasRoom e

-- each expression that occurs in a statement, at any depth
abbrev pub HaveRoom : Stmt → Type 0
HaveRoom (Then first rest) = HaveRoom first × HaveRoom rest
HaveRoom (Declare number x e) = SomeHasRoom e
HaveRoom (Assign number target e) = TargetHasRoom target × HasRoom e
HaveRoom (Change number target type op in_type e) = TargetHasRoom target × HasRoom e
HaveRoom (If number e first other) = HasRoom e × HaveRoom first × HaveRoom other
HaveRoom (Loop number e update body) = HasRoom e × HaveRoom update × HaveRoom body
HaveRoom (BodyFirst number e body) = HasRoom e × HaveRoom body
HaveRoom (Return number e) = SomeHasRoom e
HaveRoom (Switch number e segments) = HasRoom e × HaveRoom segments
HaveRoom (Segment label body rest) = HaveRoom body × HaveRoom rest
HaveRoom (ForEach number rounds body) = RoundsHaveRoom rounds × HaveRoom body
HaveRoom (Call number function args result_for) = ArgsHaveRoom args
HaveRoom (Check number e) = HasRoom e
HaveRoom (PackedStore number array from e result_for) = SomeHasRoom from × HasRoom e
HaveRoom (PackedLoad number array from x result_for) = SomeHasRoom from
HaveRoom s = Unit {0}
