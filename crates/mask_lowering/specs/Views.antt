-- The points of a program, as the definition has them.
use Rattle.std.specs.Prelude.{◌≡◌, ℕ, List, map, Vec}
use Rattle.std.specs.Global.{Global}
use Rattle.gang_model.specs.Types.Tree.{StepNumber, Function}
use Rattle.mask_states.specs.Points as p
use Rattle.mask_lowering.specs.declared.point.Point.{Point}
use Rattle.mask_lowering.specs.declared.masked.Masked.{Masked}
use Rattle.mask_lowering.specs.PointViews.{point_view}

abbrev pub points_view : Vec Point Global → List p.Point
points_view points = map point_view points.items

-- for each function the points of its steps
abbrev pub table_view : Masked → List (List p.Point)
table_view masked = map points_view masked.functions.items

-- the step that lanes wait for that begin a function
abbrev pub first_step : Function → StepNumber
first_step f = p.entry_of f.body (p.closing_number f)

-- these are the first step and the points of a function
abbrev pub IsFunctionLowered : Function → ℕ × Vec Point Global → Type 0
IsFunctionLowered f lowered = (lowered.0 ≡ first_step f) × (points_view lowered.1 ≡ p.points_in f)
