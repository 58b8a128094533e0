-- What it means that points are made from the last step to the first.
use Rattle.std.specs.Prelude.{◌≡◌, ℕ, ◌+◌, Bool, true, false, List, ◌++◌, map, reverse, length}
use Rattle.gang_model.specs.Types.Tree.{StepNumber, Stmt, Empty, Then, If, Loop, BodyFirst, Switch, Segment, ForEach}
use Rattle.gang_model.specs.Running.Step.{steps_of}
use Rattle.gang_model.specs.Running.RunningOrder.{IsNumbered}
use Rattle.mask_states.specs.Points as p
use Rattle.mask_lowering.specs.declared.point.Point.{Point}
use Rattle.mask_lowering.specs.declared.ways.Ways.{Ways}
use Rattle.mask_lowering.specs.PointViews.{point_view}

abbrev pub ways_view : Ways → p.Ways
ways_view ways = record { next = ways.next; on_break = ways.on_break; on_continue = ways.on_continue; on_return = ways.on_return }

-- points that were made last to first, in running order
abbrev pub in_order : List Point → List p.Point
in_order points = reverse (map point_view points)

-- whether a statement has no statement in it
abbrev pub is_single : Stmt → Bool
is_single Empty = false
is_single (Then first rest) = false
is_single (If number test first other) = false
is_single (Loop number test update body) = false
is_single (BodyFirst number test body) = false
is_single (Switch number e segments) = false
is_single (Segment label body rest) = false
is_single (ForEach number form body) = false
is_single s = true

-- the points of a statement stand before the old ones, and lanes that have it to do wait at its entry
pub record IsBefore (old new : List Point) (s : Stmt) (ways : p.Ways) (entry : StepNumber) : Type 0 where
  pub points : in_order new ≡ p.points_of s ways ++ in_order old
  pub waits : entry ≡ p.entry_of s ways.next

-- A point is made for each step of a statement. Where its steps are numbered, and come right before the last ones of so many, which are
-- those of the old points, these points are the statement's.
pub record Lowered (steps : ℕ) (old new : List Point) (s : Stmt) (ways : p.Ways) (entry : StepNumber) : Type 0 where
  pub counted : length new ≡ length old + steps_of s
  pub placed : (from : ℕ) → IsNumbered from s → from + steps_of s + length old ≡ steps → IsBefore old new s ways entry
