-- The points of well-scoped statements are well-scoped.
use Rattle.std.proofs.Common.{ℕ, List, [], ◌∷◌, ◌≡◌}
use Rattle.std.specs.Prelude.{Some, slice_get}
use Rattle.gang_model.proofs.StandingLaws.{Each, each_join}
use Rattle.gang_model.specs.Types.Tree.{Scalar, ElementOf, Stmt, Empty, Then, Declare, Assign, Change, If, Loop, BodyFirst, Break, Continue, Return, Switch, Segment, ForEach, Call, Check, PackedStore, PackedLoad, Function}
use Rattle.gang_model.specs.Running.Step.{round_number}
use Rattle.mask_states.specs.Points.{Point, Turn, Ways, before_step, body_ways, update_ways, round_ways, entry_of, points_of, points_in, function_ways}
use Rattle.machine_states.specs.Variables.{Variables}
use Rattle.machine_states.specs.WellScoped.{IsWellScoped, IsWellScopedPoint, IsWellScopedFunction}
use Rattle.machine_states.proofs.Elements.{each_get}

module _ (variables : Variables) (n : ℕ) where
  -- all points of a list are well-scoped
  abbrev pub AreWellScoped : List Point → Type 0
  AreWellScoped points = Each (IsWellScopedPoint variables n) points

  pub points_well_scoped : (s : Stmt) (ways : Ways) → IsWellScoped variables n s → AreWellScoped (points_of s ways)
  points_well_scoped Empty ways h = tt
  points_well_scoped (Then first rest) ways h =
      each_join (IsWellScopedPoint variables n) (points_of first (before_step (entry_of rest ways.next) ways)) (points_of rest ways)
      (points_well_scoped first (before_step (entry_of rest ways.next) ways) h.0) (points_well_scoped rest ways h.1)
  points_well_scoped (Declare number x e) ways h = (h, tt)
  points_well_scoped (Assign number (Scalar x) e) ways h = (h, tt)
  points_well_scoped (Assign number (ElementOf array rate index) e) ways h = (h, tt)
  points_well_scoped (Change number (Scalar x) type op in_type e) ways h = (h, tt)
  points_well_scoped (Change number (ElementOf array rate index) type op in_type e) ways h = (h, tt)
  points_well_scoped (If number test first other) ways h =
      (h.0, each_join (IsWellScopedPoint variables n) (points_of first ways) (points_of other ways) (points_well_scoped first ways h.1) (points_well_scoped other ways h.2))
  points_well_scoped (Loop number test update body) ways h =
      let again = entry_of update number in
      each_join (IsWellScopedPoint variables n) (points_of body (body_ways again ways)) _ (points_well_scoped body (body_ways again ways) h.2)
      (each_join (IsWellScopedPoint variables n) (points_of update (update_ways number ways)) _ (points_well_scoped update (update_ways number ways) h.1) (h.0, tt))
  points_well_scoped (BodyFirst number test body) ways h =
      each_join (IsWellScopedPoint variables n) (points_of body (body_ways number ways)) _ (points_well_scoped body (body_ways number ways) h.1) (h.0, tt)
  points_well_scoped (Break number) ways h = (tt, tt)
  points_well_scoped (Continue number) ways h = (tt, tt)
  points_well_scoped (Return number e) ways h = (h, tt)
  points_well_scoped (Call number called args result_for) ways h = (h, tt)
  points_well_scoped (Check number e) ways h = (h, tt)
  points_well_scoped (PackedStore number array from e result_for) ways h = (h, tt)
  points_well_scoped (PackedLoad number array from x result_for) ways h = (h, tt)
  points_well_scoped (Switch number e segments) ways h = (h.0, points_well_scoped segments (record ways { on_break = Some ways.next }) h.1)
  points_well_scoped (Segment label body rest) ways h =
      let there = before_step (entry_of rest ways.next) ways in
      each_join (IsWellScopedPoint variables n) (points_of body there) (points_of rest ways) (points_well_scoped body there h.0) (points_well_scoped rest ways h.1)
  points_well_scoped (ForEach number form body) ways h =
      let rounds = round_number number body in
      (h.0, each_join (IsWellScopedPoint variables n) (points_of body (round_ways rounds)) (Turn (entry_of body rounds) ∷ []) (points_well_scoped body (round_ways rounds) h.1) (tt, tt))

  pub points_in-well_scoped : (f : Function) → IsWellScopedFunction variables n f → AreWellScoped (points_in f)
  points_in-well_scoped f h = points_well_scoped f.body (function_ways f) h.body

  pub point_at : (points : List Point) (number : ℕ) (point : Point) → AreWellScoped points → slice_get points number ≡ Some point → IsWellScopedPoint variables n point
  point_at points number point h e = each_get (IsWellScopedPoint variables n) points number point h e
