-- what is shown without the lanes that have a fault
use Rattle.std.proofs.Common.{◌≡◌, ◌-◌, ◌≤◌, length, Some}
use Rattle.gang_types.specs.declared.places.Spot.{Spot}
use Rattle.gang_types.specs.declared.types.IntType.{IntType}
use Rattle.gang_types.specs.declared.types.Rate.{Rate}
use Rattle.gang_model.specs.Source.Parsed.{ParsedExpr}
use Rattle.gang_model.specs.Debugger.Debugger.{Debugger, Setting, now}
use Rattle.typed_tree.specs.Views.{expr_view}
use Rattle.debug_traits.specs.Frames.{spot_at, state_at}
use Rattle.frame_expressions.specs.Lanes.{chosen_lanes, made_lanes}
use Rattle.frame_expressions.specs.Meanings.{Means, entries_at}
use Rattle.expression_watches.specs.LaneSights.{shown_in}
use Rattle.expression_watches.proofs.sights.computed.Given as goal

abbrev pub invariant-loop-tried : goal.invariant-loop-tried
invariant-loop-tried g l =
    (s : Setting) (d : Debugger) (spot : Spot) (written : ParsedExpr) (type : IntType) (rate : Rate) → g.M.RecordedMachine.stands l.machine s d
    → spot_at s.program l.depth (now s d) ≡ Some spot → (means : Means written (entries_at s.program spot) type rate l.code) → length (made_lanes l.depth (now s d)) ≤ 16
    → shown_in (16 - l.tried) (expr_view means.tree) (chosen_lanes l.left l.depth (now s d)) (state_at l.depth (now s d))
    ≡ shown_in 16 (expr_view means.tree) (made_lanes l.depth (now s d)) (state_at l.depth (now s d))
