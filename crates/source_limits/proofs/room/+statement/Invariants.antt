use Rattle.std.proofs.Common.{◌≡◌, drop}
use Rattle.gang_model.specs.Source.Limits.{declared_in_all, declared_in_segments}
use Rattle.source_tree.specs.Tree.{stmts_view, segments_view}
use Rattle.source_limits.specs.Room.{room_after}
use Rattle.source_limits.proofs.room.+statement.Given as goal

-- the room that is left is for what is left
abbrev pub invariant-after_statements-loop-stmt : goal.invariant-after_statements-loop-stmt
invariant-after_statements-loop-stmt l =
    room_after l.fn.room (declared_in_all (stmts_view l.fn.stmts)) ≡ room_after l.room (declared_in_all (stmts_view (drop l.stmt-index l.stmts)))

abbrev pub invariant-after_segments-loop-segment : goal.invariant-after_segments-loop-segment
invariant-after_segments-loop-segment l =
    room_after l.fn.room (declared_in_segments (segments_view l.fn.segments)) ≡ room_after l.room (declared_in_segments (segments_view (drop l.segment-index l.segments)))
