use Rattle.std.proofs.Common.{◌+◌, ◌*◌, drop}
use Rattle.std.specs.Prelude.{max, reverse}
use Rattle.typed_tree.specs.declared.statements.Stmt.{size-Stmt}
use Rattle.typed_tree.specs.Views.{segments_view, stmts_view}
use Rattle.mask_lowering.specs.Lowering.{Lowered, ways_view}
use Rattle.mask_lowering.proofs.Forms.{LoweredSegments}
use Rattle.mask_lowering.proofs.lowering.+statement.Given as goal

-- how deep the statements are; a form's parts are passed on as they are

abbrev pub decreases-lower_statement : goal.decreases-lower_statement
decreases-lower_statement l = 2 * size-Stmt l.statement.now

abbrev pub decreases-lower_statements : goal.decreases-lower_statements
decreases-lower_statements l = 2 * goal.size-lower_statements l + 1

abbrev pub decreases-lower_switch : goal.decreases-lower_switch
decreases-lower_switch l = 2 * goal.size-lower_switch l + 1

abbrev pub decreases-lower_loop : goal.decreases-lower_loop
decreases-lower_loop l = 2 * max (size-Stmt l.body.now) (size-Stmt l.update.now) + 1

abbrev pub decreases-lower_for_each : goal.decreases-lower_for_each
decreases-lower_for_each l = 2 * size-Stmt l.body.now + 1

-- the points of the statements from here on are made
abbrev pub invariant-lower_statements-loop-i : goal.invariant-lower_statements-loop-i
invariant-lower_statements-loop-i l = Lowered l.steps l.fn.points.items l.points.items (stmts_view (drop l.i l.statements)) (ways_view l.ways) l.next

-- the same of the segments from here on
abbrev pub invariant-lower_switch-loop-i : goal.invariant-lower_switch-loop-i
invariant-lower_switch-loop-i l =
    let rest = segments_view (drop l.i l.segments) in
    Lowered l.steps l.fn.points.items l.points.items rest (ways_view l.inner) l.begin
    × LoweredSegments l.steps l.fn.points.items l.points.items rest (ways_view l.inner) (reverse l.entries.items)
