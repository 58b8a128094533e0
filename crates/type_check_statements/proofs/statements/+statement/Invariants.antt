use Rattle.std.proofs.Common.{◌+◌, ◌*◌, drop}
use Rattle.std.specs.Prelude.{max}
use Rattle.source_tree.specs.declared.tree.Stmt.{size-Stmt}
use Rattle.source_tree.specs.Tree.{segments_view, stmts_view}
use Rattle.type_check_calls.specs.Calls.{context_view}
use Rattle.source_answers.specs.Apart.{seen}
use Rattle.type_check_statement_parts.proofs.Switches.{AreBegun}
use Rattle.type_check_statements.proofs.InSequence.{IsBegun}
use Rattle.type_check_statements.proofs.statements.+statement.Given as goal

-- how deep the statements are, and behind that the calls that pass a statement on as it is

abbrev pub decreases-statement : goal.decreases-statement
decreases-statement l = 4 * size-Stmt l.stmt.now

abbrev pub decreases-statements : goal.decreases-statements
decreases-statements l = 4 * goal.size-statements l + 1

abbrev pub decreases-inner : goal.decreases-inner
decreases-inner l = 4 * size-Stmt l.stmt.now + 1

abbrev pub decreases-if_only : goal.decreases-if_only
decreases-if_only l = 4 * size-Stmt l.first.now + 2

abbrev pub decreases-if_else : goal.decreases-if_else
decreases-if_else l = 4 * max (size-Stmt l.first.now) (size-Stmt l.other.now) + 2

abbrev pub decreases-while_loop : goal.decreases-while_loop
decreases-while_loop l = 4 * size-Stmt l.body.now + 2

abbrev pub decreases-do_loop : goal.decreases-do_loop
decreases-do_loop l = 4 * size-Stmt l.body.now + 2

abbrev pub decreases-for_loop : goal.decreases-for_loop
decreases-for_loop l = 4 * max (size-Stmt l.start.now) (max (size-Stmt l.update.now) (size-Stmt l.body.now)) + 2

abbrev pub decreases-switch : goal.decreases-switch
decreases-switch l = 4 * goal.size-switch l + 3

abbrev pub decreases-typed_segments : goal.decreases-typed_segments
decreases-typed_segments l = 4 * goal.size-typed_segments l + 2

abbrev pub decreases-for_each : goal.decreases-for_each
decreases-for_each l = 4 * size-Stmt l.body.now + 2

abbrev pub decreases-rounds : goal.decreases-rounds
decreases-rounds l = 4 * size-Stmt l.body.now + 2

abbrev pub decreases-for_each_active : goal.decreases-for_each_active
decreases-for_each_active l = 4 * size-Stmt l.body.now + 3

abbrev pub decreases-for_each_unique : goal.decreases-for_each_unique
decreases-for_each_unique l = 4 * size-Stmt l.body.now + 3

-- what is typed so far and what is left come to the whole
abbrev pub invariant-statements-loop-stmt : goal.invariant-statements-loop-stmt
invariant-statements-loop-stmt l =
    IsBegun (context_view l.context) (stmts_view l.stmts) (stmts_view (drop l.stmt-index l.stmts)) (seen (λ stmts. stmts.items) l.typed)
    l.fn.scope.entries l.scope.entries l.fn.scope.locals l.scope.locals l.fn.step l.step

-- the same of the segments of a switch
abbrev pub invariant-typed_segments-loop-segment : goal.invariant-typed_segments-loop-segment
invariant-typed_segments-loop-segment l =
    AreBegun (context_view l.context) l.selector_type (segments_view l.segments) (segments_view (drop l.segment-index l.segments)) (seen (λ segments. segments.items) l.typed)
    l.fn.scope.entries l.scope.entries l.fn.scope.locals l.scope.locals l.fn.step l.step
