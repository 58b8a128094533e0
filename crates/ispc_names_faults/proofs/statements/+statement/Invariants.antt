use Rattle.std.proofs.Common.{◌≡◌, [], ◌+◌, ◌*◌, drop, take}
use Rattle.std.specs.Prelude.{max}
use Rattle.gang_model.specs.Source.Judged.{least_fault, merged}
use Rattle.gang_model.specs.Names.NameFaults.{segments_names, stmts_names}
use Rattle.gang_model.specs.Names.Scope.{after_all, enclosed, locals_in_segments}
use Rattle.ispc_names_scopes.specs.Scopes.{site}
use Rattle.source_tree.specs.declared.tree.Stmt.{size-Stmt}
use Rattle.source_tree.specs.Tree.{segments_view, stmts_view}
use Rattle.ispc_names_expressions.specs.MayStand.{allowed_view}
use Rattle.ispc_names_faults.proofs.ScopeSteps.{Reaches}
use Rattle.ispc_names_faults.proofs.Segments.{labels_after}
use Rattle.ispc_names_faults.proofs.statements.+statement.Given as goal

-- how deep the statements are, and behind that the calls that pass a statement on as it is

abbrev pub decreases-statement_fault : goal.decreases-statement_fault
decreases-statement_fault l = 4 * size-Stmt l.stmt.now

abbrev pub decreases-inner_fault : goal.decreases-inner_fault
decreases-inner_fault l = 4 * size-Stmt l.stmt.now + 1

abbrev pub decreases-update_fault : goal.decreases-update_fault
decreases-update_fault l = 4 * size-Stmt l.stmt.now + 1

abbrev pub decreases-body_fault : goal.decreases-body_fault
decreases-body_fault l = 4 * goal.size-body_fault l + 1

abbrev pub decreases-block_fault : goal.decreases-block_fault
decreases-block_fault l = 4 * goal.size-block_fault l + 2

abbrev pub decreases-segments_fault : goal.decreases-segments_fault
decreases-segments_fault l = 4 * goal.size-segments_fault l + 2

abbrev pub decreases-tested_fault : goal.decreases-tested_fault
decreases-tested_fault l = 4 * size-Stmt l.stmt.now + 2

abbrev pub decreases-choice_fault : goal.decreases-choice_fault
decreases-choice_fault l = 4 * max (size-Stmt l.first.now) (size-Stmt l.other.now) + 2

abbrev pub decreases-for_fault : goal.decreases-for_fault
decreases-for_fault l = 4 * max (size-Stmt l.start.now) (max (size-Stmt l.update.now) (size-Stmt l.body.now)) + 2

abbrev pub decreases-domain_fault : goal.decreases-domain_fault
decreases-domain_fault l = 4 * size-Stmt l.body.now + 2

abbrev pub decreases-rounds_fault : goal.decreases-rounds_fault
decreases-rounds_fault l = 4 * size-Stmt l.body.now + 2

-- the statements of a function or of a segment
abbrev pub invariant-body_fault-loop-stmt : goal.invariant-body_fault-loop-stmt
invariant-body_fault-loop-stmt l = record {
  -- what is found so far and what is left decide
  found : least_fault (stmts_names (stmts_view l.fn.stmts) (allowed_view l.functions l.may) (site l.fn.scopes))
      ≡ merged l.first (least_fault (stmts_names (stmts_view (drop l.stmt-index l.stmts)) (allowed_view l.functions l.may) (site l.scopes)));
  after : after_all (stmts_view l.fn.stmts) (site l.fn.scopes) ≡ after_all (stmts_view (drop l.stmt-index l.stmts)) (site l.scopes);
  outside : l.scopes.outside ≡ l.fn.scopes.outside;
}

-- the segments of a switch
abbrev pub invariant-segments_fault-loop-number : goal.invariant-segments_fault-loop-number
invariant-segments_fault-loop-number l = record {
  found : least_fault (segments_names (segments_view l.segments) [] (allowed_view l.functions l.may) (enclosed (site l.fn.scopes)))
      ≡ merged l.first (least_fault (segments_names (segments_view (drop l.number l.segments)) (labels_after [] (take l.number l.segments)) (allowed_view l.functions l.may) (site l.scopes)));
  reaches : Reaches l.fn.scopes l.scopes (locals_in_segments (segments_view (take l.number l.segments)));
}
