use Rattle.std.proofs.Common.{List, [], ◌∷◌, ◌++◌, ◌+◌, ◌*◌, length, take}
use Rattle.std.specs.Prelude.{max}
use Rattle.gang_model.specs.Names.Bindings.{bindings_in_all, bindings_in_segments}
use Rattle.gang_model.specs.Names.Scope.{NameStanding, Site, after_all, enclosed, standing, standings_in_all, standings_in_segments}
use Rattle.source_tree.specs.declared.tree.Stmt.{size-Stmt}
use Rattle.source_tree.specs.Tree.{stmts_view, segments_view}
use Rattle.ispc_names_steps.specs.Sites.{Declares, Stands}
use Rattle.ispc_names_steps.proofs.Segments.{after_segments}
use Rattle.ispc_names_steps.proofs.statements.+statement.Given as goal

-- how deep the statements are, and behind that the calls that pass a statement on as it is

abbrev pub decreases-statement_steps : goal.decreases-statement_steps
decreases-statement_steps l = 4 * size-Stmt l.stmt.now

abbrev pub decreases-inner_steps : goal.decreases-inner_steps
decreases-inner_steps l = 4 * size-Stmt l.stmt.now + 1

abbrev pub decreases-list_steps : goal.decreases-list_steps
decreases-list_steps l = 4 * goal.size-list_steps l + 1

abbrev pub decreases-block_steps : goal.decreases-block_steps
decreases-block_steps l = 4 * goal.size-block_steps l + 2

abbrev pub decreases-branch_steps : goal.decreases-branch_steps
decreases-branch_steps l = 4 * size-Stmt l.first.now + 2

abbrev pub decreases-choice_steps : goal.decreases-choice_steps
decreases-choice_steps l = 4 * max (size-Stmt l.first.now) (size-Stmt l.other.now) + 2

abbrev pub decreases-for_steps : goal.decreases-for_steps
decreases-for_steps l = 4 * max (size-Stmt l.start.now) (max (size-Stmt l.update.now) (size-Stmt l.body.now)) + 2

abbrev pub decreases-switch_steps : goal.decreases-switch_steps
decreases-switch_steps l = 4 * goal.size-switch_steps l + 2

abbrev pub decreases-domain_steps : goal.decreases-domain_steps
decreases-domain_steps l = 4 * size-Stmt l.body.now + 2

abbrev pub decreases-rounds_steps : goal.decreases-rounds_steps
decreases-rounds_steps l = 4 * size-Stmt l.body.now + 2

abbrev pub invariant-list_steps-loop-stmt : goal.invariant-list_steps-loop-stmt
invariant-list_steps-loop-stmt l = record {
  declares : Declares l.fn.declared.declarations.items l.declared.declarations.items (bindings_in_all (stmts_view (take l.stmt-index l.stmts)) (length l.fn.declared.declarations.items));
  stands : (site : Site) (steps : List NameStanding) → Stands l.fn.declared l.fn.standings.items site steps
      → Stands l.declared l.standings.items (after_all (stmts_view (take l.stmt-index l.stmts)) site) (steps ++ standings_in_all (stmts_view (take l.stmt-index l.stmts)) site);
}

-- the step of the switch, and then those of its segments
abbrev pub invariant-switch_steps-loop-segment : goal.invariant-switch_steps-loop-segment
invariant-switch_steps-loop-segment l = record {
  declares : Declares l.fn.declared.declarations.items l.declared.declarations.items (bindings_in_segments (segments_view (take l.segment-index l.segments)) (length l.fn.declared.declarations.items));
  stands : (site : Site) (steps : List NameStanding) → Stands l.fn.declared l.fn.standings.items site steps
      → Stands l.declared l.standings.items (after_segments (take l.segment-index l.segments) (enclosed site))
      ((steps ++ standing l.fn.place site ∷ []) ++ standings_in_segments (segments_view (take l.segment-index l.segments)) (enclosed site));
}
