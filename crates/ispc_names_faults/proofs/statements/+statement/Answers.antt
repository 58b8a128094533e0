use Rattle.std.specs.Prelude.{option_map}
use Rattle.std.proofs.Common.{◌≡◌, ◌∙◌, [], ◌+◌, drop, take, map, ap, sym, refl, length, arith, inl, inr}
use Rattle.std.proofs.lemmas.List.{drop_all, length-map, take_all}
use Rattle.gang_model.specs.Source.Judged.{least_fault}
use Rattle.gang_model.specs.Names.NameFaults.{names_in, segments_names, stmt_names, stmts_names}
use Rattle.gang_model.specs.Source.Parsed.{ParsedBlock, ParsedIf, ParsedIfElse, ParsedWhile, ParsedDo, ParsedFor, ParsedSwitch, ParsedForEach, ParsedForEachUnique}
use Rattle.gang_model.specs.Names.Scope.{after, after_all, enclosed, locals_in, locals_in_all, locals_in_segments}
use Rattle.gang_model.proofs.WalkedLists.{next_item}
use Rattle.ispc_names_scopes.specs.Scopes.{site}
use Rattle.source_tree.specs.Expressions.{expr_view}
use Rattle.source_tree.specs.declared.tree.Stmt.{If}
use Rattle.source_tree.specs.Tree.{dim_view, segments_view, stmt_view, stmts_view}
use Rattle.source_tree.proofs.StatementRows.{view_block, view_switch}
use Rattle.ispc_names_expressions.specs.MayStand.{allowed_view}
use Rattle.ispc_names_declarations.proofs.Merging.{all_found, pair_fault}
use Rattle.ispc_names_faults.proofs.ScopeSteps.{marked_within, left_for, reach_entered, reach_after, reach_moved, reach_dims, reach_block, reach_here, reach_inner, reach_rounds, reach_same, moved_twice}
use Rattle.ispc_names_faults.proofs.Found.{domain_found, rounds_found, stmts_step, stmts_passed, stmts_found, if_else_found, for_found, for_each_unique_found, found_as, found_at, after_as, while_found, do_found}
use Rattle.ispc_names_faults.proofs.Segments.{labels_after, segments_step, segments_reach, switch_found}
use Rattle.ispc_names_faults.proofs.statements.+statement.Goals as goal

-- ---- the foreach forms

pub domain_fault-leave-requires-clause-declared : goal.domain_fault-leave-requires-clause-declared
domain_fault-leave-requires-clause-declared t c =
    marked_within c.args.scopes.now c.inner_fault.new.scopes _ c.mark-mark.result.declared c.mark-mark.result.outside (record { declared_is = c.mark-mark.ensures.declared; outside_is = c.mark-mark.ensures.outside })
    (reach_dims c.args.scopes.now c.domain_head_fault.new.scopes c.inner_fault.new.scopes (map dim_view c.args.dims.now) (stmt_view c.args.body.now)
    c.in_ok-in_head.ensures.declared c.in_ok-in_body.ensures.after)

pub domain_fault-returns-clause-fault : goal.domain_fault-returns-clause-fault
domain_fault-returns-clause-fault t c = λ is_tiled.
    let functions = c.args.functions.now in
    domain_found c.args.scopes.now c.domain_head_fault.new.scopes c.args.place is_tiled (map dim_view c.args.dims.now) (stmt_view c.args.body.now)
    (allowed_view functions c.args.may) (allowed_view functions c.in_domain_round.result) _ _ _
    c.in_ok-in_head.ensures.fault c.in_ok-in_head.ensures.declared (c.in_domain_round.ensures functions) c.in_ok-in_body.ensures.fault c.least.ensures

pub domain_fault-returns-clause-after : goal.domain_fault-returns-clause-after
domain_fault-returns-clause-after t c =
    let m = locals_in (stmt_view c.args.body.now) in
    left_for c.args.scopes.now c.inner_fault.new.scopes c.leave.new.self (length c.args.dims.now + m) c.mark-mark.result.declared c.mark-mark.result.outside
    (record { declared_is = c.mark-mark.ensures.declared; outside_is = c.mark-mark.ensures.outside })
    (reach_same c.args.scopes.now c.inner_fault.new.scopes _ _ (ap (λ n. n + m) (length-map c.args.dims.now dim_view))
    (reach_dims c.args.scopes.now c.domain_head_fault.new.scopes c.inner_fault.new.scopes (map dim_view c.args.dims.now) (stmt_view c.args.body.now)
    c.in_ok-in_head.ensures.declared c.in_ok-in_body.ensures.after))
    (record { environment_is = c.leave.ensures.environment; outside_is = c.leave.ensures.outside; next_is = c.leave.ensures.next })

pub rounds_fault-returns-clause-fault : goal.rounds_fault-returns-clause-fault
rounds_fault-returns-clause-fault t c =
    let functions = c.args.functions.now in
    rounds_found c.args.scopes.now c.round_head_fault.new.scopes c.args.name.now c.args.place (stmt_view c.args.body.now)
    (allowed_view functions c.args.may) (allowed_view functions c.in_round.result) _ _ _
    c.in_ok-in_head.ensures.fault c.in_ok-in_head.ensures.declared (c.in_round.ensures functions) c.in_ok-in_body.ensures.fault c.least.ensures

pub rounds_fault-leave-requires-clause-declared : goal.rounds_fault-leave-requires-clause-declared
rounds_fault-leave-requires-clause-declared t c =
    marked_within c.args.scopes.now c.inner_fault.new.scopes _ c.mark-mark.result.declared c.mark-mark.result.outside (record { declared_is = c.mark-mark.ensures.declared; outside_is = c.mark-mark.ensures.outside })
    (reach_rounds c.args.scopes.now c.round_head_fault.new.scopes c.inner_fault.new.scopes c.args.name.now (stmt_view c.args.body.now)
    c.in_ok-in_head.ensures.declared c.in_ok-in_body.ensures.after)

pub rounds_fault-returns-clause-after : goal.rounds_fault-returns-clause-after
rounds_fault-returns-clause-after t c =
    left_for c.args.scopes.now c.inner_fault.new.scopes c.leave.new.self _ c.mark-mark.result.declared c.mark-mark.result.outside
    (record { declared_is = c.mark-mark.ensures.declared; outside_is = c.mark-mark.ensures.outside })
    (reach_rounds c.args.scopes.now c.round_head_fault.new.scopes c.inner_fault.new.scopes c.args.name.now (stmt_view c.args.body.now)
    c.in_ok-in_head.ensures.declared c.in_ok-in_body.ensures.after)
    (record { environment_is = c.leave.ensures.environment; outside_is = c.leave.ensures.outside; next_is = c.leave.ensures.next })

-- ---- statements in a scope of their own, and the update of a `for`

pub inner_fault-leave-requires-clause-declared : goal.inner_fault-leave-requires-clause-declared
inner_fault-leave-requires-clause-declared t c =
    marked_within c.args.scopes.now c.statement_fault.new.scopes _ c.enter-mark.result.declared c.enter-mark.result.outside (record { declared_is = c.enter-mark.ensures.declared; outside_is = c.enter-mark.ensures.before })
    (reach_inner c.args.scopes.now c.enter-mark.new.self c.statement_fault.new.scopes (stmt_view c.args.stmt.now) c.enter-mark.ensures.inside c.in_ok-fault.ensures.after)

pub inner_fault-returns-clause-fault : goal.inner_fault-returns-clause-fault
inner_fault-returns-clause-fault t c =
    c.in_ok-fault.ensures.fault ∙ ap (λ s. least_fault (stmt_names (stmt_view c.args.stmt.now) (allowed_view c.args.functions.now c.args.may) s)) c.enter-mark.ensures.inside

pub inner_fault-returns-clause-after : goal.inner_fault-returns-clause-after
inner_fault-returns-clause-after t c =
    left_for c.args.scopes.now c.statement_fault.new.scopes c.leave.new.self _ c.enter-mark.result.declared c.enter-mark.result.outside
    (record { declared_is = c.enter-mark.ensures.declared; outside_is = c.enter-mark.ensures.before })
    (reach_inner c.args.scopes.now c.enter-mark.new.self c.statement_fault.new.scopes (stmt_view c.args.stmt.now) c.enter-mark.ensures.inside c.in_ok-fault.ensures.after)
    (record { environment_is = c.leave.ensures.environment; outside_is = c.leave.ensures.outside; next_is = c.leave.ensures.next })

pub update_fault-leave-requires-clause-declared : goal.update_fault-leave-requires-clause-declared
update_fault-leave-requires-clause-declared t c =
    marked_within c.args.scopes.now c.statement_fault.new.scopes _ c.mark-mark.result.declared c.mark-mark.result.outside (record { declared_is = c.mark-mark.ensures.declared; outside_is = c.mark-mark.ensures.outside })
    (reach_here c.args.scopes.now c.statement_fault.new.scopes (stmt_view c.args.stmt.now) c.in_ok-fault.ensures.after)

pub update_fault-returns-clause-after : goal.update_fault-returns-clause-after
update_fault-returns-clause-after t c =
    left_for c.args.scopes.now c.statement_fault.new.scopes c.leave.new.self _ c.mark-mark.result.declared c.mark-mark.result.outside
    (record { declared_is = c.mark-mark.ensures.declared; outside_is = c.mark-mark.ensures.outside })
    (reach_here c.args.scopes.now c.statement_fault.new.scopes (stmt_view c.args.stmt.now) c.in_ok-fault.ensures.after)
    (record { environment_is = c.leave.ensures.environment; outside_is = c.leave.ensures.outside; next_is = c.leave.ensures.next })

-- ---- blocks, and the segments of a switch

pub body_fault-loop-stmt-preserved : goal.body_fault-loop-stmt-preserved
body_fault-loop-stmt-preserved t c =
    let items = c.args.stmts.now in
    let i = c.loop-stmt.stmt-index in
    let split = next_item items i c.stmt-item.result c.loop-stmt-test.true c.stmt-item.is in
    let s = c.loop-stmt.scopes in
    let s' = c.statement_fault.new.scopes in
    record {
      found = stmts_step (drop i items) (drop (i + 1) items) c.stmt-item.result (allowed_view c.args.functions.now c.args.may) s s' _ _ _ _ split c.loop-stmt.invariant.found
          c.in_ok-statement_fault.ensures.fault c.in_ok-statement_fault.ensures.after c.least-first.ensures;
      after = stmts_passed (drop i items) (drop (i + 1) items) c.stmt-item.result s s' _ split c.loop-stmt.invariant.after c.in_ok-statement_fault.ensures.after;
      outside = c.in_ok-statement_fault.ensures.outside ∙ c.loop-stmt.invariant.outside;
    }

pub body_fault-returns-clause-fault : goal.body_fault-returns-clause-fault
body_fault-returns-clause-fault t c =
    let items = c.args.stmts.now in
    let i = c.loop-stmt.stmt-index in
    stmts_found items (drop i items) (allowed_view c.args.functions.now c.args.may) c.loop-stmt.scopes (site c.args.scopes.now) c.loop-stmt.first
    c.loop-stmt.invariant.found (drop_all i items c.loop-stmt-test.false)

pub body_fault-returns-clause-after : goal.body_fault-returns-clause-after
body_fault-returns-clause-after t c =
    sym (c.loop-stmt.invariant.after
    ∙ ap (λ xs. after_all (stmts_view xs) (site c.loop-stmt.scopes)) (drop_all c.loop-stmt.stmt-index c.args.stmts.now c.loop-stmt-test.false))

pub block_fault-leave-requires-clause-declared : goal.block_fault-leave-requires-clause-declared
block_fault-leave-requires-clause-declared t c =
    marked_within c.args.scopes.now c.body_fault.new.scopes _ c.enter-mark.result.declared c.enter-mark.result.outside (record { declared_is = c.enter-mark.ensures.declared; outside_is = c.enter-mark.ensures.before })
    (reach_block c.args.scopes.now c.body_fault.new.scopes (stmts_view c.args.stmts.now) (c.in_ok-fault.ensures.after ∙ ap (after_all (stmts_view c.args.stmts.now)) c.enter-mark.ensures.inside))

pub block_fault-returns-clause-fault : goal.block_fault-returns-clause-fault
block_fault-returns-clause-fault t c =
    c.in_ok-fault.ensures.fault ∙ ap (λ s. least_fault (stmts_names (stmts_view c.args.stmts.now) (allowed_view c.args.functions.now c.args.may) s)) c.enter-mark.ensures.inside

pub block_fault-returns-clause-after : goal.block_fault-returns-clause-after
block_fault-returns-clause-after t c =
    left_for c.args.scopes.now c.body_fault.new.scopes c.leave.new.self _ c.enter-mark.result.declared c.enter-mark.result.outside
    (record { declared_is = c.enter-mark.ensures.declared; outside_is = c.enter-mark.ensures.before })
    (reach_block c.args.scopes.now c.body_fault.new.scopes (stmts_view c.args.stmts.now) (c.in_ok-fault.ensures.after ∙ ap (after_all (stmts_view c.args.stmts.now)) c.enter-mark.ensures.inside))
    (record { environment_is = c.leave.ensures.environment; outside_is = c.leave.ensures.outside; next_is = c.leave.ensures.next })

pub segments_fault-loop-number-init : goal.segments_fault-loop-number-init
segments_fault-loop-number-init t c = record {
  found = ap (λ s. least_fault (segments_names (segments_view c.args.segments.now) [] (allowed_view c.args.functions.now c.args.may) s)) (sym c.enter-mark.ensures.inside);
  reaches = reach_entered c.args.scopes.now c.enter-mark.new.self c.enter-mark.ensures.inside;
}

pub segments_fault-loop-number-preserved : goal.segments_fault-loop-number-preserved
segments_fault-loop-number-preserved t c =
    let items = c.args.segments.now in
    let i = c.loop-number.number in
    let x = c.index-segments-number.result in
    let s = c.loop-number.scopes in
    let s' = c.body_fault.new.scopes in
    record {
      found = segments_step items i x c.deref.result.now c.loop-number-test.true c.index-segments-number.is c.deref.ensures.value (allowed_view c.args.functions.now c.args.may) s s' _ _ _ _ _ _
          c.loop-number.invariant.found c.label_fault-in_label.ensures c.in_ok-in_body.ensures.fault c.in_ok-in_body.ensures.after c.least.ensures c.least-first.ensures;
      reaches = segments_reach items i x c.deref.result.now c.loop-number-test.true c.index-segments-number.is c.deref.ensures.value c.args.scopes.now s s' c.loop-number.invariant.reaches c.in_ok-in_body.ensures.after;
    }

pub segments_fault-leave-requires-clause-declared : goal.segments_fault-leave-requires-clause-declared
segments_fault-leave-requires-clause-declared t c =
    marked_within c.args.scopes.now c.loop-number.scopes _ c.enter-mark.result.declared c.enter-mark.result.outside (record { declared_is = c.enter-mark.ensures.declared; outside_is = c.enter-mark.ensures.before })
    c.loop-number.invariant.reaches

pub segments_fault-returns-clause-fault : goal.segments_fault-returns-clause-fault
segments_fault-returns-clause-fault t c =
    let items = c.args.segments.now in
    let i = c.loop-number.number in
    all_found _ c.loop-number.first _ c.loop-number.invariant.found
    (ap (λ xs. least_fault (segments_names (segments_view xs) (labels_after [] (take i items)) (allowed_view c.args.functions.now c.args.may) (site c.loop-number.scopes))) (drop_all i items c.loop-number-test.false))

pub segments_fault-returns-clause-after : goal.segments_fault-returns-clause-after
segments_fault-returns-clause-after t c =
    left_for c.args.scopes.now c.loop-number.scopes c.leave.new.self _ c.enter-mark.result.declared c.enter-mark.result.outside
    (record { declared_is = c.enter-mark.ensures.declared; outside_is = c.enter-mark.ensures.before })
    (reach_same c.args.scopes.now c.loop-number.scopes _ _ (ap (λ xs. locals_in_segments (segments_view xs)) (take_all c.loop-number.number c.args.segments.now c.loop-number-test.false))
    c.loop-number.invariant.reaches)
    (record { environment_is = c.leave.ensures.environment; outside_is = c.leave.ensures.outside; next_is = c.leave.ensures.next })

-- ---- a test, and a `for`

pub tested_fault-returns-clause-fault : goal.tested_fault-returns-clause-fault
tested_fault-returns-clause-fault t c =
    pair_fault (names_in (expr_view c.args.test.now) c.args.functions.now c.args.scopes.now.environment)
    (stmt_names (stmt_view c.args.stmt.now) (allowed_view c.args.functions.now c.args.may) (enclosed (site c.args.scopes.now))) _ _ _
    c.expression_fault-in_test.ensures c.in_ok-in_stmt.ensures.fault c.least.ensures

pub choice_fault-returns-clause-fault : goal.choice_fault-returns-clause-fault
choice_fault-returns-clause-fault t c = λ place.
    if_else_found c.args.scopes.now c.inner_fault.new.scopes place (expr_view c.args.test.now) (stmt_view c.args.first.now) (stmt_view c.args.other.now)
    (allowed_view c.args.functions.now c.args.may) _ _ _ _ _
    c.expression_fault-in_test.ensures c.in_ok-in_first.ensures.fault c.in_ok-in_first.ensures.after c.in_ok-in_other.ensures.fault c.least.ensures c.least-2.ensures

pub choice_fault-returns-clause-after : goal.choice_fault-returns-clause-after
choice_fault-returns-clause-after t c =
    moved_twice c.args.scopes.now c.inner_fault.new.scopes c.inner_fault-2.new.scopes (locals_in (stmt_view c.args.first.now)) (locals_in (stmt_view c.args.other.now))
    c.in_ok-in_first.ensures.after c.in_ok-in_other.ensures.after

pub for_fault-leave-requires-clause-declared : goal.for_fault-leave-requires-clause-declared
for_fault-leave-requires-clause-declared t c =
    let s = c.args.scopes.now in
    let s1 = c.enter-mark.new.self in
    let s2 = c.statement_fault.new.scopes in
    let s3 = c.update_fault.new.scopes in
    let s4 = c.inner_fault.new.scopes in
    marked_within s s4 _ c.enter-mark.result.declared c.enter-mark.result.outside (record { declared_is = c.enter-mark.ensures.declared; outside_is = c.enter-mark.ensures.before })
    (reach_moved s s3 s4 (locals_in (stmt_view c.args.body.now)) _ (reach_moved s s2 s3 (locals_in (stmt_view c.args.update.now)) _
    (reach_after s s1 s2 (stmt_view c.args.start.now) 0 (reach_entered s s1 c.enter-mark.ensures.inside) c.in_ok-in_start.ensures.after)
    c.in_ok-in_update.ensures.after) c.in_ok-in_body.ensures.after)

pub for_fault-returns-clause-fault : goal.for_fault-returns-clause-fault
for_fault-returns-clause-fault t c = λ place.
    for_found c.args.scopes.now c.enter-mark.new.self c.statement_fault.new.scopes c.update_fault.new.scopes place
    (stmt_view c.args.start.now) (option_map expr_view c.args.test.now) (stmt_view c.args.update.now) (stmt_view c.args.body.now)
    (allowed_view c.args.functions.now c.args.may) (allowed_view c.args.functions.now c.in_loop.result) _ _ _ _ _ _ _
    c.enter-mark.ensures.inside c.in_ok-in_start.ensures.fault c.in_ok-in_start.ensures.after
    c.some_expression_fault-in_test.ensures c.in_ok-in_update.ensures.fault c.in_ok-in_update.ensures.after
    (c.in_loop.ensures c.args.functions.now) c.in_ok-in_body.ensures.fault
    c.least.ensures c.least-2.ensures c.least-3.ensures

pub for_fault-returns-clause-after : goal.for_fault-returns-clause-after
for_fault-returns-clause-after t c =
    let s = c.args.scopes.now in
    let s1 = c.enter-mark.new.self in
    let s2 = c.statement_fault.new.scopes in
    let s3 = c.update_fault.new.scopes in
    let s4 = c.inner_fault.new.scopes in
    let start = stmt_view c.args.start.now in
    let update = stmt_view c.args.update.now in
    let body = stmt_view c.args.body.now in
    let count : ((0 + locals_in start) + locals_in update) + locals_in body ≡ (locals_in start + locals_in update) + locals_in body = omega arith in
    left_for s s4 c.leave.new.self ((locals_in start + locals_in update) + locals_in body) c.enter-mark.result.declared c.enter-mark.result.outside
    (record { declared_is = c.enter-mark.ensures.declared; outside_is = c.enter-mark.ensures.before })
    (reach_same s s4 _ _ count
    (reach_moved s s3 s4 (locals_in body) _ (reach_moved s s2 s3 (locals_in update) _
    (reach_after s s1 s2 start 0 (reach_entered s s1 c.enter-mark.ensures.inside) c.in_ok-in_start.ensures.after)
    c.in_ok-in_update.ensures.after) c.in_ok-in_body.ensures.after))
    (record { environment_is = c.leave.ensures.environment; outside_is = c.leave.ensures.outside; next_is = c.leave.ensures.next })

-- ---- statements

pub statement_fault-returns-in-Block-clause-fault : goal.statement_fault-returns-in-Block-clause-fault
statement_fault-returns-in-Block-clause-fault t c =
    let ss = stmts_view c.deref.result.now in
    let e : stmt_view c.args.stmt.now ≡ ParsedBlock ss =
    ap stmt_view c.in-Block.is ∙ (view_block c.in-Block.stmts ∙ ap (λ xs. ParsedBlock (stmts_view xs)) (sym c.deref.ensures.value)) in
    found_as _ _ (ParsedBlock ss) e (allowed_view c.args.functions.now c.args.may) (site c.args.scopes.now) c.block_fault.ensures.fault

pub statement_fault-returns-in-Block-clause-after : goal.statement_fault-returns-in-Block-clause-after
statement_fault-returns-in-Block-clause-after t c =
    let ss = stmts_view c.deref.result.now in
    let e : stmt_view c.args.stmt.now ≡ ParsedBlock ss =
    ap stmt_view c.in-Block.is ∙ (view_block c.in-Block.stmts ∙ ap (λ xs. ParsedBlock (stmts_view xs)) (sym c.deref.ensures.value)) in
    after_as _ _ (ParsedBlock ss) e (locals_in_all ss) c.args.scopes.now c.block_fault.new.scopes refl c.block_fault.ensures.after

pub statement_fault-returns-in-Some-clause-fault : goal.statement_fault-returns-in-Some-clause-fault
statement_fault-returns-in-Some-clause-fault t c =
    let arm = c.in-If in
    let test = expr_view arm.test in
    let first = stmt_view c.deref-in-Some.result.now in
    let other = stmt_view c.deref-in-Some-2.result.now in
    let e : stmt_view c.args.stmt.now ≡ ParsedIfElse arm.place test first other =
    ap stmt_view (arm.is ∙ ap (λ o. If arm.place arm.test arm.first o) c.in-Some.is)
    ∙ (ap (λ x. ParsedIfElse arm.place test (stmt_view x) (stmt_view c.in-Some.other.value)) (sym c.deref-in-Some.ensures)
    ∙ ap (λ x. ParsedIfElse arm.place test first (stmt_view x)) (sym c.deref-in-Some-2.ensures)) in
    found_at _ _ (λ p. ParsedIfElse p test first other) arm.place (allowed_view c.args.functions.now c.args.may) (site c.args.scopes.now) e c.choice_fault.ensures.fault

pub statement_fault-returns-in-None-clause-fault : goal.statement_fault-returns-in-None-clause-fault
statement_fault-returns-in-None-clause-fault t c =
    let arm = c.in-If in
    let test = expr_view arm.test in
    let first = stmt_view c.deref-in-None.result.now in
    let e : stmt_view c.args.stmt.now ≡ ParsedIf arm.place test first =
    ap stmt_view (arm.is ∙ ap (λ o. If arm.place arm.test arm.first o) c.in-None.is) ∙ ap (λ x. ParsedIf arm.place test (stmt_view x)) (sym c.deref-in-None.ensures) in
    found_as _ _ (ParsedIf arm.place test first) e (allowed_view c.args.functions.now c.args.may) (site c.args.scopes.now) c.tested_fault.ensures.fault

pub statement_fault-returns-in-While-clause-fault : goal.statement_fault-returns-in-While-clause-fault
statement_fault-returns-in-While-clause-fault t c =
    let functions = c.args.functions.now in
    let test = expr_view c.in-While.test in
    let body = stmt_view c.deref-in-While.result.now in
    let may = allowed_view functions c.args.may in
    let inside = allowed_view functions c.in_loop.result in
    elim c.in-While.is [
      | inl w ↦
          let e : stmt_view c.args.stmt.now ≡ ParsedWhile w.0 test body = ap stmt_view w.1 ∙ ap (λ x. ParsedWhile w.0 test (stmt_view x)) (sym c.deref-in-While.ensures) in
          while_found _ _ w.0 test body may inside (site c.args.scopes.now) (c.in_loop.ensures functions) c.tested_fault-in-While.ensures.fault e
      | inr w ↦
          let e : stmt_view c.args.stmt.now ≡ ParsedDo body w.0 test = ap stmt_view w.1 ∙ ap (λ x. ParsedDo (stmt_view x) w.0 test) (sym c.deref-in-While.ensures) in
          do_found _ _ w.0 test body may inside (site c.args.scopes.now) (c.in_loop.ensures functions) c.tested_fault-in-While.ensures.fault e
    ]

pub statement_fault-returns-in-For-clause-fault : goal.statement_fault-returns-in-For-clause-fault
statement_fault-returns-in-For-clause-fault t c =
    let p = c.in-For.place in
    let test = option_map expr_view c.in-For.test in
    let start = stmt_view c.deref-in-For.result.now in
    let update = stmt_view c.deref-in-For-2.result.now in
    let body = stmt_view c.deref-in-For-3.result.now in
    let e : stmt_view c.args.stmt.now ≡ ParsedFor p start test update body =
    ap stmt_view c.in-For.is
    ∙ (ap (λ x. ParsedFor p (stmt_view x) test (stmt_view c.in-For.update.value) (stmt_view c.in-For.body.value)) (sym c.deref-in-For.ensures)
    ∙ (ap (λ x. ParsedFor p start test (stmt_view x) (stmt_view c.in-For.body.value)) (sym c.deref-in-For-2.ensures)
    ∙ ap (λ x. ParsedFor p start test update (stmt_view x)) (sym c.deref-in-For-3.ensures))) in
    found_at _ _ (λ q. ParsedFor q start test update body) p (allowed_view c.args.functions.now c.args.may) (site c.args.scopes.now) e c.for_fault.ensures.fault

pub statement_fault-returns-in-ForEach-clause-fault : goal.statement_fault-returns-in-ForEach-clause-fault
statement_fault-returns-in-ForEach-clause-fault t c =
    let p = c.in-ForEach.place in
    let is_tiled = c.in-ForEach.is_tiled in
    let dims = map dim_view c.deref-in-ForEach-2.result.now in
    let body = stmt_view c.deref-in-ForEach.result.now in
    let e : stmt_view c.args.stmt.now ≡ ParsedForEach p is_tiled dims body =
    ap stmt_view c.in-ForEach.is
    ∙ (ap (λ x. ParsedForEach p is_tiled (map dim_view c.in-ForEach.dims.items) (stmt_view x)) (sym c.deref-in-ForEach.ensures)
    ∙ ap (λ x. ParsedForEach p is_tiled (map dim_view x) body) (sym c.deref-in-ForEach-2.ensures.value)) in
    found_at _ _ (λ b. ParsedForEach p b dims body) is_tiled (allowed_view c.args.functions.now c.args.may) (site c.args.scopes.now) e c.domain_fault.ensures.fault

pub statement_fault-returns-in_ok-rounds_fault-in-ForEachUnique-clause-fault : goal.statement_fault-returns-in_ok-rounds_fault-in-ForEachUnique-clause-fault
statement_fault-returns-in_ok-rounds_fault-in-ForEachUnique-clause-fault t c =
    let may = allowed_view c.args.functions.now c.args.may in
    let s = c.args.scopes.now in
    let p = c.in-ForEachUnique.place in
    let at = c.in-ForEachUnique.name_place in
    let name = c.in-ForEachUnique.name.items in
    let e = expr_view c.in-ForEachUnique.value in
    for_each_unique_found s p at name c.deref-in-ForEachUnique-2.result.now e (stmt_view c.deref-in-ForEachUnique.result.now) may _ _ _
    c.expression_fault-in-ForEachUnique.ensures c.deref-in-ForEachUnique-2.ensures.value c.in_ok-rounds_fault-in-ForEachUnique.ensures.fault c.least-in-ForEachUnique.ensures
    ∙ (ap (λ x. least_fault (stmt_names (ParsedForEachUnique p at name e (stmt_view x)) may (site s))) c.deref-in-ForEachUnique.ensures
    ∙ sym (ap (λ x. least_fault (stmt_names (stmt_view x) may (site s))) c.in-ForEachUnique.is))

pub statement_fault-returns-in_ok-segments_fault-in-Switch-clause-fault : goal.statement_fault-returns-in_ok-segments_fault-in-Switch-clause-fault
statement_fault-returns-in_ok-segments_fault-in-Switch-clause-fault t c =
    let functions = c.args.functions.now in
    let may = allowed_view functions c.args.may in
    let s = c.args.scopes.now in
    let p = c.in-Switch.place in
    let e = expr_view c.in-Switch.selector in
    let segments = segments_view c.deref-in-Switch.result.now in
    let is : stmt_view c.args.stmt.now ≡ ParsedSwitch p e segments =
    ap stmt_view c.in-Switch.is ∙ (view_switch p c.in-Switch.selector c.in-Switch.segments ∙ ap (λ xs. ParsedSwitch p e (segments_view xs)) (sym c.deref-in-Switch.ensures.value)) in
    switch_found s p e segments may (allowed_view functions c.in_switch.result) _ _ _
    c.expression_fault.ensures (c.in_switch.ensures functions) c.in_ok-segments_fault-in-Switch.ensures.fault c.least.ensures
    ∙ sym (ap (λ x. least_fault (stmt_names x may (site s))) is)

pub statement_fault-returns-in_ok-segments_fault-in-Switch-clause-after : goal.statement_fault-returns-in_ok-segments_fault-in-Switch-clause-after
statement_fault-returns-in_ok-segments_fault-in-Switch-clause-after t c =
    let p = c.in-Switch.place in
    let e = expr_view c.in-Switch.selector in
    let segments = segments_view c.deref-in-Switch.result.now in
    let is : stmt_view c.args.stmt.now ≡ ParsedSwitch p e segments =
    ap stmt_view c.in-Switch.is ∙ (view_switch p c.in-Switch.selector c.in-Switch.segments ∙ ap (λ xs. ParsedSwitch p e (segments_view xs)) (sym c.deref-in-Switch.ensures.value)) in
    ap site c.in_ok-segments_fault-in-Switch.ensures.after ∙ sym (ap (λ x. after x (site c.args.scopes.now)) is)
