use Rattle.std.proofs.Common.{◌∙◌, ◌+◌, ◌∷◌, drop, sym, ap}
use Rattle.std.proofs.lemmas.List.{drop_more}
use Rattle.std.proofs.lemmas.Result.{err_from_is_err_and}
use Rattle.source_tree.specs.declared.tree.Stmt.{If}
use Rattle.source_limits.proofs.StmtRooms.{in_block, in_if, in_for, in_switch, in_for_each, next_room, stop_room, next_segment, stop_segment}
use Rattle.source_limits.proofs.room.+statement.Goals as goal

pub after_statement-returns-in-Block : goal.after_statement-returns-in-Block
after_statement-returns-in-Block t c = in_block c.args.stmt.now c.in-Block.stmts c.deref.result.now c.args.room c.after_statements.result c.in-Block.is c.deref.ensures.value c.after_statements.ensures

pub after_statement-returns-in-Some : goal.after_statement-returns-in-Some
after_statement-returns-in-Some t c =
    in_if c.args.stmt.now c.deref-in-If.result.now c.deref-in-Some.result.now c.in-If.place c.in-If.test c.in-If.first c.in-Some.other c.args.room c.in_ok-room-in-If.room
    c.after_statement-in-Some.result (c.in-If.is ∙ ap (λ other. If c.in-If.place c.in-If.test c.in-If.first other) c.in-Some.is) c.deref-in-If.ensures c.deref-in-Some.ensures c.in_ok-room-in-If.ensures c.after_statement-in-Some.ensures

pub after_statement-returns-in_ok-room-in-For-2 : goal.after_statement-returns-in_ok-room-in-For-2
after_statement-returns-in_ok-room-in-For-2 t c =
    in_for c.args.stmt.now c.deref-in-For.result.now c.deref-in-For-2.result.now c.deref-in-For-3.result.now c.in-For.place c.in-For.test c.in-For.start c.in-For.update c.in-For.body c.args.room
    c.in_ok-room-in-For.room c.in_ok-room-in-For-2.room c.after_statement-in-For-3.result c.in-For.is c.deref-in-For.ensures c.deref-in-For-2.ensures c.deref-in-For-3.ensures
    c.in_ok-room-in-For.ensures c.in_ok-room-in-For-2.ensures c.after_statement-in-For-3.ensures

pub after_statement-returns-in_ok-room-in-ForEach : goal.after_statement-returns-in_ok-room-in-ForEach
after_statement-returns-in_ok-room-in-ForEach t c =
    in_for_each c.args.stmt.now c.deref-in-ForEach-2.result.now c.in-ForEach.place c.in-ForEach.is_tiled c.in-ForEach.dims c.deref-in-ForEach.result.now c.in-ForEach.body c.args.room
    c.in_ok-room-in-ForEach.room c.after_statement-in-ForEach.result c.in-ForEach.is c.deref-in-ForEach.ensures.value c.deref-in-ForEach-2.ensures c.in_ok-room-in-ForEach.ensures
    c.after_statement-in-ForEach.ensures

pub after_statements-returns-in_err-room : goal.after_statements-returns-in_err-room
after_statements-returns-in_err-room t c =
    let items = c.args.stmts.now in
    let i = c.loop-stmt.stmt-index in
    let p = err_from_is_err_and c.from_residual.result c.from_residual.ensures.1 in
    rw (p.1, p.2)
    (stop_room (drop i items) (drop (i + 1) items) c.stmt-item.result c.loop-stmt.room c.in_err-room.field-0.0
    (drop_more items i c.stmt-item.result c.loop-stmt-test.true ∙ ap (λ x. x ∷ drop (i + 1) items) (sym c.stmt-item.is)) c.in_err-room.ensures
    ∙ sym c.loop-stmt.invariant)

pub after_statements-loop-stmt-preserved : goal.after_statements-loop-stmt-preserved
after_statements-loop-stmt-preserved t c =
    let items = c.args.stmts.now in
    let i = c.loop-stmt.stmt-index in
    c.loop-stmt.invariant
    ∙ next_room (drop i items) (drop (i + 1) items) c.stmt-item.result c.loop-stmt.room c.in_ok-room.room
    (drop_more items i c.stmt-item.result c.loop-stmt-test.true ∙ ap (λ x. x ∷ drop (i + 1) items) (sym c.stmt-item.is)) c.in_ok-room.ensures

pub after_statement-returns-in-Switch : goal.after_statement-returns-in-Switch
after_statement-returns-in-Switch t c =
    in_switch c.args.stmt.now c.in-Switch.place c.in-Switch.selector c.in-Switch.segments c.deref-in-Switch.result.now c.args.room c.after_segments.result c.in-Switch.is c.deref-in-Switch.ensures.value
    c.after_segments.ensures

pub after_segments-returns-in_err-room : goal.after_segments-returns-in_err-room
after_segments-returns-in_err-room t c =
    let items = c.args.segments.now in
    let i = c.loop-segment.segment-index in
    let p = err_from_is_err_and c.from_residual.result c.from_residual.ensures.1 in
    rw (p.1, p.2)
    (stop_segment (drop i items) (drop (i + 1) items) c.segment-item.result c.deref.result.now c.loop-segment.room c.in_err-room.field-0.0
    (drop_more items i c.segment-item.result c.loop-segment-test.true ∙ ap (λ x. x ∷ drop (i + 1) items) (sym c.segment-item.is)) c.deref.ensures.value c.in_err-room.ensures
    ∙ sym c.loop-segment.invariant)

pub after_segments-loop-segment-preserved : goal.after_segments-loop-segment-preserved
after_segments-loop-segment-preserved t c =
    let items = c.args.segments.now in
    let i = c.loop-segment.segment-index in
    c.loop-segment.invariant
    ∙ next_segment (drop i items) (drop (i + 1) items) c.segment-item.result c.deref.result.now c.loop-segment.room c.in_ok-room.room
    (drop_more items i c.segment-item.result c.loop-segment-test.true ∙ ap (λ x. x ∷ drop (i + 1) items) (sym c.segment-item.is)) c.deref.ensures.value c.in_ok-room.ensures
