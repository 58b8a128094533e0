use Rattle.std.proofs.Common.{rules, ◌≡◌, ◌+◌, ◌-◌, ◌<◌, ◌∙◌, refl, sym, ap, subst, arith, [], ◌∷◌, drop, length}
use Rattle.std.specs.Prelude.{IfOk, Some, reverse}
use Rattle.std.proofs.lemmas.List.{drop_all, reverse-append}
use Rattle.std.proofs.lemmas.Result.{IfOk-weaker}
use Rattle.gang_model.specs.Types.Tree.{Empty, Switch, Segment}
use Rattle.gang_model.specs.Running.Step.{steps_of}
use Rattle.mask_states.specs.Points as points
use Rattle.typed_tree.specs.declared.statements.Stmt.{the_lemmas}
use Rattle.typed_tree.specs.Views.{boxed_view, expr_view, rounds_view, segments_view, stmt_view, stmts_view}
use Rattle.mask_states.specs.Points.{before_step, body_ways, update_ways, round_ways}
use Rattle.mask_lowering.specs.Lowering.{Lowered, ways_view}
use Rattle.typed_tree.proofs.StatementRows.{segments_from, switch_is}
use Rattle.mask_lowering.proofs.Rows.{block_is, segment_steps_from, segment_steps_within, stmts_from, steps_from, steps_within}
use Rattle.mask_lowering.proofs.Forms.{LoweredSegments, lowered_as, lowered_body_first, lowered_empty, lowered_for_each, lowered_if, lowered_loop, lowered_no_segment, lowered_segment, lowered_segments, lowered_switch, lowered_then}
use Rattle.mask_lowering.proofs.lowering.+statement.Goals as goal

pub lower_statement-lower_statements-requires : goal.lower_statement-lower_statements-requires
lower_statement-lower_statements-requires t c =
    let e = ap steps_of (block_is c.args.statement.now c.in-Block.statements c.deref.result.now c.in-Block.is c.deref.ensures.value) in
    (search (rules, the_lemmas), omega (arith, e, c.requires))

pub lower_statement-returns-in-Block : goal.lower_statement-returns-in-Block
lower_statement-returns-in-Block t c =
    let e = block_is c.args.statement.now c.in-Block.statements c.deref.result.now c.in-Block.is c.deref.ensures.value in
    subst (λ s. IfOk c.lower_statements.result (λ entry. Lowered c.args.steps c.args.points.now.items c.lower_statements.new.points.items s (ways_view c.args.ways) entry)) (sym e)
    c.lower_statements.ensures

pub lower_loop-returns : goal.lower_loop-returns
lower_loop-returns t c =
    let later = lowered_as c.args.steps c.put.new.points.items c.lower_statement.new.points.items (stmt_view c.args.update.now) (stmt_view c.args.update.now)
    (ways_view c.of_update.result) (update_ways c.args.step (ways_view c.args.ways)) c.in_ok-again.again refl c.of_update.ensures c.in_ok-again.ensures in
    let sooner = lowered_as c.args.steps c.lower_statement.new.points.items c.lower_statement-2.new.points.items (stmt_view c.args.body.now) (stmt_view c.args.body.now)
    (ways_view c.of_body.result) (body_ways c.in_ok-again.again (ways_view c.args.ways)) c.in_ok-yes.yes refl c.of_body.ensures c.in_ok-yes.ensures in
    lowered_loop c.args.steps c.args.points.now.items c.put.new.points.items c.lower_statement.new.points.items c.lower_statement-2.new.points.items
    c.args.step (expr_view c.args.test.now) (stmt_view c.args.update.now) (stmt_view c.args.body.now) (ways_view c.args.ways) c.len-place.result
    c.in_ok-again.again c.in_ok-yes.yes _ _ (c.len-place.ensures ∙ c.args.points.now.ok.0) c.in_ok-put.ensures later sooner refl

pub lower_statement-returns-in_ok-put-in-If : goal.lower_statement-returns-in_ok-put-in-If
lower_statement-returns-in_ok-put-in-If t c =
    let later = lowered_as c.args.steps c.args.points.now.items c.lower_statement-in-If.new.points.items (stmt_view c.deref-in-If.result.now) (stmt_view c.in-If.other.value)
    (ways_view c.args.ways) (ways_view c.args.ways) c.in_ok-no-in-If.no (ap stmt_view c.deref-in-If.ensures) refl c.in_ok-no-in-If.ensures in
    let sooner = lowered_as c.args.steps c.lower_statement-in-If.new.points.items c.lower_statement-in-If-2.new.points.items (stmt_view c.deref-in-If-2.result.now) (stmt_view c.in-If.first.value)
    (ways_view c.args.ways) (ways_view c.args.ways) c.in_ok-yes-in-If.yes (ap stmt_view c.deref-in-If-2.ensures) refl c.in_ok-yes-in-If.ensures in
    lowered_if c.args.steps c.args.points.now.items c.lower_statement-in-If.new.points.items c.lower_statement-in-If-2.new.points.items c.put.new.points.items
    (stmt_view c.args.statement.now) c.in-If.step (boxed_view c.in-If.test) (stmt_view c.in-If.first.value) (stmt_view c.in-If.other.value) (ways_view c.args.ways)
    c.in_ok-no-in-If.no c.in_ok-yes-in-If.yes _ (ap stmt_view c.in-If.is) later sooner c.in_ok-put-in-If.ensures
    (ap (λ e. points.Branch (expr_view e) c.in_ok-yes-in-If.yes c.in_ok-no-in-If.no) c.deref-in-If-3.ensures)

pub lower_statement-returns-in_ok-yes-in-BodyFirst :
    goal.lower_statement-returns-in_ok-yes-in-BodyFirst
lower_statement-returns-in_ok-yes-in-BodyFirst t c =
    let inner = lowered_as c.args.steps c.put-in-BodyFirst.new.points.items c.lower_statement-in-BodyFirst.new.points.items (stmt_view c.deref-in-BodyFirst.result.now) (stmt_view c.in-BodyFirst.body.value)
    (ways_view c.of_body.result) (body_ways c.in-BodyFirst.step (ways_view c.args.ways)) c.in_ok-yes-in-BodyFirst.yes (ap stmt_view c.deref-in-BodyFirst.ensures) c.of_body.ensures
    c.in_ok-yes-in-BodyFirst.ensures in
    lowered_body_first c.args.steps c.args.points.now.items c.put-in-BodyFirst.new.points.items c.lower_statement-in-BodyFirst.new.points.items
    (stmt_view c.args.statement.now) c.in-BodyFirst.step (boxed_view c.in-BodyFirst.test) (stmt_view c.in-BodyFirst.body.value) (ways_view c.args.ways) c.len-place.result
    c.in_ok-yes-in-BodyFirst.yes _ _
    (ap stmt_view c.in-BodyFirst.is) (c.len-place.ensures ∙ c.args.points.now.ok.0) c.in_ok-put-in-BodyFirst.ensures inner
    (ap (λ e. points.Branch (expr_view e) c.in_ok-yes-in-BodyFirst.yes c.args.ways.next) c.deref-in-BodyFirst-2.ensures)

pub lower_for_each-returns : goal.lower_for_each-returns
lower_for_each-returns t c =
    let n = c.len-place.result in
    let rounds = c.args.steps - 1 - n in
    let inner = lowered_as c.args.steps c.put.new.points.items c.lower_statement.new.points.items (stmt_view c.args.body.now) (stmt_view c.args.body.now)
    (ways_view c.of_round.result) (round_ways rounds) c.in_ok-body.body refl c.of_round.ensures c.in_ok-body.ensures in
    lowered_for_each c.args.steps c.args.points.now.items c.put.new.points.items c.lower_statement.new.points.items _ c.put-2.new.points.items
    c.args.step (rounds_view c.args.form.now) (stmt_view c.args.body.now) (ways_view c.args.ways) n rounds c.in_ok-body.body _ _ _
    (c.len-place.ensures ∙ c.args.points.now.ok.0) refl c.in_ok-put.ensures inner refl refl c.in_ok-put-2.ensures refl

pub lower_statement-returns-in_default : goal.lower_statement-returns-in_default
lower_statement-returns-in_default t c = IfOk-weaker c.lower_step.result _ _ (λ entry made. made c.args.steps) c.lower_step.ensures

pub lower_statements-loop-i-init : goal.lower_statements-loop-i-init
lower_statements-loop-i-init t c =
    subst (λ items. Lowered c.args.steps c.args.points.now.items c.args.points.now.items (stmts_view items) (ways_view c.args.ways) c.args.ways.next)
    (sym (drop_all (length c.args.statements.now) c.args.statements.now (omega arith))) (lowered_empty c.args.steps c.args.points.now.items (ways_view c.args.ways))

pub lower_statements-lower_statement-requires : goal.lower_statements-lower_statement-requires
lower_statements-lower_statement-requires t c =
    let items = c.args.statements.now in
    let i = c.loop-i.i - 1 in
    let below : i < length items = omega (arith, c.loop-i.auto.i, c.loop-i-test.true) in
    let next : i + 1 ≡ c.loop-i.i = omega (arith, c.loop-i-test.true) in
    let e = steps_from items i c.index-statements-i.result below c.index-statements-i.is ∙ ap (λ j. steps_of (stmt_view c.index-statements-i.result) + steps_of (stmts_view (drop j items))) next in
    let counted = c.loop-i.invariant.counted in
    (search (rules, the_lemmas), omega (arith, e, counted, steps_within items i, c.requires))

pub lower_statements-loop-i-preserved : goal.lower_statements-loop-i-preserved
lower_statements-loop-i-preserved t c =
    let items = c.args.statements.now in
    let i = c.loop-i.i - 1 in
    let below : i < length items = omega (arith, c.loop-i.auto.i, c.loop-i-test.true) in
    let next : i + 1 ≡ c.loop-i.i = omega (arith, c.loop-i-test.true) in
    let later = subst (λ j. Lowered c.args.steps c.args.points.now.items c.loop-i.points.items (stmts_view (drop j items)) (ways_view c.args.ways) c.loop-i.next) (sym next) c.loop-i.invariant in
    subst (λ s. Lowered c.args.steps c.args.points.now.items c.lower_statement.new.points.items s (ways_view c.args.ways) c.in_ok-next.next)
    (sym (stmts_from items i c.index-statements-i.result below c.index-statements-i.is))
    (lowered_then c.args.steps c.args.points.now.items c.loop-i.points.items c.lower_statement.new.points.items (stmt_view c.index-statements-i.result) (stmts_view (drop (i + 1) items))
    (ways_view c.args.ways) c.loop-i.next c.in_ok-next.next later
    (lowered_as c.args.steps c.loop-i.points.items c.lower_statement.new.points.items (stmt_view c.index-statements-i.result) (stmt_view c.index-statements-i.result)
    (ways_view c.before_step.result) _ c.in_ok-next.next refl c.before_step.ensures c.in_ok-next.ensures))

pub lower_statements-returns : goal.lower_statements-returns
lower_statements-returns t c =
    let start : c.loop-i.i ≡ 0 = omega (arith, c.loop-i-test.false) in
    subst (λ j. Lowered c.args.steps c.args.points.now.items c.loop-i.points.items (stmts_view (drop j c.args.statements.now)) (ways_view c.args.ways) c.loop-i.next) start c.loop-i.invariant

pub lower_statement-lower_switch-requires : goal.lower_statement-lower_switch-requires
lower_statement-lower_switch-requires t c =
    let e =
    ap steps_of (switch_is c.args.statement.now c.in-Switch.step c.in-Switch.selector c.in-Switch.segments c.deref-in-Switch.result.now c.in-Switch.is c.deref-in-Switch.ensures.value) in
    (search (rules, the_lemmas), omega (arith, e, c.requires))

pub lower_statement-returns-in-Switch : goal.lower_statement-returns-in-Switch
lower_statement-returns-in-Switch t c =
    let form = switch_is c.args.statement.now c.in-Switch.step c.in-Switch.selector c.in-Switch.segments c.deref-in-Switch.result.now c.in-Switch.is c.deref-in-Switch.ensures.value in
    let is = ap (λ e. Switch c.in-Switch.step (expr_view e) (segments_view c.deref-in-Switch.result.now)) c.deref-in-Switch-2.ensures ∙ sym form in
    subst (λ s. IfOk c.lower_switch.result (Lowered c.args.steps c.args.points.now.items c.lower_switch.new.points.items s (ways_view c.args.ways))) is c.lower_switch.ensures

pub lower_switch-loop-i-init : goal.lower_switch-loop-i-init
lower_switch-loop-i-init t c =
    let none = ap segments_view (drop_all (length c.args.segments.now) c.args.segments.now (omega arith)) in
    let old = c.args.points.now.items in
    let ways = ways_view c.of_segments-inner.result in
    let next = ap (λ (ways : points.Ways). ways.next) (sym c.of_segments-inner.ensures) in
    subst (λ s. Lowered c.args.steps old old s ways c.args.ways.next × LoweredSegments c.args.steps old old s ways (reverse c.in_ok-entries.entries.items)) (sym none) (
      subst (Lowered c.args.steps old old Empty ways) (sym next) (lowered_empty c.args.steps old ways),
      subst (λ entries. LoweredSegments c.args.steps old old Empty ways (reverse entries)) (sym c.in_ok-entries.ensures.items) (lowered_no_segment c.args.steps old ways),
    )

pub lower_switch-lower_statements-requires : goal.lower_switch-lower_statements-requires
lower_switch-lower_statements-requires t c =
    let items = c.args.segments.now in
    let i = c.loop-i.i - 1 in
    let below : i < length items = omega (arith, c.loop-i.auto.i, c.loop-i-test.true) in
    let next : i + 1 ≡ c.loop-i.i = omega (arith, c.loop-i-test.true) in
    let body = ap (λ body. steps_of (stmts_view body)) (c.deref.ensures.value ∙ ap (λ s. s.body.items) (sym c.index-segments-i.is)) in
    let e = segment_steps_from items i c.index-segments-i.result below c.index-segments-i.is ∙ ap (λ j. steps_of (stmts_view c.index-segments-i.result.body.items) + steps_of (segments_view (drop j items))) next in
    let counted = c.loop-i.invariant.0.counted in
    (search (rules, the_lemmas), omega (arith, body, e, counted, segment_steps_within items i, c.requires))

pub lower_switch-loop-i-preserved : goal.lower_switch-loop-i-preserved
lower_switch-loop-i-preserved t c =
    let items = c.args.segments.now in
    let steps = c.args.steps in
    let old = c.args.points.now.items in
    let mid = c.loop-i.points.items in
    let new = c.lower_statements.new.points.items in
    let ways = ways_view c.of_segments-inner.result in
    let segment = c.index-segments-i.result in
    let entries = reverse c.loop-i.entries.items in
    let i = c.loop-i.i - 1 in
    let below : i < length items = omega (arith, c.loop-i.auto.i, c.loop-i-test.true) in
    let next : i + 1 ≡ c.loop-i.i = omega (arith, c.loop-i-test.true) in
    let rest = segments_view (drop (i + 1) items) in
    let later = subst (λ j. Lowered steps old mid (segments_view (drop j items)) ways c.loop-i.begin) (sym next) c.loop-i.invariant.0 in
    let begun = subst (λ j. LoweredSegments steps old mid (segments_view (drop j items)) ways entries) (sym next) c.loop-i.invariant.1 in
    let sooner = lowered_as steps mid new (stmts_view c.deref.result.now) (stmts_view segment.body.items) (ways_view c.before_step.result) (before_step c.loop-i.begin ways) c.in_ok-begin.begin
    (ap stmts_view (c.deref.ensures.value ∙ ap (λ s. s.body.items) (sym c.index-segments-i.is))) c.before_step.ensures c.in_ok-begin.ensures in
    let turned : reverse c.push.new.self.items ≡ c.in_ok-begin.begin ∷ entries = ap reverse c.in_ok-push.ensures.items ∙ reverse-append c.loop-i.entries.items (c.in_ok-begin.begin ∷ []) in
    subst (λ s. Lowered steps old new s ways c.in_ok-begin.begin × LoweredSegments steps old new s ways (reverse c.push.new.self.items)) (sym (segments_from items i segment below c.index-segments-i.is)) (
      lowered_segment steps old mid new segment.label (stmts_view segment.body.items) rest ways c.loop-i.begin c.in_ok-begin.begin later sooner,
      subst (LoweredSegments steps old new (Segment segment.label (stmts_view segment.body.items) rest) ways) (sym turned)
          (lowered_segments steps old mid new segment.label (stmts_view segment.body.items) rest ways c.loop-i.begin c.in_ok-begin.begin entries later sooner begun),
    )

pub lower_switch-returns : goal.lower_switch-returns
lower_switch-returns t c =
    let start : c.loop-i.i ≡ 0 = omega (arith, c.loop-i-test.false) in
    let steps = c.args.steps in
    let old = c.args.points.now.items in
    let mid = c.loop-i.points.items in
    let segments = segments_view c.args.segments.now in
    let ways = ways_view c.args.ways in
    let all = subst (λ j. LoweredSegments steps old mid (segments_view (drop j c.args.segments.now)) (ways_view c.of_segments-inner.result) (reverse c.loop-i.entries.items)) start c.loop-i.invariant.1 in
    let inner = subst (λ inner. LoweredSegments steps old mid segments inner (reverse c.loop-i.entries.items)) c.of_segments-inner.ensures all in
    let begun = subst (LoweredSegments steps old mid segments (record ways { on_break = Some ways.next })) (sym c.reverse.ensures.items) inner in
    lowered_switch steps old mid c.put.new.points.items c.args.step (expr_view c.args.selector.now) segments ways c.reverse.new.self.items _ begun c.in_ok-put.ensures refl
