use Rattle.std.proofs.Common.{◌≡◌, ◌∙◌, ◌+◌, ap, drop, length, map, refl, sym}
use Rattle.std.proofs.lemmas.List.{drop_all, length-map}
use Rattle.std.proofs.lemmas.Result.{IfOk-weaker}
use Rattle.std.specs.Prelude.{Ok, option_map}
use Rattle.gang_types.specs.declared.places.VarId.TheVariants.{Local}
use Rattle.gang_types.specs.declared.types.IntType.TheVariants as int_type
use Rattle.gang_types.specs.declared.types.Rate.TheVariants.{Uniform}
use Rattle.source_tree.specs.Expressions.{expr_view}
use Rattle.gang_model.specs.Source.Judged.{both_answers}
use Rattle.gang_model.specs.Names.Scope.{locals_in}
use Rattle.gang_model.specs.Source.Parsed.{ParsedBlock, ParsedIf, ParsedIfElse, ParsedWhile, ParsedDo, ParsedFor, ParsedSwitch, ParsedSegment, ParsedForEach, ParsedForEachActive, ParsedForEachUnique}
use Rattle.gang_model.specs.Types.Typing.{index_entry}
use Rattle.gang_model.proofs.WalkedLists.{next_item}
use Rattle.source_tree.specs.declared.tree.Stmt.{If}
use Rattle.source_tree.specs.Tree as parsed
use Rattle.source_tree.proofs.StatementRows.{view_block, view_switch}
use Rattle.typed_tree.specs.Views as typed
use Rattle.type_check_values.specs.Views.{typed_view}
use Rattle.type_check_scopes.specs.Entries.{declared_view}
use Rattle.type_check_calls.specs.Calls.{context_view}
use Rattle.type_check_statement_parts.specs.Sequences.{type_or_int32}
use Rattle.source_answers.specs.Apart.{seen}
use Rattle.type_check_parts.proofs.Named.{index-named}
use Rattle.type_check_statement_parts.proofs.SingleSteps.{typed-form, steps-form, counted-as, ends-at, in-any-case}
use Rattle.type_check_statement_parts.proofs.Switches.{segments-none, segments-next, segments-typed, segments-numbered, switched}
use Rattle.type_check_statements.proofs.InSequence.{begun-none, begun-next, begun-all, whole-typed, typed-block}
use Rattle.type_check_statements.proofs.Compound.{if-only, if-else, while-loop, do-loop, for-loop, for-each, in-rounds, for-each-active, for-each-unique}
use Rattle.type_check_statements.proofs.ScopeSteps.{extends-after, extends-indices, extends-one, extends-same, extends-next, extends-marked, extends-left}
use Rattle.type_check_statements.proofs.statements.+statement.Goals as goal

-- ---- statements that are scopes of their own

pub inner-leave-requires : goal.inner-leave-requires
inner-leave-requires t c =
    let before = c.args.scope.now in
    let after = c.statement.new.scope in
    extends-marked before.entries after.entries c.mark-mark.result.declared c.mark-mark.ensures
    (extends-after (parsed.stmt_view c.args.stmt.now) before.entries after.entries (length before.locals) c.in_ok-answer.ensures.after)

pub inner-returns-clause-after : goal.inner-returns-clause-after
inner-returns-clause-after t c =
    let before = c.args.scope.now in
    let after = c.statement.new.scope in
    extends-left before.entries after.entries c.leave.new.self.entries c.mark-mark.result.declared c.mark-mark.ensures
    (extends-after (parsed.stmt_view c.args.stmt.now) before.entries after.entries (length before.locals) c.in_ok-answer.ensures.after) c.leave.ensures.entries

pub inner-returns-clause-typed : goal.inner-returns-clause-typed
inner-returns-clause-typed t c =
    let before = c.args.scope.now in
    ends-at c.in_ok-answer.answer _ before.locals c.statement.new.scope.locals c.leave.new.self.locals _ c.leave.ensures.locals c.in_ok-answer.ensures.typed

-- ---- `if`

pub if_only-returns-clause-typed : goal.if_only-returns-clause-typed
if_only-returns-clause-typed t c =
    let scope = c.args.scope.now in
    let e = expr_view c.args.test.now in
    IfOk-weaker c.conditional.result _ _ (λ answer form p.
    if-only p e (parsed.stmt_view c.args.first.now) (context_view c.args.context.now) scope.entries scope.entries scope.locals c.inner.new.scope.locals c.args.step.now _
    c.in_ok-test.test c.in_ok-first.first answer c.both_answers.result
    c.in_ok-test.ensures.test
    c.in_ok-first.ensures.typed refl c.in_ok-test.ensures.steps c.both_answers.ensures form)
    c.conditional.ensures.form

pub if_else-returns-clause-typed : goal.if_else-returns-clause-typed
if_else-returns-clause-typed t c =
    let scope = c.args.scope.now in
    let e = expr_view c.args.test.now in
    IfOk-weaker c.choice.result _ _ (λ answer form p.
    if-else p e (parsed.stmt_view c.args.first.now) (parsed.stmt_view c.args.other.now) (context_view c.args.context.now) scope.entries scope.entries c.inner.new.scope.entries
    scope.locals c.inner.new.scope.locals c.inner-2.new.scope.locals c.args.step.now _ _
    c.in_ok-test.test c.in_ok-first.first c.in_ok-other.other answer c.both_answers.result c.both_answers-2.result
    c.in_ok-test.ensures.test
    c.in_ok-first.ensures.typed refl c.in_ok-test.ensures.steps c.in_ok-other.ensures.typed c.in_ok-first.ensures.after c.in_ok-first.ensures.steps
    c.both_answers.ensures c.both_answers-2.ensures form)
    c.choice.ensures.form

-- ---- loops

pub while_loop-returns-clause-typed : goal.while_loop-returns-clause-typed
while_loop-returns-clause-typed t c =
    let scope = c.args.scope.now in
    let e = expr_view c.args.test.now in
    IfOk-weaker c.while_of.result _ _ (λ answer form p.
    while-loop p e (parsed.stmt_view c.args.body.now) (context_view c.args.context.now) scope.entries scope.entries scope.locals c.inner.new.scope.locals c.args.step.now c.inner.new.step
    c.in_ok-test.test c.in_ok-body.body answer (both_answers c.in_ok-test.test c.in_ok-body.body)
    c.in_ok-test.ensures.test c.in_ok-body.ensures.typed refl c.in_ok-body.ensures.steps refl form)
    c.while_of.ensures.form

pub do_loop-returns-clause-typed : goal.do_loop-returns-clause-typed
do_loop-returns-clause-typed t c =
    let scope = c.args.scope.now in
    let entries = c.inner.new.scope.entries in
    let e = expr_view c.args.test.now in
    IfOk-weaker c.body_first.result _ _ (λ answer form p.
    do-loop p e (parsed.stmt_view c.args.body.now) (context_view c.args.context.now) scope.entries entries scope.locals c.inner.new.scope.locals c.args.step.now c.inner.new.step
    c.in_ok-test.test c.in_ok-body.body answer c.both_answers.result c.in_ok-body.ensures.typed
    c.in_ok-test.ensures.test c.in_ok-body.ensures.after c.in_ok-body.ensures.steps c.both_answers.ensures form)
    c.body_first.ensures.form

pub for_loop-returns-clause-typed : goal.for_loop-returns-clause-typed
for_loop-returns-clause-typed t c =
    let scope = c.args.scope.now in
    let entries = c.statement.new.scope.entries in
    let e = option_map expr_view c.args.test.now in
    let start = c.in_ok-start.start in
    let test = c.in_ok-test.test in
    let update = c.in_ok-update.update in
    let body = c.in_ok-body.body in
    IfOk-weaker c.for_of.result _ _ (λ answer form p.
    ends-at answer _ scope.locals c.inner-2.new.scope.locals c.leave.new.self.locals _ c.leave.ensures.locals
    (for-loop p (parsed.stmt_view c.args.start.now) (parsed.stmt_view c.args.update.now) (parsed.stmt_view c.args.body.now) e (context_view c.args.context.now)
    scope.entries entries c.inner.new.scope.entries
    scope.locals c.statement.new.scope.locals c.inner.new.scope.locals c.inner-2.new.scope.locals
    c.args.step.now c.statement.new.step _ _ c.inner.new.step
    test start update body answer (both_answers start test) (both_answers update body) (both_answers (both_answers start test) (both_answers update body))
    c.in_ok-start.ensures.typed c.in_ok-start.ensures.after c.in_ok-start.ensures.steps
    c.in_ok-test.ensures.test refl c.in_ok-at.ensures.number
    c.in_ok-update.ensures.typed c.in_ok-update.ensures.after c.in_ok-update.ensures.steps c.in_ok-body.ensures.typed
    refl refl refl form))
    c.for_of.ensures.form

pub for_loop-leave-requires : goal.for_loop-leave-requires
for_loop-leave-requires t c =
    let scope = c.args.scope.now in
    let begun = c.statement.new.scope in
    let after = c.inner-2.new.scope in
    extends-marked scope.entries after.entries c.mark-mark.result.declared c.mark-mark.ensures
    (extends-next scope.entries begun.entries after.entries
    (extends-after (parsed.stmt_view c.args.start.now) scope.entries begun.entries (length scope.locals) c.in_ok-start.ensures.after)
    (extends-same begun.entries after.entries (c.in_ok-body.ensures.after ∙ c.in_ok-update.ensures.after)))

pub for_loop-returns-clause-after : goal.for_loop-returns-clause-after
for_loop-returns-clause-after t c =
    let scope = c.args.scope.now in
    let begun = c.statement.new.scope in
    let after = c.inner-2.new.scope in
    in-any-case c.for_of.result (extends-left scope.entries after.entries c.leave.new.self.entries c.mark-mark.result.declared c.mark-mark.ensures
    (extends-next scope.entries begun.entries after.entries
    (extends-after (parsed.stmt_view c.args.start.now) scope.entries begun.entries (length scope.locals) c.in_ok-start.ensures.after)
    (extends-same begun.entries after.entries (c.in_ok-body.ensures.after ∙ c.in_ok-update.ensures.after)))
    c.leave.ensures.entries)

-- ---- `foreach` forms

pub for_each-leave-requires : goal.for_each-leave-requires
for_each-leave-requires t c =
    let scope = c.args.scope.now in
    let after = c.inner.new.scope in
    extends-marked scope.entries after.entries c.mark-mark.result.declared c.mark-mark.ensures
    (extends-indices (map parsed.dim_view c.args.dims.now) (length scope.locals) scope.entries after.entries (c.in_ok-body.ensures.after ∙ c.in_ok-dimensions.ensures.entries))

pub for_each-returns-clause-typed : goal.for_each-returns-clause-typed
for_each-returns-clause-typed t c =
    let scope = c.args.scope.now in
    let inside = c.for_each_head.new.scope in
    let dims = map parsed.dim_view c.args.dims.now in
    IfOk-weaker c.for_each_of.result _ _ (λ answer form p.
    ends-at answer _ scope.locals c.inner.new.scope.locals c.leave.new.self.locals _ c.leave.ensures.locals
    (for-each (λ ds. map typed.dimension_view ds.items) p c.args.is_tiled dims (length c.args.dims.now) (parsed.stmt_view c.args.body.now) (context_view c.args.context.now)
    scope.entries inside.entries scope.locals inside.locals c.inner.new.scope.locals c.args.step.now _
    c.in_ok-dimensions.dimensions c.in_ok-body.body answer (both_answers c.in_ok-dimensions.dimensions c.in_ok-body.body)
    (sym (length-map c.args.dims.now parsed.dim_view)) c.in_ok-dimensions.ensures.dimensions
    c.in_ok-dimensions.ensures.entries c.in_ok-dimensions.ensures.locals c.in_ok-dimensions.ensures.steps
    c.in_ok-body.ensures.typed refl form))
    c.for_each_of.ensures.form

pub for_each-returns-clause-after : goal.for_each-returns-clause-after
for_each-returns-clause-after t c =
    let scope = c.args.scope.now in
    let after = c.inner.new.scope in
    in-any-case c.for_each_of.result (extends-left scope.entries after.entries c.leave.new.self.entries c.mark-mark.result.declared c.mark-mark.ensures
    (extends-indices (map parsed.dim_view c.args.dims.now) (length scope.locals) scope.entries after.entries (c.in_ok-body.ensures.after ∙ c.in_ok-dimensions.ensures.entries))
    c.leave.ensures.entries)

pub rounds-leave-requires : goal.rounds-leave-requires
rounds-leave-requires t c =
    let scope = c.args.scope.now in
    let after = c.inner.new.scope in
    extends-marked scope.entries after.entries c.mark-mark.result.declared c.mark-mark.ensures
    (extends-one scope.entries after.entries (declared_view c.args.name.now c.args.index) (c.in_ok-body.ensures.after ∙ c.in_ok-rounds_head.ensures.entries))

pub rounds-returns-clause-typed : goal.rounds-returns-clause-typed
rounds-returns-clause-typed t c =
    let scope = c.args.scope.now in
    let inside = c.rounds_head.new.scope in
    ends-at c.in_ok-body.body _ scope.locals c.inner.new.scope.locals c.leave.new.self.locals _ c.leave.ensures.locals
    (in-rounds (declared_view c.args.name.now c.args.index) (parsed.stmt_view c.args.body.now) (context_view c.args.context.now) scope.entries inside.entries
    scope.locals inside.locals c.inner.new.scope.locals c.args.step.now _ c.in_ok-body.body
    c.in_ok-rounds_head.ensures.entries c.in_ok-rounds_head.ensures.locals c.in_ok-rounds_head.ensures.steps c.in_ok-body.ensures.typed)

pub rounds-returns-clause-after : goal.rounds-returns-clause-after
rounds-returns-clause-after t c =
    let scope = c.args.scope.now in
    let after = c.inner.new.scope in
    extends-left scope.entries after.entries c.leave.new.self.entries c.mark-mark.result.declared c.mark-mark.ensures
    (extends-one scope.entries after.entries (declared_view c.args.name.now c.args.index) (c.in_ok-body.ensures.after ∙ c.in_ok-rounds_head.ensures.entries))
    c.leave.ensures.entries

pub for_each_active-returns-clause-typed : goal.for_each_active-returns-clause-typed
for_each_active-returns-clause-typed t c =
    let scope = c.args.scope.now in
    let name = c.args.name.now in
    let index = c.index_variable-index.result in
    IfOk-weaker c.over_lanes.result _ _ (λ answer form p at.
    for-each-active p at name (parsed.stmt_view c.args.body.now) (context_view c.args.context.now) scope.entries scope.locals c.rounds.new.scope.locals c.args.step.now
    (declared_view name index) (typed.var_view c.variable_of.result) c.in_ok-body.body answer
    (index-named name index _ _ _ c.index_variable-index.ensures ∙ ap (λ k. index_entry name (Local k) int_type.Int64 Uniform) c.next.ensures)
    c.variable_of.ensures c.in_ok-body.ensures.typed form)
    c.over_lanes.ensures.form

pub for_each_unique-returns-clause-typed : goal.for_each_unique-returns-clause-typed
for_each_unique-returns-clause-typed t c =
    let scope = c.args.scope.now in
    let name = c.args.name.now in
    let index = c.index_variable-index.result in
    let e = expr_view c.args.value.now in
    let k = length scope.locals in
    IfOk-weaker c.over_values.result _ _ (λ answer form p at.
    for-each-unique typed_view p at name e (parsed.stmt_view c.args.body.now) (context_view c.args.context.now) scope.entries scope.locals c.rounds.new.scope.locals c.args.step.now
    (declared_view name index) (typed.var_view c.variable_of.result) c.in_ok-value.value c.in_ok-body.body answer
    c.in_ok-value.ensures.value
    (λ x is. index-named name index _ _ _ c.index_variable-index.ensures
    ∙ (ap (λ n. index_entry name (Local n) c.type_of-value_type.result Uniform) c.next.ensures
    ∙ ap (λ ty. index_entry name (Local k) ty Uniform) (c.type_of-value_type.ensures ∙ ap type_or_int32 is)))
    c.variable_of.ensures c.in_ok-body.ensures.typed form)
    c.over_values.ensures.form

-- ---- `switch`

pub switch-returns-clause-typed : goal.switch-returns-clause-typed
switch-returns-clause-typed t c =
    let scope = c.args.scope.now in
    IfOk-weaker c.switch_of.result _ _ (λ answer form p.
    switched typed_view (λ v. typed.segments_view v.items) p (expr_view c.args.selector.now) (parsed.segments_view c.args.segments.now) (context_view c.args.context.now) scope.entries scope.entries
    scope.locals c.typed_segments.new.scope.locals c.args.step.now _ c.type_of.result c.in_ok-value.value c.in_ok-typed.typed answer
    c.in_ok-value.ensures.selector (λ x is. c.type_of.ensures ∙ ap type_or_int32 is) c.in_ok-typed.ensures.typed refl c.in_ok-value.ensures.steps form)
    c.switch_of.ensures.form

pub typed_segments-loop-segment-init : goal.typed_segments-loop-segment-init
typed_segments-loop-segment-init t c =
    let scope = c.args.scope.now in
    segments-none (context_view c.args.context.now) c.args.selector_type (parsed.segments_view c.args.segments.now) _ scope.entries scope.locals c.args.step.now (ap Ok c.new.ensures.items)

pub typed_segments-loop-segment-preserved : goal.typed_segments-loop-segment-preserved
typed_segments-loop-segment-preserved t c =
    let scope = c.args.scope.now in
    let items = c.args.segments.now in
    let i = c.loop-segment.segment-index in
    let here = c.loop-segment.scope in
    let there = c.statements.new.scope in
    let segment = c.segment-item.result in
    segments-next (context_view c.args.context.now) c.args.selector_type (parsed.segments_view items) (parsed.segments_view (drop i items)) (parsed.segments_view (drop (i + 1) items))
    segment.place segment.label (parsed.stmts_view c.deref.result.now) (seen (λ v. v.items) c.loop-segment.typed) _ c.label_word-label.result c.in_ok-body.body
    scope.entries here.entries there.entries scope.locals here.locals there.locals c.args.step.now c.loop-segment.step _
    c.loop-segment.invariant
    (ap parsed.segments_view (next_item items i segment c.loop-segment-test.true c.segment-item.is)
    ∙ ap (λ xs. ParsedSegment segment.place segment.label (parsed.stmts_view xs) (parsed.segments_view (drop (i + 1) items))) (sym c.deref.ensures.value))
    c.label_word-label.ensures c.in_ok-body.ensures.typed c.in_ok-body.ensures.after c.in_ok-body.ensures.steps c.in_ok-typed.ensures.more

pub typed_segments-returns-clause-typed : goal.typed_segments-returns-clause-typed
typed_segments-returns-clause-typed t c =
    let scope = c.args.scope.now in
    let items = c.args.segments.now in
    let i = c.loop-segment.segment-index in
    segments-typed (context_view c.args.context.now) c.args.selector_type (parsed.segments_view items) (parsed.segments_view (drop i items)) c.loop-segment.typed scope.entries c.loop-segment.scope.entries
    scope.locals c.loop-segment.scope.locals c.args.step.now c.loop-segment.step c.loop-segment.invariant (ap parsed.segments_view (drop_all i items c.loop-segment-test.false))

pub typed_segments-returns-clause-steps : goal.typed_segments-returns-clause-steps
typed_segments-returns-clause-steps t c =
    let scope = c.args.scope.now in
    let items = c.args.segments.now in
    let i = c.loop-segment.segment-index in
    segments-numbered (context_view c.args.context.now) c.args.selector_type (parsed.segments_view items) (parsed.segments_view (drop i items)) (seen (λ v. v.items) c.loop-segment.typed) scope.entries c.loop-segment.scope.entries
    scope.locals c.loop-segment.scope.locals c.args.step.now c.loop-segment.step c.loop-segment.invariant (ap parsed.segments_view (drop_all i items c.loop-segment-test.false))

-- ---- statements in order

pub statements-loop-stmt-init : goal.statements-loop-stmt-init
statements-loop-stmt-init t c =
    let scope = c.args.scope.now in
    begun-none (context_view c.args.context.now) (parsed.stmts_view c.args.stmts.now) _ scope.entries scope.locals c.args.step.now (ap Ok c.new.ensures.items)

pub statements-loop-stmt-preserved : goal.statements-loop-stmt-preserved
statements-loop-stmt-preserved t c =
    let scope = c.args.scope.now in
    let items = c.args.stmts.now in
    let i = c.loop-stmt.stmt-index in
    let here = c.loop-stmt.scope in
    let there = c.statement.new.scope in
    begun-next (context_view c.args.context.now) (parsed.stmts_view items) (parsed.stmts_view (drop i items)) (parsed.stmts_view (drop (i + 1) items)) (parsed.stmt_view c.stmt-item.result)
    (seen (λ v. v.items) c.loop-stmt.typed) _ c.in_ok-next.next scope.entries here.entries there.entries scope.locals here.locals there.locals c.args.step.now c.loop-stmt.step _
    c.loop-stmt.invariant (ap parsed.stmts_view (next_item items i c.stmt-item.result c.loop-stmt-test.true c.stmt-item.is))
    c.in_ok-next.ensures.typed c.in_ok-next.ensures.after c.in_ok-next.ensures.steps c.in_ok-typed.ensures.more

pub statements-leave-requires : goal.statements-leave-requires
statements-leave-requires t c =
    let scope = c.args.scope.now in
    let items = c.args.stmts.now in
    let i = c.loop-stmt.stmt-index in
    let whole = begun-all (context_view c.args.context.now) (parsed.stmts_view items) (parsed.stmts_view (drop i items)) (seen (λ v. v.items) c.loop-stmt.typed) scope.entries c.loop-stmt.scope.entries
    scope.locals c.loop-stmt.scope.locals c.args.step.now c.loop-stmt.step c.loop-stmt.invariant (ap parsed.stmts_view (drop_all i items c.loop-stmt-test.false)) in
    extends-marked scope.entries c.loop-stmt.scope.entries c.mark-mark.result.declared c.mark-mark.ensures whole.extends

pub statements-returns-clause-typed : goal.statements-returns-clause-typed
statements-returns-clause-typed t c =
    let scope = c.args.scope.now in
    let items = c.args.stmts.now in
    let i = c.loop-stmt.stmt-index in
    let context = context_view c.args.context.now in
    let whole = begun-all context (parsed.stmts_view items) (parsed.stmts_view (drop i items)) (seen (λ v. v.items) c.loop-stmt.typed) scope.entries c.loop-stmt.scope.entries
    scope.locals c.loop-stmt.scope.locals c.args.step.now c.loop-stmt.step c.loop-stmt.invariant (ap parsed.stmts_view (drop_all i items c.loop-stmt-test.false)) in
    whole-typed context (parsed.stmts_view items) c.loop-stmt.typed scope.entries c.loop-stmt.scope.entries scope.locals c.loop-stmt.scope.locals c.leave.new.self.locals c.args.step.now c.loop-stmt.step whole
    c.leave.ensures.locals

pub statements-returns-clause-after : goal.statements-returns-clause-after
statements-returns-clause-after t c =
    let scope = c.args.scope.now in
    let items = c.args.stmts.now in
    let i = c.loop-stmt.stmt-index in
    let whole = begun-all (context_view c.args.context.now) (parsed.stmts_view items) (parsed.stmts_view (drop i items)) (seen (λ v. v.items) c.loop-stmt.typed) scope.entries c.loop-stmt.scope.entries
    scope.locals c.loop-stmt.scope.locals c.args.step.now c.loop-stmt.step c.loop-stmt.invariant (ap parsed.stmts_view (drop_all i items c.loop-stmt-test.false)) in
    extends-left scope.entries c.loop-stmt.scope.entries c.leave.new.self.entries c.mark-mark.result.declared c.mark-mark.ensures whole.extends c.leave.ensures.entries

pub statements-returns-clause-steps : goal.statements-returns-clause-steps
statements-returns-clause-steps t c =
    let scope = c.args.scope.now in
    let items = c.args.stmts.now in
    let i = c.loop-stmt.stmt-index in
    let whole = begun-all (context_view c.args.context.now) (parsed.stmts_view items) (parsed.stmts_view (drop i items)) (seen (λ v. v.items) c.loop-stmt.typed) scope.entries c.loop-stmt.scope.entries
    scope.locals c.loop-stmt.scope.locals c.args.step.now c.loop-stmt.step c.loop-stmt.invariant (ap parsed.stmts_view (drop_all i items c.loop-stmt-test.false)) in
    whole.numbered

-- ---- the forms of a statement

pub statement-returns-in-None-clause-typed : goal.statement-returns-in-None-clause-typed
statement-returns-in-None-clause-typed t c =
    let scope = c.args.scope.now in
    let s = parsed.stmt_view c.args.stmt.now in
    let form = ParsedIf c.in-If.place (expr_view c.in-If.test) (parsed.stmt_view c.deref-in-None.result.now) in
    let e : s ≡ form =
    ap parsed.stmt_view (c.in-If.is ∙ ap (λ o. If c.in-If.place c.in-If.test c.in-If.first o) c.in-None.is)
    ∙ ap (λ x. ParsedIf c.in-If.place (expr_view c.in-If.test) (parsed.stmt_view x)) (sym c.deref-in-None.ensures) in
    typed-form c.if_only.result s form (context_view c.args.context.now) scope.entries (length scope.locals) c.args.step.now scope.locals c.if_only.new.scope.locals e
    (IfOk-weaker c.if_only.result _ _ (λ answer h. h c.in-If.place) c.if_only.ensures.typed)

pub statement-returns-in-Some-clause-typed : goal.statement-returns-in-Some-clause-typed
statement-returns-in-Some-clause-typed t c =
    let scope = c.args.scope.now in
    let s = parsed.stmt_view c.args.stmt.now in
    let form = ParsedIfElse c.in-If.place (expr_view c.in-If.test) (parsed.stmt_view c.deref-in-Some.result.now) (parsed.stmt_view c.deref-in-Some-2.result.now) in
    let e : s ≡ form =
    ap parsed.stmt_view (c.in-If.is ∙ ap (λ o. If c.in-If.place c.in-If.test c.in-If.first o) c.in-Some.is)
    ∙ (ap (λ x. ParsedIfElse c.in-If.place (expr_view c.in-If.test) (parsed.stmt_view x) (parsed.stmt_view c.in-Some.other.value)) (sym c.deref-in-Some.ensures)
    ∙ ap (λ x. ParsedIfElse c.in-If.place (expr_view c.in-If.test) (parsed.stmt_view c.deref-in-Some.result.now) (parsed.stmt_view x)) (sym c.deref-in-Some-2.ensures)) in
    typed-form c.if_else.result s form (context_view c.args.context.now) scope.entries (length scope.locals) c.args.step.now scope.locals c.if_else.new.scope.locals e
    (IfOk-weaker c.if_else.result _ _ (λ answer h. h c.in-If.place) c.if_else.ensures.typed)

pub statement-returns-in-While-clause-typed : goal.statement-returns-in-While-clause-typed
statement-returns-in-While-clause-typed t c =
    let scope = c.args.scope.now in
    let s = parsed.stmt_view c.args.stmt.now in
    let form = ParsedWhile c.in-While.place (expr_view c.in-While.test) (parsed.stmt_view c.deref-in-While.result.now) in
    let e : s ≡ form =
    ap parsed.stmt_view c.in-While.is ∙ ap (λ x. ParsedWhile c.in-While.place (expr_view c.in-While.test) (parsed.stmt_view x)) (sym c.deref-in-While.ensures) in
    typed-form c.while_loop.result s form (context_view c.args.context.now) scope.entries (length scope.locals) c.args.step.now scope.locals c.while_loop.new.scope.locals e
    (IfOk-weaker c.while_loop.result _ _ (λ answer h. h c.in-While.place) c.while_loop.ensures.typed)

pub statement-returns-in-Do-clause-typed : goal.statement-returns-in-Do-clause-typed
statement-returns-in-Do-clause-typed t c =
    let scope = c.args.scope.now in
    let s = parsed.stmt_view c.args.stmt.now in
    let form = ParsedDo (parsed.stmt_view c.deref-in-Do.result.now) c.in-Do.place (expr_view c.in-Do.test) in
    let e : s ≡ form =
    ap parsed.stmt_view c.in-Do.is ∙ ap (λ x. ParsedDo (parsed.stmt_view x) c.in-Do.place (expr_view c.in-Do.test)) (sym c.deref-in-Do.ensures) in
    typed-form c.do_loop.result s form (context_view c.args.context.now) scope.entries (length scope.locals) c.args.step.now scope.locals c.do_loop.new.scope.locals e
    (IfOk-weaker c.do_loop.result _ _ (λ answer h. h c.in-Do.place) c.do_loop.ensures.typed)

pub statement-returns-in-For-clause-typed : goal.statement-returns-in-For-clause-typed
statement-returns-in-For-clause-typed t c =
    let scope = c.args.scope.now in
    let s = parsed.stmt_view c.args.stmt.now in
    let form = ParsedFor c.in-For.place (parsed.stmt_view c.deref-in-For.result.now) (option_map expr_view c.in-For.test) (parsed.stmt_view c.deref-in-For-2.result.now) (parsed.stmt_view c.deref-in-For-3.result.now) in
    let e : s ≡ form =
    ap parsed.stmt_view c.in-For.is
    ∙ (ap (λ x. ParsedFor c.in-For.place (parsed.stmt_view x) (option_map expr_view c.in-For.test) (parsed.stmt_view c.in-For.update.value) (parsed.stmt_view c.in-For.body.value)) (sym c.deref-in-For.ensures)
    ∙ (ap (λ x. ParsedFor c.in-For.place (parsed.stmt_view c.deref-in-For.result.now) (option_map expr_view c.in-For.test) (parsed.stmt_view x) (parsed.stmt_view c.in-For.body.value)) (sym c.deref-in-For-2.ensures)
    ∙ ap (λ x. ParsedFor c.in-For.place (parsed.stmt_view c.deref-in-For.result.now) (option_map expr_view c.in-For.test) (parsed.stmt_view c.deref-in-For-2.result.now) (parsed.stmt_view x)) (sym c.deref-in-For-3.ensures))) in
    typed-form c.for_loop.result s form (context_view c.args.context.now) scope.entries (length scope.locals) c.args.step.now scope.locals c.for_loop.new.scope.locals e
    (IfOk-weaker c.for_loop.result _ _ (λ answer h. h c.in-For.place) c.for_loop.ensures.typed)

pub statement-returns-in-Switch-clause-typed : goal.statement-returns-in-Switch-clause-typed
statement-returns-in-Switch-clause-typed t c =
    let scope = c.args.scope.now in
    let s = parsed.stmt_view c.args.stmt.now in
    let e = expr_view c.in-Switch.selector in
    let form = ParsedSwitch c.in-Switch.place e (parsed.segments_view c.deref-in-Switch.result.now) in
    let is : s ≡ form =
    ap parsed.stmt_view c.in-Switch.is ∙ (view_switch c.in-Switch.place c.in-Switch.selector c.in-Switch.segments
    ∙ ap (λ xs. ParsedSwitch c.in-Switch.place e (parsed.segments_view xs)) (sym c.deref-in-Switch.ensures.value)) in
    typed-form c.switch.result s form (context_view c.args.context.now) scope.entries (length scope.locals) c.args.step.now scope.locals c.switch.new.scope.locals is
    (IfOk-weaker c.switch.result _ _ (λ answer h. h c.in-Switch.place) c.switch.ensures.typed)

pub statement-returns-in-Switch-clause-steps : goal.statement-returns-in-Switch-clause-steps
statement-returns-in-Switch-clause-steps t c =
    let e = expr_view c.in-Switch.selector in
    let form = ParsedSwitch c.in-Switch.place e (parsed.segments_view c.deref-in-Switch.result.now) in
    let is : parsed.stmt_view c.args.stmt.now ≡ form =
    ap parsed.stmt_view c.in-Switch.is ∙ (view_switch c.in-Switch.place c.in-Switch.selector c.in-Switch.segments
    ∙ ap (λ xs. ParsedSwitch c.in-Switch.place e (parsed.segments_view xs)) (sym c.deref-in-Switch.ensures.value)) in
    steps-form c.switch.result (parsed.stmt_view c.args.stmt.now) form c.args.step.now c.switch.new.step is c.switch.ensures.steps

pub statement-returns-in-ForEach-clause-typed : goal.statement-returns-in-ForEach-clause-typed
statement-returns-in-ForEach-clause-typed t c =
    let scope = c.args.scope.now in
    let s = parsed.stmt_view c.args.stmt.now in
    let form = ParsedForEach c.in-ForEach.place c.in-ForEach.is_tiled (map parsed.dim_view c.deref-in-ForEach.result.now) (parsed.stmt_view c.deref-in-ForEach-2.result.now) in
    let e : s ≡ form =
    ap parsed.stmt_view c.in-ForEach.is
    ∙ (ap (λ x. ParsedForEach c.in-ForEach.place c.in-ForEach.is_tiled (map parsed.dim_view x) (parsed.stmt_view c.in-ForEach.body.value)) (sym c.deref-in-ForEach.ensures.value)
    ∙ ap (λ x. ParsedForEach c.in-ForEach.place c.in-ForEach.is_tiled (map parsed.dim_view c.deref-in-ForEach.result.now) (parsed.stmt_view x)) (sym c.deref-in-ForEach-2.ensures)) in
    typed-form c.for_each.result s form (context_view c.args.context.now) scope.entries (length scope.locals) c.args.step.now scope.locals c.for_each.new.scope.locals e
    (IfOk-weaker c.for_each.result _ _ (λ answer h. counted-as answer _ scope.locals c.for_each.new.scope.locals _ _ (ap (λ n. n + locals_in (parsed.stmt_view c.deref-in-ForEach-2.result.now)) (sym (length-map c.deref-in-ForEach.result.now parsed.dim_view))) (h c.in-ForEach.place)) c.for_each.ensures.typed)

pub statement-returns-in-ForEachActive-clause-typed : goal.statement-returns-in-ForEachActive-clause-typed
statement-returns-in-ForEachActive-clause-typed t c =
    let scope = c.args.scope.now in
    let s = parsed.stmt_view c.args.stmt.now in
    let form = ParsedForEachActive c.in-ForEachActive.place c.in-ForEachActive.name_place c.deref-in-ForEachActive.result.now (parsed.stmt_view c.deref-in-ForEachActive-2.result.now) in
    let e : s ≡ form =
    ap parsed.stmt_view c.in-ForEachActive.is
    ∙ (ap (λ x. ParsedForEachActive c.in-ForEachActive.place c.in-ForEachActive.name_place x (parsed.stmt_view c.in-ForEachActive.body.value)) (sym c.deref-in-ForEachActive.ensures.value)
    ∙ ap (λ x. ParsedForEachActive c.in-ForEachActive.place c.in-ForEachActive.name_place c.deref-in-ForEachActive.result.now (parsed.stmt_view x)) (sym c.deref-in-ForEachActive-2.ensures)) in
    typed-form c.for_each_active.result s form (context_view c.args.context.now) scope.entries (length scope.locals) c.args.step.now scope.locals c.for_each_active.new.scope.locals e
    (IfOk-weaker c.for_each_active.result _ _ (λ answer h. h c.in-ForEachActive.place c.in-ForEachActive.name_place) c.for_each_active.ensures.typed)

pub statement-returns-in-ForEachUnique-clause-typed : goal.statement-returns-in-ForEachUnique-clause-typed
statement-returns-in-ForEachUnique-clause-typed t c =
    let scope = c.args.scope.now in
    let s = parsed.stmt_view c.args.stmt.now in
    let form = ParsedForEachUnique c.in-ForEachUnique.place c.in-ForEachUnique.name_place c.deref-in-ForEachUnique.result.now (expr_view c.in-ForEachUnique.value) (parsed.stmt_view c.deref-in-ForEachUnique-2.result.now) in
    let e : s ≡ form =
    ap parsed.stmt_view c.in-ForEachUnique.is
    ∙ (ap (λ x. ParsedForEachUnique c.in-ForEachUnique.place c.in-ForEachUnique.name_place x (expr_view c.in-ForEachUnique.value) (parsed.stmt_view c.in-ForEachUnique.body.value)) (sym c.deref-in-ForEachUnique.ensures.value)
    ∙ ap (λ x. ParsedForEachUnique c.in-ForEachUnique.place c.in-ForEachUnique.name_place c.deref-in-ForEachUnique.result.now (expr_view c.in-ForEachUnique.value) (parsed.stmt_view x)) (sym c.deref-in-ForEachUnique-2.ensures)) in
    typed-form c.for_each_unique.result s form (context_view c.args.context.now) scope.entries (length scope.locals) c.args.step.now scope.locals c.for_each_unique.new.scope.locals e
    (IfOk-weaker c.for_each_unique.result _ _ (λ answer h. h c.in-ForEachUnique.place c.in-ForEachUnique.name_place) c.for_each_unique.ensures.typed)

pub statement-returns-in_ok-typed-in-Block-clause-typed : goal.statement-returns-in_ok-typed-in-Block-clause-typed
statement-returns-in_ok-typed-in-Block-clause-typed t c =
    let scope = c.args.scope.now in
    let items = c.deref.result.now in
    let e : parsed.stmt_view c.args.stmt.now ≡ ParsedBlock (parsed.stmts_view items) =
    ap parsed.stmt_view c.in-Block.is ∙ (view_block c.in-Block.stmts ∙ ap (λ xs. ParsedBlock (parsed.stmts_view xs)) (sym c.deref.ensures.value)) in
    typed-form c.block.result (parsed.stmt_view c.args.stmt.now) (ParsedBlock (parsed.stmts_view items)) (context_view c.args.context.now) scope.entries (length scope.locals) c.args.step.now
    scope.locals c.statements.new.scope.locals e
    (IfOk-weaker c.block.result _ _ (λ answer form. typed-block _ c.in_ok-typed-in-Block.typed answer scope.locals c.statements.new.scope.locals _ c.in_ok-typed-in-Block.ensures.typed form) c.block.ensures.form)

pub statement-returns-in_ok-typed-in-Block-clause-steps : goal.statement-returns-in_ok-typed-in-Block-clause-steps
statement-returns-in_ok-typed-in-Block-clause-steps t c =
    let items = c.deref.result.now in
    let e : parsed.stmt_view c.args.stmt.now ≡ ParsedBlock (parsed.stmts_view items) =
    ap parsed.stmt_view c.in-Block.is ∙ (view_block c.in-Block.stmts ∙ ap (λ xs. ParsedBlock (parsed.stmts_view xs)) (sym c.deref.ensures.value)) in
    steps-form c.block.result (parsed.stmt_view c.args.stmt.now) (ParsedBlock (parsed.stmts_view items)) c.args.step.now c.statements.new.step e (in-any-case c.block.result c.in_ok-typed-in-Block.ensures.steps)
