use Rattle.std.proofs.Common.{◌∙◌, ◌+◌, ◌∷◌, drop, sym, ap}
use Rattle.std.proofs.lemmas.List.{drop_more}
use Rattle.gang_model.specs.Source.Judged.{least_fault, or_later}
use Rattle.gang_model.specs.Names.NameFaults.{names_in, names_of_args, inner_call}
use Rattle.gang_model.specs.Source.Parsed.{ParsedEnd}
use Rattle.source_tree.specs.Expressions.{expr_view, arg_view, with_arg}
use Rattle.gang_model.proofs.JudgedLaws.{in_pair}
use Rattle.ispc_names_expressions.proofs.ArgumentFaults.{in_args, in_call, in_part_from, in_part, next_arg}
use Rattle.ispc_names_expressions.proofs.expressions.+expression.Goals as goal

pub argument_fault-returns-in-PartFrom : goal.argument_fault-returns-in-PartFrom
argument_fault-returns-in-PartFrom t c =
    in_part_from c.in-PartFrom.place c.in-PartFrom.name.items c.deref-in-PartFrom.result.now (expr_view c.in-PartFrom.index) c.args.functions.now c.args.scopes.now.environment _ _ _
    c.deref-in-PartFrom.ensures.value c.unknown_name-in-PartFrom.ensures c.expression_fault-in-PartFrom.ensures c.least.ensures
    ∙ sym (ap (λ a. least_fault (names_of_args (with_arg (arg_view a) ParsedEnd) c.args.functions.now c.args.scopes.now.environment)) c.in-PartFrom.is)

pub expression_fault-loop-arg-init : goal.expression_fault-loop-arg-init
expression_fault-loop-arg-init t c =
    ap (λ e. least_fault (names_in (expr_view e) c.args.functions.now c.args.scopes.now.environment)) c.in-Call.is
    ∙ (in_call c.in-Call.place c.in-Call.name c.in-Call.args c.args.functions.now c.args.scopes.now.environment
    ∙ ap (λ es. or_later (in_args es c.args.functions.now c.args.scopes.now.environment) (least_fault (inner_call c.args.functions.now c.in-Call.place c.in-Call.name.items))) (sym c.deref-arg-items.ensures.value))

pub expression_fault-loop-arg-preserved : goal.expression_fault-loop-arg-preserved
expression_fault-loop-arg-preserved t c =
    let items = c.deref-arg-items.result.now in
    let i = c.loop-arg.arg-index in
    c.loop-arg.invariant
    ∙ ap (λ x. or_later x (least_fault (inner_call c.args.functions.now c.in-Call.place c.in-Call.name.items)))
    (sym (next_arg (drop i items) (drop (i + 1) items) c.arg-item.result c.args.functions.now c.args.scopes.now.environment _ _ _
    (drop_more items i c.arg-item.result c.loop-arg-test.true ∙ ap (λ x. x ∷ drop (i + 1) items) (sym c.arg-item.is)) c.argument_fault.ensures c.least-inside.ensures))

pub expression_fault-returns-in-Binary : goal.expression_fault-returns-in-Binary
expression_fault-returns-in-Binary t c =
    in_pair _ _ _ _ _
    (in_part c.in-Binary.left.value c.deref-in-Binary.result.now c.args.functions.now c.args.scopes.now.environment _ c.deref-in-Binary.ensures c.expression_fault-in-Binary.ensures)
    (in_part c.in-Binary.right.value c.deref-in-Binary-2.result.now c.args.functions.now c.args.scopes.now.environment _ c.deref-in-Binary-2.ensures c.expression_fault-in-Binary-2.ensures)
    c.least.ensures
    ∙ sym (ap (λ e. least_fault (names_in (expr_view e) c.args.functions.now c.args.scopes.now.environment)) c.in-Binary.is)

pub expression_fault-returns-in-Choice : goal.expression_fault-returns-in-Choice
expression_fault-returns-in-Choice t c =
    in_pair _ _ _ _ _
    (in_part c.in-Choice.test.value c.deref-in-Choice.result.now c.args.functions.now c.args.scopes.now.environment _ c.deref-in-Choice.ensures c.expression_fault-in_test.ensures)
    (in_pair _ _ _ _ _
    (in_part c.in-Choice.first.value c.deref-in-Choice-2.result.now c.args.functions.now c.args.scopes.now.environment _ c.deref-in-Choice-2.ensures c.expression_fault-in_first.ensures)
    (in_part c.in-Choice.second.value c.deref-in-Choice-3.result.now c.args.functions.now c.args.scopes.now.environment _ c.deref-in-Choice-3.ensures c.expression_fault-in_second.ensures)
    c.least-in-Choice.ensures)
    c.least-in-Choice-2.ensures
    ∙ sym (ap (λ e. least_fault (names_in (expr_view e) c.args.functions.now c.args.scopes.now.environment)) c.in-Choice.is)
