use Rattle.std.proofs.Common.{◌∙◌, ◌+◌, ◌∷◌, drop, sym, ap}
use Rattle.std.proofs.lemmas.List.{drop_more}
use Rattle.ispc_names_expressions.proofs.ArgumentFaults.{next_arg}
use Rattle.ispc_names_expressions.proofs.expressions.arguments_fault.Goals as goal

pub loop-arg-preserved : goal.loop-arg-preserved
loop-arg-preserved c =
    let items = c.args.args.now in
    let i = c.loop-arg.arg-index in
    c.loop-arg.invariant
    ∙ sym (next_arg (drop i items) (drop (i + 1) items) c.arg-item.result c.args.functions.now c.args.scopes.now.environment _ _ _
    (drop_more items i c.arg-item.result c.loop-arg-test.true ∙ ap (λ x. x ∷ drop (i + 1) items) (sym c.arg-item.is)) c.argument_fault.ensures c.least-first.ensures)
