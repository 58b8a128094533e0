use Rattle.std.proofs.Common.{◌∙◌, ap, subst, zero-add}
use Rattle.gang_model.specs.Running.Step.{steps_of}
use Rattle.typed_tree.specs.Views.{function_view, stmts_view}
use Rattle.mask_lowering.specs.Lowering.{Lowered, ways_view}
use Rattle.mask_lowering.proofs.Programs.{function_lowered}
use Rattle.mask_lowering.proofs.masked.lower_function.Goals as goal

pub returns : goal.returns
returns c = λ numbered.
    let f = function_view c.args.function.now in
    let closing = c.in_ok-closing.closing in
    let old = c.in_ok-points.points.items in
    let new = c.lower_statements.new.points.items in
    let ends = c.in_ok-closing.ensures ∙ zero-add (steps_of (stmts_view c.deref.result.now)) ∙ ap (λ items. steps_of (stmts_view items)) c.deref.ensures.value in
    let made = subst (λ items. Lowered closing old new (stmts_view items) (ways_view c.of_function.result) c.in_ok-entry.entry) c.deref-2.ensures.value c.in_ok-entry.ensures in
    function_lowered f closing old new c.reverse.new.self (ways_view c.of_function.result) c.in_ok-entry.entry ends c.in_ok-points.ensures.items
    (c.of_function.ensures f ends) made c.reverse.ensures.items numbered
