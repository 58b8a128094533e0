use Rattle.std.proofs.Common.{[], ◌++◌, ap, ◌∙◌, map}
use Rattle.typed_tree.specs.Views.{program_view}
use Rattle.adapter_session.specs.Changes.{asked_view, of_function}
use Rattle.adapter_session.proofs.Appending.{made_behind}
use Rattle.adapter_session.proofs.changes.asked_functions.Goals as goal

pub loop-function-preserved : goal.loop-function-preserved
loop-function-preserved c =
    let old = map asked_view c.loop-function.all.items in
    made_behind (of_function (program_view c.args.program.now)) [] c.args.functions.now c.loop-function.function-index _ old (map asked_view c.push.new.all.items) c.loop-function-test.true c.loop-function.invariant
    (c.in_ok-push.ensures ∙ ap (λ one. old ++ one) c.asked_function.ensures)
