use Rattle.std.proofs.Common.{[], ◌++◌, ap, ◌∙◌, map}
use Rattle.adapter_session.specs.Changes.{asked_view, of_line}
use Rattle.adapter_session.proofs.Appending.{made_behind}
use Rattle.adapter_session.proofs.changes.asked_lines.Goals as goal

pub loop-line-preserved : goal.loop-line-preserved
loop-line-preserved g c s d stands =
    let old = map asked_view c.loop-line.all.items in
    made_behind (of_line s) [] c.args.lines.now c.loop-line.line-index _ old (map asked_view c.push.new.all.items) c.loop-line-test.true (c.loop-line.invariant s d stands)
    (c.in_ok-push.ensures ∙ ap (λ one. old ++ one) (c.asked_line.ensures s d stands))
