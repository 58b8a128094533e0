use Rattle.std.proofs.Common.{reverse}
use Rattle.expression_runs.specs.Bridge.{masks_view}
use Rattle.expression_runs.proofs.Tops.{one_step}
use Rattle.expression_runs.proofs.machine.run.Goals as goal

pub loop-first-preserved : goal.loop-first-preserved
loop-first-preserved g c = λ state shown.
    one_step g.row.R g.row.M state c.in-Some.first.now c.loop-first.rest.now c.in-Some.others.now c.after-rest.result.now c.in_ok-pass.pass (reverse c.loop-first.stack.items) (reverse c.act.new.stack.items) (masks_view g.row.W c.loop-first.masks.items) (masks_view g.row.W c.act.new.masks.items) _
    (c.loop-first.invariant state shown) c.in-Some.ensures.cases.0 (c.in_ok-pass.ensures state shown) c.after-rest.ensures
