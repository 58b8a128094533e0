use Rattle.typed_tree.specs.Views.{arg_view}
use Rattle.codegen.specs.Codes.{IsArg}
use Rattle.codegen.proofs.Rows.{fit_next}
use Rattle.codegen.proofs.values.arguments.Goals as goal

pub loop-arg-preserved : goal.loop-arg-preserved
loop-arg-preserved c =
    fit_next IsArg arg_view c.args.args.now c.loop-arg.arg-index c.arg-item.result c.loop-arg.made.items c.push.new.self.items _ c.loop-arg-test.true c.arg-item.is
    c.loop-arg.invariant c.in_ok-argument.ensures c.in_ok-push.ensures.items
