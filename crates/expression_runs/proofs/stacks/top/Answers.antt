use Rattle.expression_runs.specs.declared.stop.Stop.TheVariants.{NoRoom}
use Rattle.expression_runs.proofs.Tops.{top_or}
use Rattle.expression_runs.proofs.stacks.top.Goals as goal

pub returns : goal.returns
returns g c = rw c.ok_or.ensures.value (top_or c.last.result c.args.stack.now.items NoRoom (rw c.as_slice.ensures.value at c.last.ensures.value))
