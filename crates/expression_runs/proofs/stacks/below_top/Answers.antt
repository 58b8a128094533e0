use Rattle.std.proofs.Common.{length, arith, ap}
use Rattle.expression_runs.proofs.Tops.{second_top}
use Rattle.expression_runs.proofs.stacks.below_top.Goals as goal

pub returns-else-all-lt2 : goal.returns-else-all-lt2
returns-else-all-lt2 g c =
    second_top c.args.stack.now.items c.index-all-all.result (omega (arith, ap length c.as_slice-all.ensures.value)) (rw c.as_slice-all.ensures.value at c.index-all-all.is)
