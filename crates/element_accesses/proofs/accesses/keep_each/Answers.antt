use Rattle.std.proofs.Common.{arith}
use Rattle.element_accesses.proofs.Noting.{all_kept}
use Rattle.element_accesses.proofs.accesses.keep_each.Goals as goal

pub returns : goal.returns
returns c =
    let here = c.loop-row.invariant in
    let stop = c.end_among-row-end in
    all_kept c.args.noted c.args.rows.now.items c.loop-row.rows.items c.loop-row.row
    (record { few = λ begun. omega (arith, here.few begun, stop.ensures.few.0); all = λ k inside there. omega (arith, stop.ensures.all k inside (omega (arith, there, here.same, c.len.ensures)), c.loop-row-test.false) }) here.same here.kept_so_far
