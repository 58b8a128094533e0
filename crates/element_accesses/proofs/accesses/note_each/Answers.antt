use Rattle.std.proofs.Common.{◌∙◌, ◌<◌, length, arith}
use Rattle.element_accesses.proofs.Noting.{all_noted, all_others, noted_more, others_more, set_length}
use Rattle.element_accesses.proofs.accesses.note_each.Goals as goal

pub loop-row-preserved : goal.loop-row-preserved
loop-row-preserved g c =
    let first = c.args.rows.now.items in
    let rows = c.loop-row.rows.items in
    let row = c.loop-row.row in
    let here = c.loop-row.invariant in
    let new = c.note_at.new.self in
    let below : row < length rows = omega (arith, c.loop-row-test.true, c.end_among-row-end.ensures.few.1, c.len.ensures, here.same) in
    record {
      these = noted_more g.M.RecordedMachine.stands c.args.machine.now c.args.depth c.args.spot first rows c.args.of_step.first row here.these here.others c.index_mut.result.now new below c.index_mut.ensures.value c.note_at.ensures;
      others = others_more g.M.RecordedMachine.stands c.args.machine.now c.args.depth c.args.spot first rows c.args.of_step.first row here.these here.others new here.begun;
      same = set_length rows row new ∙ here.same;
      begun = omega (arith, here.begun);
      few = λ _. omega (arith, c.loop-row-test.true);
    }

pub returns-clause-these : goal.returns-clause-these
returns-clause-these g c =
    let here = c.loop-row.invariant in
    let stop = c.end_among-row-end in
    all_noted g.M.RecordedMachine.stands c.args.machine.now c.args.depth c.args.spot c.args.rows.now.items c.loop-row.rows.items c.args.of_step c.loop-row.row
    (record { few = λ begun. omega (arith, here.few begun, stop.ensures.few.0); all = λ k inside there. omega (arith, stop.ensures.all k inside (omega (arith, there, here.same, c.len.ensures)), c.loop-row-test.false) }) here.same here.these

pub returns-clause-others : goal.returns-clause-others
returns-clause-others g c =
    let here = c.loop-row.invariant in
    let stop = c.end_among-row-end in
    all_others g.M.RecordedMachine.stands c.args.machine.now c.args.depth c.args.spot c.args.rows.now.items c.loop-row.rows.items c.args.of_step c.loop-row.row
    (record { few = λ begun. omega (arith, here.few begun, stop.ensures.few.0); all = λ k inside there. omega (arith, stop.ensures.all k inside (omega (arith, there, here.same, c.len.ensures)), c.loop-row-test.false) }) here.same here.others
