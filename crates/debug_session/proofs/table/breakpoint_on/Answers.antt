use Rattle.std.proofs.Common.{sym, ◌∙◌, false}
use Rattle.debug_session.proofs.Turns.{first_stop_at, turn}
use Rattle.debug_session.proofs.table.breakpoint_on.Goals as goal

pub loop-entry-preserved : goal.loop-entry-preserved
loop-entry-preserved c s meant are =
    let (rest, here, same) = c.loop-entry.invariant s meant are in
    let t = turn s c.args.stops.now c.loop-entry.entry-index _ rest c.loop-entry-test.true here in
    (t.rest, t.others, same ∙ first_stop_at _ rest t.entry t.rest false t.is (sym (c.is_on_line.ensures s t.entry.1 t.stop) ∙ c.if-is_on_line.false))
