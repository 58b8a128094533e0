use Rattle.std.proofs.Common.{sym, ◌∙◌, false}
use Rattle.debug_session.proofs.Turns.{first_stop_at, turn}
use Rattle.adapter_replies.proofs.breakpoints.watch_number.Goals as goal

pub loop-entry-preserved : goal.loop-entry-preserved
loop-entry-preserved g c s d meant st are =
    let (rest, here, same) = c.loop-entry.invariant s d meant st are in
    let t = turn s c.args.stops.now c.loop-entry.entry-index _ rest c.loop-entry-test.true here in
    (t.rest, t.others, same ∙ first_stop_at _ rest t.entry t.rest false t.is (sym (c.is_watch_of.ensures s d t.entry.1 st t.stop) ∙ c.if-is_watch_of.false))
