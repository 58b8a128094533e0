use Rattle.std.proofs.Common.{◌≡◌, sym, subst, ap, ◌∙◌, arith, length, true}
use Rattle.gang_model.specs.Debugger.Debugger.{Reply, do_command, now}
use Rattle.debug_commands.specs.Views.{command_view}
use Rattle.debug_session.specs.Moves.{watch_words}
use Rattle.debug_session.specs.Sessions.{RepliesTo, StandsFor}
use Rattle.conditional_stops.specs.Going.{GoesOnce, command_of, is_stop}
use Rattle.conditional_stops.specs.Views.{table_of}
use Rattle.conditional_stops.proofs.Passing.{forward_moves, once_stopped, stop_told, stops_stay, sure_reply}
use Rattle.conditional_stops.proofs.going.do_once.Goals as goal

pub returns-then-is_stop-clause-gone : goal.returns-then-is_stop-clause-gone
returns-then-is_stop-clause-gone g c s d st words =
    let stands = g.M.RecordedMachine.stands in
    let may_want = g.M.RecordedMachine.may_want in
    let way = c.args.direction in
    let new = c.do_command-answer.new.self in
    let given = c.do_command-answer.result in
    let next = (do_command s (command_of way) d).next in
    let table = table_of c.args.conditions.now in
    let replies = subst (λ command. RepliesTo may_want stands s command d given new) c.command.ensures (c.do_command-answer.ensures.replied s d st) in
    let is : replies.reply ≡ do_command s (command_of way) d = sure_reply may_want s way d replies.reply replies.is_reply in
    let there : StandsFor stands new s next = subst (λ (r : Reply). StandsFor stands new s r.next) is replies.replied.there in
    let stops : is_stop (do_command s (command_of way) d).answer ≡ true =
    ap (λ (r : Reply). is_stop r.answer) (sym is) ∙ sym (stop_told s replies.reply.next given replies.reply.answer replies.replied.means) ∙ sym c.is_stop.ensures ∙ c.if-is_stop.true in
    let same = words ∙ ap (watch_words (now s d)) (sym (stops_stay way s d)) in
    subst (λ ended. GoesOnce stands s (command_of way) d table ended new (table_of c.ask_all.new.conditions)) (sym c.stop_that_counts.ensures)
    (once_stopped stands s (command_of way) d table (table_of c.ask_all.new.conditions) c.ask_all.result new there stops (c.ask_all.ensures s d next there same))

pub returns-then-is_stop-clause-moves : goal.returns-then-is_stop-clause-moves
returns-then-is_stop-clause-moves g c s d st forward =
    let old = c.args.session.now in
    omega (arith, c.do_command-answer.ensures.moves, forward_moves old.most_steps (length (g.M.RecordedMachine.history old.machine).past) s.limit c.args.direction (command_view c.command.result) c.command.ensures forward st.limit)

pub returns-else-is_stop-clause-moves : goal.returns-else-is_stop-clause-moves
returns-else-is_stop-clause-moves g c s d st forward =
    let old = c.args.session.now in
    omega (arith, c.do_command-answer.ensures.moves, forward_moves old.most_steps (length (g.M.RecordedMachine.history old.machine).past) s.limit c.args.direction (command_view c.command.result) c.command.ensures forward st.limit)
