use Rattle.std.proofs.Common.{◌≡◌, false, refl, sym, ◌∙◌}
use Rattle.gang_model.specs.Debugger.Events.{Step}
use Rattle.gang_model.specs.Debugger.Debugger.{Here, forward, moved, now}
use Rattle.debug_traits.specs.Machines.{fault_view}
use Rattle.debug_session.specs.Goals.{goal_view}
use Rattle.debug_session.specs.Moves.{watch_words}
use Rattle.debug_session.specs.Sessions.{bare}
use Rattle.debug_session.proofs.Ending.{none_by}
use Rattle.debug_session.proofs.Moves.{done_so, forward_fails, forward_goes, forward_over, goes_on, moved_by, moved_so}
use Rattle.debug_session.proofs.Watches.{words_stay}
use Rattle.debug_session.proofs.moving.step_forward.Goals as goal

pub returns-in-Fault-clause-moved : goal.returns-in-Fault-clause-moved
returns-in-Fault-clause-moved g c s d n st are first =
    let (fails, there) = c.in-Fault.ensures.step s (bare d) st in
    done_so g.M.RecordedMachine.stands s d _ _ _ _ (forward_fails s d n (goal_view c.args.goal) (fault_view c.in-Fault.fault) fails)
    (record { follows = record { there = there; stops = refl; next = refl }; means = refl })

pub returns-in-Ended-clause-moved : goal.returns-in-Ended-clause-moved
returns-in-Ended-clause-moved g c s d n st are first =
    let (over, there) = c.in-Ended.ensures.step s (bare d) st in
    done_so g.M.RecordedMachine.stands s d _ _ _ _ (forward_over s d n (goal_view c.args.goal) over)
    (record { follows = record { there = there; stops = refl; next = refl }; means = refl })

pub returns-in-Done-clause-moved : goal.returns-in-Done-clause-moved
returns-in-Done-clause-moved g c s d n st are first =
    let stands = g.M.RecordedMachine.stands in
    let e = moved Step d in
    let (new, goes, there) = c.in-Done.ensures.step s (bare d) st in
    let reached = c.reached_by-at.ensures s e there in
    let same : c.may_change_watch-may_change.result ≡ false → watch_words (now s d) d.stops ≡ watch_words (now s e) d.stops = λ none. c.may_change_watch-may_change.ensures none s e (now s d) d.stops there are first in
    let watch = c.watch_after_move-watch.ensures s e (now s d) d.stops there are first same in
    let means = c.after_move.ensures.means s e (now s d) Here are watch reached refl in
    let ended = none_by c.reached_by-at.result.line c.is_none-has_ended.result c.is_none-has_ended.ensures ∙ sym reached.ended in
    moved_so stands s d e c.step.new.self c.after_move.result (forward n s) _ _ (forward_goes s d n (goal_view c.args.goal) new c.is_none-has_ended.result goes ended)
    (moved_by stands s d e c.step.new.self c.after_move.result _ (forward n s) (record { there = there; stops = refl; next = refl }) means)

pub returns-in-Done-clause-noted : goal.returns-in-Done-clause-noted
returns-in-Done-clause-noted g c s d st are first =
    let (new, goes, there) = c.in-Done.ensures.step s (bare d) st in
    let e = moved Step d in
    let same : c.may_change_watch-may_change.result ≡ false → watch_words (now s d) d.stops ≡ watch_words (now s e) d.stops = λ none. c.may_change_watch-may_change.ensures none s e (now s d) d.stops there are first in
    let watch = c.watch_after_move-watch.ensures s e (now s d) d.stops there are first same in
    goes_on c.after_move.result _ _ (λ none. first ∙ words_stay (now s d) (now s e) d.stops (sym watch ∙ none)) c.after_move.ensures.unchanged
