use Rattle.std.proofs.Common.{◌≡◌, ◌<◌, refl, sym, ◌∙◌, ap, arith, false, ℕ}
use Rattle.std.specs.Prelude.{◌==◌}
use Rattle.std.proofs.lemmas.Bool.Decides.{nat_tests}
use Rattle.gang_model.specs.Debugger.Debugger.{HistoryEnd, backward, kept_steps, now, stepped_back}
use Rattle.debug_session.specs.Goals.{goal_view}
use Rattle.debug_session.specs.Sessions.{bare}
use Rattle.debug_session.proofs.Moves.{backward_goes, goes_on, moved_by, moved_so}
use Rattle.debug_session.proofs.Watches.{words_stay}
use Rattle.debug_session.proofs.moving.step_backward.Goals as goal

pub returns-clause-moved : goal.returns-clause-moved
returns-clause-moved g c s d n st are some first =
    let stands = g.M.RecordedMachine.stands in
    let e = stepped_back d in
    let there = c.take_step_back-may_change.ensures.back s d st some in
    let reached = c.reached_by-at.ensures s e there in
    let kept = c.kept_steps-none_kept.ensures.debugger s (bare e) there in
    let watch = c.watch_after_move-watch.ensures s e (now s d) d.stops there are first (λ none. c.take_step_back-may_change.ensures.watches none s d st are some first) in
    let means = c.after_move.ensures.means s e (now s d) HistoryEnd are watch reached refl in
    moved_so stands s d e c.take_step_back-may_change.new.machine c.after_move.result (backward n s) _ _
    (backward_goes s d n (goal_view c.args.goal) (c.kept_steps-none_kept.result == 0) (ap (λ k. k == 0) kept))
    (moved_by stands s d e c.take_step_back-may_change.new.machine c.after_move.result _ (backward n s) (record { there = there; stops = refl; next = refl }) means)

pub returns-clause-more : goal.returns-clause-more
returns-clause-more g c s d st some =
    let kept = c.kept_steps-none_kept.ensures.debugger s (bare (stepped_back d)) (c.take_step_back-may_change.ensures.back s d st some) in
    goes_on c.after_move.result _ _ (λ h. more c.kept_steps-none_kept.result (kept_steps (stepped_back d)) kept h) c.after_move.ensures.more
  where
    more : (k n : ℕ) → k ≡ n → (k == 0) ≡ false → 0 < n
    more k n e h = grind (arith, nat_tests)

pub returns-clause-kept : goal.returns-clause-kept
returns-clause-kept g c =
    goes_on c.after_move.result _ _ (λ h. some c.kept_steps-none_kept.result _ c.kept_steps-none_kept.ensures.all h) c.after_move.ensures.more
  where
    some : (k n : ℕ) → k ≡ n → (k == 0) ≡ false → 0 < n
    some k n e h = grind (arith, nat_tests)

pub returns-clause-noted : goal.returns-clause-noted
returns-clause-noted g c s d st are some first =
    let there = c.take_step_back-may_change.ensures.back s d st some in
    let watch = c.watch_after_move-watch.ensures s (stepped_back d) (now s d) d.stops there are first (λ none. c.take_step_back-may_change.ensures.watches none s d st are some first) in
    goes_on c.after_move.result _ _ (λ none. first ∙ words_stay (now s d) (now s (stepped_back d)) d.stops (sym watch ∙ none)) c.after_move.ensures.unchanged
