use Rattle.std.proofs.Common.{sym, subst, ap, ◌∙◌}
use Rattle.gang_model.specs.Debugger.Debugger.{depth, ends_or_goes_on, first_stop, now, on_line, towards}
use Rattle.gang_model.specs.Debugger.Positions.{line_now}
use Rattle.debug_session.specs.Goals.{goal_view}
use Rattle.debug_session.specs.Moves.{MeansAfter}
use Rattle.debug_session.proofs.moving.after_move.Goals as goal

pub returns-clause-means : goal.returns-clause-means
returns-clause-means c s d old meant are watch_is reached last =
    let goal_is = c.towards.ensures ∙ ap (towards (goal_view c.args.goal)) (sym reached.depth) in
    let breakpoint_is = c.breakpoint_on-breakpoint.ensures s d.stops are ∙ ap (λ line. first_stop (on_line line) d.stops) (sym reached.line) in
    subst (MeansAfter s d c.end_or_go_on.result)
    (ap (λ goal. ends_or_goes_on goal c.breakpoint_on-breakpoint.result c.args.watch c.args.no_move meant) goal_is
    ∙ ap (λ stop. ends_or_goes_on (towards (goal_view c.args.goal) (depth (now s d))) stop c.args.watch c.args.no_move meant) breakpoint_is
    ∙ ap (λ stop. ends_or_goes_on (towards (goal_view c.args.goal) (depth (now s d))) (first_stop (on_line (line_now s.program (now s d))) d.stops) stop c.args.no_move meant) watch_is)
    (c.end_or_go_on.ensures.means s d meant last)
