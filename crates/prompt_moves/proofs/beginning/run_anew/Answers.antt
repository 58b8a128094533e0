use Rattle.std.proofs.Common.{subst, ap, ◌∙◌}
use Rattle.command_lists.specs.Lists.{HasDone}
use Rattle.prompt_scenes.specs.Holding.{held}
use Rattle.prompt_moves.specs.Beginning.{after_run, ran}
use Rattle.prompt_moves.specs.Breakpoints.{stop_here}
use Rattle.prompt_moves.specs.Moments.{at_first}
use Rattle.prompt_moves.proofs.MomentLaws.{back_then}
use Rattle.prompt_moves.proofs.beginning.run_anew.Goals as goal

pub returns : goal.returns
returns g c s d st limit =
    let stands = g.M.RecordedMachine.stands in
    let h = held c.args.holding.now in
    let e = at_first d in
    let new = c.run_from.new.session in
    let there = c.take_all_back.ensures s d st in
    let at = c.stop_here.ensures s e there in
    let (done, holds) = c.run_from.ensures s e there limit in (
      back_then stands s (ran s e h (stop_here s e)) d new (subst (λ a. HasDone stands s (ran s e h a) e new) at done),
      holds ∙ ap (after_run s e h) at,
    )
