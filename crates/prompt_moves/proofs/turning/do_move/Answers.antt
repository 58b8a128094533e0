use Rattle.std.proofs.Common.{◌∷◌, subst, ◌∙◌}
use Rattle.command_lists.specs.Lists.{HasDone}
use Rattle.debug_commands.specs.Views.{command_view}
use Rattle.prompt_scenes.specs.Holding.{held}
use Rattle.prompt_moves.proofs.DoneCommands.{move_begun, move_follows, one_then}
use Rattle.prompt_moves.specs.GivenMoves as given_moves
use Rattle.prompt_moves.proofs.turning.do_move.Goals as goal

pub returns : goal.returns
returns g c s d st limit =
    let stands = g.M.RecordedMachine.stands in
    let may_want = g.M.RecordedMachine.may_want in
    let command = command_view c.args.command in
    let h = held c.args.holding.now in
    let told = c.make_moves-answer.result in
    let middle = c.make_moves-answer.new.session in
    let new = c.follow.new.session in
    let replies = c.make_moves-answer.ensures s d st limit in (
      subst (λ more. HasDone stands s (command ∷ more) d new) (move_follows stands s d may_want h command told middle c.requires replies)
          (one_then stands s d may_want command (given_moves.follows h told) told middle new replies (λ e there. c.follow.ensures.done s e there)),
      c.follow.ensures.begun ∙ move_begun stands s d may_want h command told middle c.requires replies,
    )
