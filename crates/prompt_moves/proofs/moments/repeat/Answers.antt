use Rattle.std.proofs.Common.{◌<◌, ◌≤◌, refl, sym, subst, ◌∙◌, arith}
use Rattle.gang_model.specs.Debugger.Debugger.{do_command}
use Rattle.debug_commands.specs.Views.{command_view}
use Rattle.debug_session.specs.Sessions.{StandsFor}
use Rattle.prompt_moves.proofs.MomentLaws.{led_again, led_never, moved_there}
use Rattle.prompt_moves.proofs.moments.repeat.Goals as goal

pub loop-left-init : goal.loop-left-init
loop-left-init g c s d st = (d, st, refl)

pub loop-left-preserved : goal.loop-left-preserved
loop-left-preserved g c s d st =
    let command = command_view c.args.command in
    let (e, there, same) = c.loop-left.invariant s d st in
    let some : 0 < c.loop-left.left = omega (arith, c.loop-left-test.true) in (
      (do_command s command e).next,
      moved_there g.M.RecordedMachine.stands s g.M.RecordedMachine.may_want command e c.do_command.result c.do_command.new.self c.requires (c.do_command.ensures.replied s e there),
      same ∙ led_again s command c.loop-left.left e some,
    )

pub returns : goal.returns
returns g c s d st =
    let command = command_view c.args.command in
    let (e, there, same) = c.loop-left.invariant s d st in
    let none : c.loop-left.left ≤ 0 = omega (arith, c.loop-left-test.false) in
    subst (StandsFor g.M.RecordedMachine.stands c.loop-left.session s) (sym (same ∙ led_never s command c.loop-left.left e none)) there
