use Rattle.std.proofs.Common.{sym, ap, ◌∙◌}
use Rattle.gang_model.specs.Texts.CommandText.{command_of}
use Rattle.debug_commands.specs.Views.{option_view}
use Rattle.prompt_scenes.specs.Holding.{held}
use Rattle.debug_prompt.proofs.NoCommands.{no_command}
use Rattle.debug_prompt.proofs.running.do_own_words.Goals as goal

pub returns-in-None-clause-done : goal.returns-in-None-clause-done
returns-in-None-clause-done g c s d st limit =
    no_command g.M.RecordedMachine.stands s d (held c.args.holding.now) c.args.session.now (command_of c.args.text.now)
    (sym c.read_command.ensures ∙ ap option_view c.in-None.is) st
