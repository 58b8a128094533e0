use Rattle.std.proofs.Common.{◌∙◌, ap, refl}
use Rattle.gang_model.specs.Debugger.Debugger.{DoStep, Reply}
use Rattle.prompt_scenes.specs.Readings.{is_here}
use Rattle.prompt_scenes.proofs.AnswersMean.{is_here-means}
use Rattle.prompt_moves.proofs.DoneCommands.{sure_reply}
use Rattle.prompt_moves.proofs.MomentLaws.{moved_there}
use Rattle.prompt_walks.proofs.lanes_told.make_step.Goals as goal

pub returns-clause-there : goal.returns-clause-there
returns-clause-there g c s d st =
    moved_there g.M.RecordedMachine.stands s g.M.RecordedMachine.may_want (DoStep 1) d c.do_command-answer.result c.do_command-answer.new.self refl (c.do_command-answer.ensures.replied s d st)

pub returns-clause-made : goal.returns-clause-made
returns-clause-made g c s d st =
    let replies = c.do_command-answer.ensures.replied s d st in
    c.is_here.ensures ∙ is_here-means s replies.reply.next c.do_command-answer.result replies.reply.answer replies.replied.means
    ∙ ap (λ (r : Reply). is_here r.answer) (sure_reply g.M.RecordedMachine.may_want s (DoStep 1) d replies.reply refl replies.is_reply)
