use Rattle.std.proofs.Common.{ℕ, List}
use Rattle.debug_commands.specs.Views.{target_view}
use Rattle.prompt_texts.specs.Shown.{Puts}
use Rattle.debug_prompt.proofs.PrintedTargets.{of_answer}
use Rattle.debug_prompt.proofs.printing.print_here.Goals as goal

pub returns-clause-written : goal.returns-clause-written
returns-clause-written g c s d st =
    let written = g.O.AnswerWriter.written in
    let old = c.args.page.now in
    let new = c.print_answer-printed.new.page in
    let done = c.do_command-answer.ensures.replied s d st in
    of_answer (λ (t : List ℕ). Puts t old.has_failed new.has_failed (written old.writer) (written new.writer)) _ s d (target_view c.args.target) done.reply
    c.do_command-answer.result c.print_answer-printed.result done.is_reply done.replied.means c.print_answer-printed.ensures
