use Rattle.std.proofs.Common.{ℕ, List}
use Rattle.debug_commands.specs.Views.{target_view}
use Rattle.prompt_texts.specs.Shown.{Puts}
use Rattle.debug_prompt.proofs.PrintedTargets.{of_line}
use Rattle.debug_prompt.proofs.printing.print_at.Goals as goal

pub returns-in-Ok-clause-written : goal.returns-in-Ok-clause-written
returns-in-Ok-clause-written g c =
    let written = g.O.AnswerWriter.written in
    let old = c.args.page.now in
    let new = c.print_shown-printed.new.page in
    of_line (λ (t : List ℕ). Puts t old.has_failed new.has_failed (written old.writer) (written new.writer)) (target_view c.args.target) c.print_shown-printed.result c.print_shown-printed.ensures
