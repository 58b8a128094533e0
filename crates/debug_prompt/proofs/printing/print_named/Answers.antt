use Rattle.std.proofs.Common.{ℕ, List}
use Rattle.std.specs.Prelude.{drop}
use Rattle.debug_commands.specs.Views.{target_view}
use Rattle.value_digits.specs.declared.digits.Digits.TheVariants as in_digits
use Rattle.prompt_texts.specs.Shown.{Puts}
use Rattle.prompt_values.proofs.WrittenForms.{of_expression}
use Rattle.debug_prompt.proofs.PrintedTargets.{of_target}
use Rattle.debug_prompt.proofs.printing.print_named.Goals as goal

pub returns-in-Some-clause-written : goal.returns-in-Some-clause-written
returns-in-Some-clause-written g c s d st =
    let written = g.O.AnswerWriter.written in
    let old = c.args.page.now in
    let new = c.print_instead.new.page in
    of_expression (λ (t : List ℕ). Puts t old.has_failed new.has_failed (written old.writer) (written new.writer)) (drop 5 c.args.text.now) in_digits.Decimal (target_view c.args.target)
    c.print_instead.result c.print_instead.ensures.written

pub returns-in-None-clause-written : goal.returns-in-None-clause-written
returns-in-None-clause-written g c s d st =
    let written = g.O.AnswerWriter.written in
    let old = c.args.page.now in
    let new = c.print_target-printed.new.page in
    of_target (λ (t : List ℕ). Puts t old.has_failed new.has_failed (written old.writer) (written new.writer)) (target_view c.args.target) (drop 5 c.args.text.now)
    c.print_target-printed.result.1 (c.print_target-printed.ensures.written s d st)
