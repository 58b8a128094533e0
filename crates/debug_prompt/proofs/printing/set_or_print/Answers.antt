use Rattle.std.proofs.Common.{ℕ, List, None, refl, sym, subst, ap, ◌∙◌}
use Rattle.std.specs.Prelude.{drop}
use Rattle.gang_model.specs.Texts.CommandText.{command_of}
use Rattle.command_lists.specs.Lists.{HasDone}
use Rattle.prompt_lines.specs.Words.{setting_text}
use Rattle.prompt_scenes.specs.Holding.{held}
use Rattle.prompt_texts.specs.Shown.{Puts}
use Rattle.prompt_values.specs.Numbered.{kept}
use Rattle.prompt_values.specs.Printed.{names_something}
use Rattle.debug_prompt.specs.Printing.{set_by}
use Rattle.debug_prompt.specs.Written.{WritesUnlessSet}
use Rattle.debug_prompt.proofs.PrintedTargets.{of_typed}
use Rattle.debug_prompt.proofs.UnsetCommands.{no_set}
use Rattle.debug_prompt.proofs.printing.set_or_print.Goals as goal

pub returns-then-sets-clause-done : goal.returns-then-sets-clause-done
returns-then-sets-clause-done g c s d st =
    subst (λ command. HasDone g.M.RecordedMachine.stands s (set_by s d (held c.args.holding.now) command) d c.set_spelled.new.session)
    (ap command_of (c.as_slice.ensures.value ∙ c.setting_line.ensures)) (c.set_spelled.ensures s d st)

pub returns-then-sets-clause-written : goal.returns-then-sets-clause-written
returns-then-sets-clause-written g c =
    let a = c.args in
    let written = g.O.AnswerWriter.written in
    let old = a.page.now in
    let new = c.set_spelled.new.page in
    let puts = λ (t : List ℕ). Puts t old.has_failed new.has_failed (written old.writer) (written new.writer) in
    subst (λ b. WritesUnlessSet b puts a.text.now (kept a.values.now) None) (sym (sym c.sets.ensures ∙ c.if-sets.true)) refl

pub returns-else-sets-clause-done : goal.returns-else-sets-clause-done
returns-else-sets-clause-done g c s d st =
    let a = c.args in
    subst (λ commands. HasDone g.M.RecordedMachine.stands s commands d a.session.now)
    (sym (no_set s d (held a.holding.now) (command_of (setting_text a.text.now)) (sym c.sets.ensures ∙ c.if-sets.false))) (record { after = d; leads = refl; there = st })

pub returns-else-sets-clause-written : goal.returns-else-sets-clause-written
returns-else-sets-clause-written g c =
    let a = c.args in
    let written = g.O.AnswerWriter.written in
    let old = a.page.now in
    let new = c.print_expression.new.page in
    let puts = λ (t : List ℕ). Puts t old.has_failed new.has_failed (written old.writer) (written new.writer) in
    subst (λ b. WritesUnlessSet b puts a.text.now (kept a.values.now) c.print_expression.result) (sym (sym c.sets.ensures ∙ c.if-sets.false))
    (of_typed puts (names_something a.text.now) (drop 5 a.text.now) (kept a.values.now) c.print_expression.result c.print_expression.ensures.written c.print_expression.ensures.none)
