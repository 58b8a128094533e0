use Rattle.std.proofs.Common.{ℕ, List, sym, subst, ap, ◌∙◌}
use Rattle.gang_model.specs.Texts.CommandText.{command_of}
use Rattle.debug_commands.specs.TargetViews.{target_option}
use Rattle.prompt_lines.specs.Words.{setting_text}
use Rattle.prompt_scenes.specs.Readings.{sets}
use Rattle.prompt_texts.specs.Shown.{Puts}
use Rattle.prompt_values.specs.Numbered.{kept}
use Rattle.debug_prompt.specs.Written.{WritesPrint}
use Rattle.debug_prompt.proofs.printing.print.Goals as goal

pub returns-in-Some-clause-written : goal.returns-in-Some-clause-written
returns-in-Some-clause-written g c s d st =
    let a = c.args in
    let written = g.O.AnswerWriter.written in
    let old = a.page.now in
    let new = c.print_named.new.page in
    let puts = λ (t : List ℕ). Puts t old.has_failed new.has_failed (written old.writer) (written new.writer) in
    subst (λ found. WritesPrint puts found (sets (command_of (setting_text a.text.now))) a.text.now (kept a.values.now) c.print_named.result)
    (sym (ap target_option c.in-Some.is) ∙ c.print_of.ensures) (c.print_named.ensures.written s d st)

pub returns-in-None-clause-written : goal.returns-in-None-clause-written
returns-in-None-clause-written g c s d st =
    let a = c.args in
    let written = g.O.AnswerWriter.written in
    let old = a.page.now in
    let new = c.set_or_print.new.page in
    let puts = λ (t : List ℕ). Puts t old.has_failed new.has_failed (written old.writer) (written new.writer) in
    subst (λ found. WritesPrint puts found (sets (command_of (setting_text a.text.now))) a.text.now (kept a.values.now) c.set_or_print.result)
    (sym (ap target_option c.in-None.is) ∙ c.print_of.ensures) c.set_or_print.ensures.written
