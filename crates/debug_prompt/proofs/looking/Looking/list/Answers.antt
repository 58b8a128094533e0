use Rattle.std.proofs.Common.{ℕ, List, Some, refl, sym, subst, ap, ◌∙◌}
use Rattle.prompt_scenes.specs.Holding.{held, sheet}
use Rattle.prompt_texts.specs.Shown.{Puts}
use Rattle.debug_prompt.specs.Listing.{IsPlace, ListsNamed, WritesLines}
use Rattle.debug_prompt.proofs.looking.Looking.list.Goals as goal

pub returns-in-Some-clause-listed : goal.returns-in-Some-clause-listed
returns-in-Some-clause-listed g c s d st =
    let a = c.args in
    let written = g.O.AnswerWriter.written in
    let old = a.page.now in
    let new = c.list_lines.new.page in
    let puts = λ (text : List ℕ). Puts text old.has_failed new.has_failed (written old.writer) (written new.writer) in
    let source = sheet a.scene.source in
    let frame = (held a.holding.now).frame in
    let stands = subst (λ n. IsPlace s d n c.place-here.result) c.frame.ensures (c.place-here.ensures s d st) in
    let lines = subst (WritesLines puts s d source) c.after-listed.ensures (c.list_lines.ensures s d st) in
    subst (λ named. ListsNamed puts s d source frame a.self.now.lines named a.self.now.listed (Some c.after-listed.result)) (sym c.in-Some.is ∙ c.lines_meant.ensures)
    (c.place-here.result, stands, ap (λ l. Some l) c.after-listed.ensures, lines)

pub returns-in-None-clause-listed : goal.returns-in-None-clause-listed
returns-in-None-clause-listed g c s d st =
    let a = c.args in
    let written = g.O.AnswerWriter.written in
    let old = a.page.now in
    let new = c.tell_unknown.new.page in
    let puts = λ (text : List ℕ). Puts text old.has_failed new.has_failed (written old.writer) (written new.writer) in
    subst (λ named. ListsNamed puts s d (sheet a.scene.source) (held a.holding.now).frame a.self.now.lines named a.self.now.listed a.self.now.listed) (sym c.in-None.is ∙ c.lines_meant.ensures) refl
