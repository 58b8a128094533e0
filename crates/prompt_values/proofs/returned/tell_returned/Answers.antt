use Rattle.std.proofs.Common.{ℕ, List, Some, sym, subst}
use Rattle.prompt_texts.specs.Shown.{Puts}
use Rattle.prompt_scenes.specs.Given.{is_here}
use Rattle.prompt_values.specs.Returned.{WritesIf}
use Rattle.prompt_values.proofs.returned.tell_returned.Goals as goal

pub returns-in-Some : goal.returns-in-Some
returns-in-Some g c s d st =
    let a = c.args in
    let written = g.O.AnswerWriter.written in
    let old = a.page.now in
    let new = c.tell_if_left.new.page in
    let puts = λ (text : List ℕ). Puts text old.has_failed new.has_failed (written old.writer) (written new.writer) in
    subst (λ awaited. WritesIf puts s d awaited (is_here a.answer.now) a.scene.layout) (sym c.in-Some.is)
    (subst (λ b. WritesIf puts s d (Some c.in-Some.awaited) b a.scene.layout) c.is_here.ensures (c.tell_if_left.ensures s d st))
