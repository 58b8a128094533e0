use Rattle.std.proofs.Common.{ℕ, List, Some, inl, inr, sym, subst}
use Rattle.gang_model.specs.Debugger.Debugger.{now}
use Rattle.debug_session.specs.Sessions.{bare}
use Rattle.prompt_texts.specs.Shown.{Puts}
use Rattle.prompt_values.specs.Returned.{WritesIf, WritesResult}
use Rattle.prompt_values.proofs.Bare.{bare_told}
use Rattle.prompt_values.proofs.returned.tell_if_left.Goals as goal

pub returns-then-is_left : goal.returns-then-is_left
returns-then-is_left g c s d st =
    let a = c.args in
    let written = g.O.AnswerWriter.written in
    let old = a.page.now in
    let new = c.tell_result.new.page in
    let puts = λ (text : List ℕ). Puts text old.has_failed new.has_failed (written old.writer) (written new.writer) in
    let machine = subst (λ machine. g.M.RecordedMachine.stands machine s (bare d)) (sym c.machine.ensures) st.there in
    let tells : WritesResult puts s d a.awaited a.scene.layout = elim (c.tell_result.ensures s (bare d) machine (c.depth.ensures s d st)) [
      | inl none ↦ inl none
      | inr some ↦ let (told, is, line) = some in inr (told, bare_told s d _ a.awaited a.scene.layout told is, line)
    ] in
    subst (λ b. WritesIf puts s d (Some a.awaited) b a.scene.layout) (sym c.if-is_left.true) tells
