-- the bytes before this one were written as they are shown, and the last of them, or none, is noted
use Rattle.std.proofs.Common.{◌≡◌, ◌∷◌, get_or, take}
use Rattle.prompt_texts.specs.Shown.{Puts, masked}
use Rattle.prompt_texts.proofs.page.Page.put_masked.Given as goal

abbrev pub invariant-loop-at : goal.invariant-loop-at
invariant-loop-at g l = (l.before ≡ get_or (0 ∷ l.text) l.at 0) × Puts (take l.at (masked l.text))
    l.initial.self.has_failed l.self.has_failed (g.O.AnswerWriter.written l.initial.self.writer) (g.O.AnswerWriter.written l.self.writer)
