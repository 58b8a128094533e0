-- the marks of the lanes before this one were written
use Rattle.std.proofs.Common.{take}
use Rattle.gang_types.specs.Masks.{IsGangWidth, lanes_of}
use Rattle.prompt_texts.specs.Shown.{Puts, marks}
use Rattle.prompt_texts.proofs.places.put_marks.Given as goal

abbrev pub invariant-loop-lane : goal.invariant-loop-lane
invariant-loop-lane g l =
    IsGangWidth l.width → Puts (marks (take l.lane (lanes_of l.width l.lanes)))
    l.initial.page.has_failed l.page.has_failed (g.O.AnswerWriter.written l.initial.page.writer) (g.O.AnswerWriter.written l.page.writer)
