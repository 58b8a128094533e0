-- the steps of the moments before this one were written
use Rattle.std.proofs.Common.{◌≡◌, decimal, false, map, take}
use Rattle.std.specs.Io.KnownBytes.{Appends}
use Rattle.json_texts.proofs.Listing.{joined}
use Rattle.run_page.specs.Moments.{steps_of}
use Rattle.run_page.proofs.writing.write_steps.Given as goal

abbrev pub invariant-loop-number : goal.invariant-loop-number
invariant-loop-number g l =
    Appends (g.O.AnswerWriter.written l.initial.writer) (g.O.AnswerWriter.written l.writer) (joined (map (λ moment. decimal moment.taken) (take l.number l.moments))) × (g.O.AnswerWriter.has_failed l.writer ≡ false)
