-- the writer works
use Rattle.std.proofs.Common.{◌≡◌, false}
use Rattle.profile_texts.proofs.json.write_partings.Given as goal

abbrev pub invariant-loop-parting : goal.invariant-loop-parting
invariant-loop-parting g l = g.O.AnswerWriter.has_failed l.writer ≡ false
