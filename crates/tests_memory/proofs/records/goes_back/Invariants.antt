-- there are three words
use Rattle.std.proofs.Common.{◌≡◌, length}
use Rattle.tests_memory.proofs.records.goes_back.Given as goal

abbrev pub invariant-loop-answer : goal.invariant-loop-answer
invariant-loop-answer g l = length (g.T.Timeline.history l.timeline).words ≡ 3
