use Rattle.std.proofs.Common.{◌∙◌}
use Rattle.tests_memory.proofs.Lengths.{length_back}
use Rattle.tests_memory.proofs.records.goes_back.Goals as goal

pub words_of-requires : goal.words_of-requires
words_of-requires g c = length_back (g.T.Timeline.history c.loop-answer.timeline) (g.T.Timeline.history c.back.new.self) c.back.result c.back.ensures.answer ∙ c.loop-answer.invariant

pub loop-answer-preserved : goal.loop-answer-preserved
loop-answer-preserved g c = length_back (g.T.Timeline.history c.loop-answer.timeline) (g.T.Timeline.history c.back.new.self) c.back.result c.back.ensures.answer ∙ c.loop-answer.invariant
