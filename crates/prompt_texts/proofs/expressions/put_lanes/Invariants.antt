-- the lanes before this one were written
use Rattle.gang_types.specs.Masks.{IsGangWidth, lanes_of}
use Rattle.prompt_texts.specs.Forms.{lanes_text}
use Rattle.prompt_texts.specs.Shown.{Puts}
use Rattle.prompt_texts.proofs.expressions.put_lanes.Given as goal

abbrev pub invariant-loop-lane : goal.invariant-loop-lane
invariant-loop-lane g l =
    IsGangWidth l.lanes.width → Puts (lanes_text l.digits l.value_type (lanes_of l.lanes.width l.lanes.lanes) l.lanes.words l.lane)
    l.initial.page.has_failed l.page.has_failed (g.O.AnswerWriter.written l.initial.page.writer) (g.O.AnswerWriter.written l.page.writer)
