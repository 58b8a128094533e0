-- those so far are judged
use Rattle.std.proofs.Common.{take}
use Rattle.adapter_session.specs.Judged.{AreJudged, of_line}
use Rattle.adapter_session.proofs.judging.judged_lines.Given as goal

abbrev pub invariant-loop-line : goal.invariant-loop-line
invariant-loop-line l = AreJudged of_line (take l.line-index l.lines) l.judged.items
