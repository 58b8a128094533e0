-- those so far are judged
use Rattle.std.proofs.Common.{take}
use Rattle.adapter_session.specs.Judged.{AreJudged, of_function}
use Rattle.adapter_session.proofs.judging.judged_functions.Given as goal

abbrev pub invariant-loop-function : goal.invariant-loop-function
invariant-loop-function l = AreJudged of_function (take l.function-index l.functions) l.judged.items
