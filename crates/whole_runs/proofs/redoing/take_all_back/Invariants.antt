-- so many events were taken back
use Rattle.std.proofs.Common.{◌≡◌, ◌+◌, length}
use Rattle.whole_runs.specs.Runs.{KeepsCopies}
use Rattle.whole_runs.proofs.redoing.take_all_back.Given as goal

abbrev pub invariant-loop-taken : goal.invariant-loop-taken
invariant-loop-taken g l = record {
  left : length (g.M.RecordedMachine.history l.machine).past + l._taken ≡ length (g.M.RecordedMachine.history l.initial.machine).past;
  copies : KeepsCopies g.M.BeginsAgain.can_have g.M.BeginsAgain.copies l.initial.machine l.machine;
}
