-- the writer still works
use Rattle.std.proofs.Common.{◌≡◌, false}
use Rattle.tests_devices.specs.Devices.{writer_failed}
use Rattle.tests_debugger.proofs.answers.told.Given as goal

abbrev pub invariant-loop-answer : goal.invariant-loop-answer
invariant-loop-answer l = writer_failed l.writer ≡ false
