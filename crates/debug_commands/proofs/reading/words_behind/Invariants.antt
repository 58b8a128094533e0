use Rattle.std.proofs.Common.{◌≡◌, drop}
use Rattle.gang_model.specs.Texts.CommandText.{words_behind}
use Rattle.debug_commands.specs.LineWords.{texts}
use Rattle.debug_commands.proofs.reading.words_behind.Given as goal

abbrev pub invariant-loop-expected : goal.invariant-loop-expected
invariant-loop-expected l = words_behind (texts (drop l.expected-index l.command)) (texts l.rest) ≡ words_behind (texts l.command) (texts l.words)
