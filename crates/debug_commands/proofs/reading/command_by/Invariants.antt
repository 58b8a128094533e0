use Rattle.std.proofs.Common.{◌≡◌, drop, map}
use Rattle.gang_model.specs.Texts.CommandText as text
use Rattle.debug_commands.specs.LineWords.{texts}
use Rattle.debug_commands.specs.CommandTable.{entry_view}
use Rattle.debug_commands.proofs.reading.command_by.Given as goal

abbrev pub invariant-loop-command : goal.invariant-loop-command
invariant-loop-command l = text.command_by (map entry_view (drop l.command-index l.entries)) (texts l.words) ≡ text.command_by (map entry_view l.entries) (texts l.words)
