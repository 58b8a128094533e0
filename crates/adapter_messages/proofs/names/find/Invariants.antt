-- the names so far are others
use Rattle.std.proofs.Common.{◌≡◌, map, drop}
use Rattle.adapter_messages.specs.Names.{find_named, pair_view}
use Rattle.adapter_messages.proofs.names.find.Given as goal

abbrev pub invariant-loop-text : goal.invariant-loop-text
invariant-loop-text l = find_named (map pair_view (drop l.text-index l.names)) l.command ≡ find_named (map pair_view l.names) l.command
