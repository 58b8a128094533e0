use Rattle.std.proofs.Common.{◌≡◌, ◌-◌, length, drop, map}
use Rattle.gang_model.specs.Types.Resolved.{global_entries}
use Rattle.source_tree.specs.Tree as parsed
use Rattle.type_check.proofs.globals.declared_globals.Given as goal

-- the last variables of the file are declared
abbrev pub invariant-loop-later : goal.invariant-loop-later
invariant-loop-later l =
    l.scope.entries ≡ global_entries (length l.globals - l.later) (map (λ g. parsed.global_view g.now) (drop (length l.globals - l.later) l.globals))
