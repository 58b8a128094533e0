use Rattle.std.proofs.Common.{◌≡◌, ◌≤◌, take, length}
use Rattle.gang_model.specs.Names.Scope.{declaration}
use Rattle.ispc_names_table.specs.Scopes.{newest_first, linked, in_scope}
use Rattle.ispc_names_table.proofs.look_ups.found.Given as goal

abbrev pub invariant-loop-link : goal.invariant-loop-link
invariant-loop-link l = record {
  within : l.below ≤ length l.declarations;
  same : declaration (linked (newest_first (take l.below l.declarations)) l.link) l.name ≡ declaration (in_scope l.declarations l.fn.innermost) l.name;
}

abbrev pub decreases-loop-link : goal.decreases-loop-link
decreases-loop-link l = l.below
