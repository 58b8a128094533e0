use Rattle.std.proofs.Common.{◌≡◌, ◌++◌, ◌-◌, drop, map, length}
use Rattle.gang_model.specs.Names.Scope.{file_bindings}
use Rattle.source_tree.specs.Tree.{global_view}
use Rattle.ispc_names_declarations.proofs.file_scope.declare_globals.Given as goal

-- the last variables of the file are declared
abbrev pub invariant-loop-later : goal.invariant-loop-later
invariant-loop-later l =
    l.scopes.environment ≡ file_bindings (length l.globals - l.later) (map (λ g. global_view g.now) (drop (length l.globals - l.later) l.globals)) ++ l.fn.scopes.environment
