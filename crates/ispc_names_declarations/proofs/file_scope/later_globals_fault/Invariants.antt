use Rattle.std.proofs.Common.{◌≡◌, drop, map}
use Rattle.gang_model.specs.Source.Judged.{least_fault, merged}
use Rattle.source_tree.specs.Tree.{global_view}
use Rattle.ispc_names_declarations.specs.NamesBefore.{later_globals}
use Rattle.ispc_names_declarations.proofs.file_scope.later_globals_fault.Given as goal

-- what is found so far and what is left decide
abbrev pub invariant-loop-global : goal.invariant-loop-global
invariant-loop-global l =
    least_fault (later_globals (map (λ g. global_view g.now) l.fn.globals) l.fn.before)
    ≡ merged l.first (least_fault (later_globals (map (λ g. global_view g.now) (drop l.global-index l.globals)) l.before))
