use Rattle.std.proofs.Common.{List, length, take, map}
use Rattle.gang_model.specs.Names.Bindings.{dim_bindings}
use Rattle.gang_model.specs.Names.Scope.{NameStanding, Site, with_dims}
use Rattle.source_tree.specs.Tree.{dim_view}
use Rattle.ispc_names_table.specs.declared.table.Standing.{Standing}
use Rattle.ispc_names_steps.specs.Sites.{Declares, Stands}
use Rattle.ispc_names_steps.proofs.declared.declare_dims.Given as goal

abbrev pub invariant-loop-dim : goal.invariant-loop-dim
invariant-loop-dim l = record {
  declares : Declares l.fn.declared.declarations.items l.declared.declarations.items (dim_bindings (length l.fn.declared.declarations.items) (map dim_view (take l.dim-index l.dims)));
  stands : (site : Site) (standings : List Standing) (steps : List NameStanding) → Stands l.fn.declared standings site steps
      → Stands l.declared standings (with_dims (map dim_view (take l.dim-index l.dims)) site) steps;
}
