use Rattle.std.proofs.Common.{List, length, take, map}
use Rattle.gang_model.specs.Names.Bindings.{param_bindings}
use Rattle.gang_model.specs.Names.Scope.{NameStanding, Site, with_params}
use Rattle.source_tree.specs.Tree.{param_view}
use Rattle.ispc_names_table.specs.declared.table.Standing.{Standing}
use Rattle.ispc_names_steps.specs.Sites.{Declares, Stands}
use Rattle.ispc_names_steps.proofs.declared.declare_params.Given as goal

abbrev pub invariant-loop-param : goal.invariant-loop-param
invariant-loop-param l = record {
  declares : Declares l.fn.declared.declarations.items l.declared.declarations.items (param_bindings (length l.fn.declared.declarations.items) (map param_view (take l.param-index l.params)));
  stands : (site : Site) (standings : List Standing) (steps : List NameStanding) → Stands l.fn.declared standings site steps
      → Stands l.declared standings (with_params (map param_view (take l.param-index l.params)) site) steps;
}
