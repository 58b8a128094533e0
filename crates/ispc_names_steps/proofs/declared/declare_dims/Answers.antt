use Rattle.std.proofs.Common.{subst, arith, take, map}
use Rattle.std.proofs.lemmas.List.{take_all}
use Rattle.gang_model.specs.Names.Scope.{with_dims}
use Rattle.source_tree.specs.Tree.{dim_view}
use Rattle.ispc_names_steps.specs.Sites.{Stands}
use Rattle.ispc_names_steps.proofs.DeclaredLists.{with_dims-more, dims_declared}
use Rattle.ispc_names_steps.proofs.declared.declare_dims.Goals as goal

pub loop-dim-preserved : goal.loop-dim-preserved
loop-dim-preserved c =
    let dims = c.args.dims.now in
    let i = c.loop-dim.dim-index in
    let d = c.dim-item.result in
    record {
      declares = dims_declared c.args.declared.now.declarations.items c.loop-dim.declared.declarations.items c.declare.new.declared.declarations.items dims i d c.deref.result.now
          c.loop-dim-test.true c.dim-item.is c.deref.ensures.value c.loop-dim.invariant.declares c.in_ok-declare.ensures.declares;
      stands = λ site standings steps h.
          subst (λ s. Stands c.declare.new.declared standings s steps) (with_dims-more dims i d c.deref.result.now site c.loop-dim-test.true c.dim-item.is c.deref.ensures.value)
          (c.in_ok-declare.ensures.stands (with_dims (map dim_view (take i dims)) site) standings steps (c.loop-dim.invariant.stands site standings steps h));
    }

pub returns-clause-stands : goal.returns-clause-stands
returns-clause-stands c = λ site standings steps h.
    let dims = c.args.dims.now in
    subst (λ ds. Stands c.loop-dim.declared standings (with_dims (map dim_view ds) site) steps) (take_all c.loop-dim.dim-index dims (omega arith)) (c.loop-dim.invariant.stands site standings steps h)
