use Rattle.std.proofs.Common.{subst, arith, take, map}
use Rattle.std.proofs.lemmas.List.{take_all}
use Rattle.gang_model.specs.Names.Scope.{with_params}
use Rattle.source_tree.specs.Tree.{param_view}
use Rattle.ispc_names_steps.specs.Sites.{Stands}
use Rattle.ispc_names_steps.proofs.DeclaredLists.{with_params-more, params_declared}
use Rattle.ispc_names_steps.proofs.declared.declare_params.Goals as goal

pub loop-param-preserved : goal.loop-param-preserved
loop-param-preserved c =
    let params = c.args.params.now in
    let i = c.loop-param.param-index in
    let d = c.param-item.result in
    record {
      declares = params_declared c.args.declared.now.declarations.items c.loop-param.declared.declarations.items c.declare.new.declared.declarations.items params i d c.deref.result.now
          c.loop-param-test.true c.param-item.is c.deref.ensures.value c.loop-param.invariant.declares c.in_ok-declare.ensures.declares;
      stands = λ site standings steps h.
          subst (λ s. Stands c.declare.new.declared standings s steps) (with_params-more params i d c.deref.result.now site c.loop-param-test.true c.param-item.is c.deref.ensures.value)
          (c.in_ok-declare.ensures.stands (with_params (map param_view (take i params)) site) standings steps (c.loop-param.invariant.stands site standings steps h));
    }

pub returns-clause-stands : goal.returns-clause-stands
returns-clause-stands c = λ site standings steps h.
    let params = c.args.params.now in
    subst (λ ds. Stands c.loop-param.declared standings (with_params (map param_view ds) site) steps) (take_all c.loop-param.param-index params (omega arith)) (c.loop-param.invariant.stands site standings steps h)
