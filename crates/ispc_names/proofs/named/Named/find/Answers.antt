use Rattle.std.proofs.Common.{◌∙◌, sym, ap, subst}
use Rattle.std.specs.Prelude.{option_map}
use Rattle.gang_types.specs.declared.places.VarId.TheVariants.{File, Local}
use Rattle.gang_model.specs.Names.Scope.{declaration, file_scope}
use Rattle.source_tree.specs.Tree.{tree_view}
use Rattle.ispc_names_table.proofs.InnerNames.{or_else}
use Rattle.ispc_names.specs.Tables.{AreTablesOf}
use Rattle.ispc_names.proofs.TableSteps.{found-local, found-outside, found-nowhere}
use Rattle.ispc_names.proofs.named.Named.find.Goals as goal
use Rattle.ispc_names.proofs.named.Named.find.Goals.{in-Some+in_default-local_variable, in_default}

pub returns-in-Some-local_variable : goal.returns-in-Some-local_variable
returns-in-Some-local_variable c =
    let source = tree_view c.args.self.now in
    let are : AreTablesOf source c.deref.result.now =
    subst (λ t. AreTablesOf (tree_view t) c.deref.result.now) c.self.view_is (subst (AreTablesOf (tree_view c.self.inside.tree)) (sym c.deref.ensures.value) c.self.invariant.1) in
    sym (found-local source c.args.spot c.in-Some.spot c.args.name.now c.local_variable.result c.in-Some.is (c.local_variable.ensures source are)
    ∙ ap (λ o. or_else (option_map Local o) (declaration (file_scope source) c.args.name.now)) c.in-Some-local_variable.is)

pub returns-in_err-number : goal.returns-in_err-number
returns-in_err-number c =
    let source = tree_view c.args.self.now in
    let file = ap (λ t. declaration (file_scope (tree_view t)) c.args.name.now) c.self.view_is in
    c.from_residual.ensures ∙ (ap (option_map File) (sym c.in_err-number.was) ∙ c.file_variable.ensures ∙ file
    ∙ elim c.match-spot.branch [
      | in-Some+in_default-local_variable w ↦
          let are : AreTablesOf source w.deref.result.now =
          subst (λ t. AreTablesOf (tree_view t) w.deref.result.now) c.self.view_is (subst (AreTablesOf (tree_view c.self.inside.tree)) (sym w.deref.ensures.value) c.self.invariant.1) in
          found-outside source c.args.spot w.in-Some.spot c.args.name.now w.local_variable.result w.in-Some.is (w.local_variable.ensures source are) w.in_default-local_variable.is
      | in_default w ↦ found-nowhere source c.args.spot c.args.name.now w.in_default.is
    ])

pub returns : goal.returns
returns c =
    let source = tree_view c.args.self.now in
    let file = ap (λ t. declaration (file_scope (tree_view t)) c.args.name.now) c.self.view_is in
    ap (option_map File) (sym c.in_ok-number.was) ∙ c.file_variable.ensures ∙ file
    ∙ elim c.match-spot.branch [
      | in-Some+in_default-local_variable w ↦
          let are : AreTablesOf source w.deref.result.now =
          subst (λ t. AreTablesOf (tree_view t) w.deref.result.now) c.self.view_is (subst (AreTablesOf (tree_view c.self.inside.tree)) (sym w.deref.ensures.value) c.self.invariant.1) in
          found-outside source c.args.spot w.in-Some.spot c.args.name.now w.local_variable.result w.in-Some.is (w.local_variable.ensures source are) w.in_default-local_variable.is
      | in_default w ↦ found-nowhere source c.args.spot c.args.name.now w.in_default.is
    ]
