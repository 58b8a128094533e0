use Rattle.std.proofs.Common.{◌∙◌, sym, ap, subst}
use Rattle.std.specs.Prelude.{option_map, slice_get}
use Rattle.gang_types.specs.declared.places.VarId.TheVariants.{Local}
use Rattle.gang_model.specs.Names.Scope.{Binding, names_at}
use Rattle.source_tree.specs.Tree.{tree_view}
use Rattle.ispc_names.specs.Tables.{AreTablesOf}
use Rattle.ispc_names.proofs.TableSteps.{scope-in}
use Rattle.ispc_names.proofs.named.Named.scope_at.Goals as goal

pub returns-in_err-number : goal.returns-in_err-number
returns-in_err-number c =
    let source = tree_view c.args.self.now in
    let are : AreTablesOf source c.deref.result.now =
    subst (λ t. AreTablesOf (tree_view t) c.deref.result.now) c.self.view_is (subst (AreTablesOf (tree_view c.self.inside.tree)) (sym c.deref.ensures.value) c.self.invariant.1) in
    let t = c.in_ok-table.table.now in
    let read = c.in_ok-table.ensures.lookup in
    let is = scope-in source c.deref.result.now are c.args.spot.function.0 t read.3.0 read.1 in
    c.from_residual-in_err-number.ensures ∙ (ap (option_map Local) (sym c.in_err-number.was) ∙ c.listed.ensures
    ∙ ap (λ ss. option_map (λ (b : Binding). b.id) (slice_get (names_at (slice_get ss c.args.spot.number)) c.args.k)) (sym is))

pub returns : goal.returns
returns c =
    let source = tree_view c.args.self.now in
    let are : AreTablesOf source c.deref.result.now =
    subst (λ t. AreTablesOf (tree_view t) c.deref.result.now) c.self.view_is (subst (AreTablesOf (tree_view c.self.inside.tree)) (sym c.deref.ensures.value) c.self.invariant.1) in
    let t = c.in_ok-table.table.now in
    let read = c.in_ok-table.ensures.lookup in
    let is = scope-in source c.deref.result.now are c.args.spot.function.0 t read.3.0 read.1 in
    ap (option_map Local) (sym c.in_ok-number.was) ∙ c.listed.ensures
    ∙ ap (λ ss. option_map (λ (b : Binding). b.id) (slice_get (names_at (slice_get ss c.args.spot.number)) c.args.k)) (sym is)
