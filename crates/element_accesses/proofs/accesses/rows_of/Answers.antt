use Rattle.std.proofs.Common.{◌≡◌, ◌∙◌, ◌+◌, ◌++◌, [], ◌∷◌, ap, subst, sym, take}
use Rattle.std.proofs.lemmas.List.{map_more}
use Rattle.element_accesses.specs.Rows.{AreRows}
use Rattle.element_accesses.specs.Views.{found_view, founds_view}
use Rattle.element_accesses.proofs.Noting.{rows_more}
use Rattle.element_accesses.proofs.accesses.rows_of.Goals as goal

pub loop-access-preserved : goal.loop-access-preserved
loop-access-preserved c =
    let p = c.args.program.now in
    let items = c.deref-access-items.result.now in
    let i = c.loop-access.access-index in
    let x = c.access-item.result in
    let rows = c.loop-access.rows.items in
    let access = c.in_ok-begun.field-0 in
    let split : founds_view (take (i + 1) items) ≡ founds_view (take i items) ++ found_view x ∷ [] =
    map_more found_view items i x c.loop-access-test.true ∙ ap (λ y. founds_view (take i items) ++ found_view y ∷ []) (sym c.access-item.is) in
    subst (λ l. AreRows p l (founds_view (take (i + 1) items))) (sym c.in_ok-push.ensures.items)
    (subst (AreRows p (rows ++ access ∷ [])) (sym split) (rows_more p rows access (founds_view (take i items)) (found_view x) c.loop-access.invariant c.in_ok-begun.ensures))
