use Rattle.std.proofs.Common.{◌∙◌, sym}
use Rattle.ispc_names_scopes.proofs.Indexed.{not_err}
use Rattle.ispc_names_scopes.proofs.NameIndex.{after_add, names_of-push}
use Rattle.ispc_names_scopes.proofs.functions.FunctionNames.add.Goals as goal

pub invariant_of-self-else-is_err : goal.invariant_of-self-else-is_err
invariant_of-self-else-is_err c =
    let copied = c.in_ok-name.ensures.items_if_clones_equal (λ x y h. h) in
    after_add _ _ _ _ c.in_ok-name.name c.in_ok-key.key c.in_ok-push.ensures.items (c.in_ok-key.ensures.items_if_clones_equal (λ x y h. h) ∙ sym copied)
    (not_err c.insert.result _ (sym c.is_err.ensures.value ∙ c.if-is_err.false) c.insert.ensures.keys) c.self.invariant

pub returns-clause-last : goal.returns-clause-last
returns-clause-last c =
    names_of-push _ _ c.in_ok-name.name _ _ c.in_ok-push.ensures.items (c.in_ok-name.ensures.items_if_clones_equal (λ x y h. h)) c.self.view_is
