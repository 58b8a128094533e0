use Rattle.std.proofs.Common.{◌∙◌, ap, sym}
use Rattle.ispc_names_scopes.specs.Bindings.{found_in}
use Rattle.ispc_names_scopes.specs.declared.bindings.Declaration.{Declaration}
use Rattle.ispc_names_scopes.proofs.Indexed.{after_push, environment-push, not_err}
use Rattle.ispc_names_scopes.proofs.bindings.Bindings.push.Goals as goal

pub invariant_of-self-else-is_err : goal.invariant_of-self-else-is_err
invariant_of-self-else-is_err c =
    let copied = c.in_ok-name.ensures.items_if_clones_equal (λ x y h. h) in
    let d : Declaration = record { name = c.in_ok-name.name; id = c.args.id; hides = c.innermost_in-hides.result } in
    after_push _ _ d _ _ c.in_ok-key.key c.len.result c.in_ok-push.ensures.items (c.in_ok-key.ensures.items_if_clones_equal (λ x y h. h) ∙ sym copied)
    (c.innermost_in-hides.ensures ∙ ap (found_in c.self.inside.index.entries) (sym copied)) (c.len.ensures ∙ c.self.inside.declared.ok.0) (not_err c.insert.result _ (sym c.is_err.ensures.value ∙ c.if-is_err.false) c.insert.ensures.entries) c.self.invariant

pub returns-clause-inside : goal.returns-clause-inside
returns-clause-inside c =
    let d : Declaration = record { name = c.in_ok-name.name; id = c.args.id; hides = c.innermost_in-hides.result } in
    environment-push _ _ d _ _ c.in_ok-push.ensures.items (c.in_ok-name.ensures.items_if_clones_equal (λ x y h. h)) c.self.view_is
