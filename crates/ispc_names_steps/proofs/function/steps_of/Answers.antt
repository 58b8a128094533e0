use Rattle.std.proofs.Common.{◌≡◌, [], ◌++◌, sym, ap, ◌∙◌, map, take}
use Rattle.std.proofs.lemmas.List.{take-append-drop}
use Rattle.gang_model.specs.Names.Scope.{after_all, before_return, file_scope, function_site, standings_in_all}
use Rattle.source_tree.specs.Tree.{stmts_view, param_view}
use Rattle.ispc_names_table.specs.Scopes.{standing_view}
use Rattle.ispc_names_steps.proofs.Functions.{nothing_stands, whole_declared, whole_standings}
use Rattle.ispc_names_steps.proofs.Growth.{lists-one, reaches-more}
use Rattle.ispc_names_steps.proofs.function.steps_of.Goals as goal

pub returns-clause-steps : goal.returns-clause-steps
returns-clause-steps c = λ source.
    let f = c.args.function.now in
    let ps = c.deref.result.now in
    let first = c.split_at.result.0.now in
    let rest = c.split_at.result.1.now in
    let xs = c.deref-2.result.now in
    let n = c.len_before_return.result in
    let whole : first ++ rest ≡ f.body.items =
    ap (λ z. z ++ rest) c.split_at.ensures.front ∙ ap (λ z. take n xs ++ z) c.split_at.ensures.back ∙ take-append-drop n xs ∙ c.deref-2.ensures.value in
    let before : stmts_view first ≡ before_return (stmts_view f.body.items) =
    ap stmts_view c.split_at.ensures.front ∙ ap (λ ys. stmts_view (take n ys)) (c.deref-2.ensures.value ∙ sym c.deref-3.ensures.value)
    ∙ c.len_before_return.ensures.before ∙ ap (λ ys. before_return (stmts_view ys)) c.deref-3.ensures.value in
    let site = function_site (file_scope source) (map param_view ps) in
    let p = c.in_ok-declare_params.ensures.stands (record { environment = file_scope source; here = []; next = 0 }) c.new-standings.result.items []
    (nothing_stands c.new.result.items c.new-standings.result.items source c.new.ensures.items c.new-standings.ensures.items) in
    let a = c.in_ok-list_steps.ensures.stands site [] p in
    let steps = standings_in_all (stmts_view first) site in
    let b = c.in_ok-list_steps-2.ensures.stands (after_all (stmts_view first) site) steps a in
    let inner = c.list_steps.new.declared.innermost in
    let D2 = c.list_steps.new.declared.declarations.items in
    let D3 = c.list_steps-2.new.declared.declarations.items in
    let closing = reaches-more D2 D3 _ c.in_ok-list_steps-2.ensures.declares inner (after_all (stmts_view first) site).environment a.reaches in
    let all = lists-one D3 inner f.closing (after_all (stmts_view first) site).environment c.list_steps-2.new.standings.items
    (steps ++ standings_in_all (stmts_view rest) (after_all (stmts_view first) site)) closing b.lists in
    ap (map (standing_view D3)) c.in_ok-push.ensures.items ∙ all.names ∙ whole_standings f ps first rest (file_scope source) c.deref.ensures.value whole before

pub returns-clause-declared : goal.returns-clause-declared
returns-clause-declared c =
    let f = c.args.function.now in
    let ps = c.deref.result.now in
    let first = c.split_at.result.0.now in
    let rest = c.split_at.result.1.now in
    let xs = c.deref-2.result.now in
    let n = c.len_before_return.result in
    let whole : first ++ rest ≡ f.body.items =
    ap (λ z. z ++ rest) c.split_at.ensures.front ∙ ap (λ z. take n xs ++ z) c.split_at.ensures.back ∙ take-append-drop n xs ∙ c.deref-2.ensures.value in
    whole_declared f ps first rest c.new.result.items c.declare_params.new.declared.declarations.items c.list_steps.new.declared.declarations.items c.list_steps-2.new.declared.declarations.items
    c.new.ensures.items c.deref.ensures.value whole c.in_ok-declare_params.ensures.declares c.in_ok-list_steps.ensures.declares c.in_ok-list_steps-2.ensures.declares
