use Rattle.std.proofs.Common.{◌∷◌, [], ◌++◌, ◌∙◌, sym, ap, map}
use Rattle.std.specs.Prelude.{if◌then◌else◌}
use Rattle.std.proofs.lemmas.List.{map-append}
use Rattle.adapter_replies.specs.References.{place_of}
use Rattle.adapter_replies.specs.Variables.{told_whole, variable_view, words_at}
use Rattle.adapter_replies.proofs.scopes.push_found.Goals as goal

pub returns-in_ok-push : goal.returns-in_ok-push
returns-in_ok-push g c s d v st shows =
    let old = map variable_view c.args.told.now.items in
    let told = told_whole c.args.form v (words_at s d c.args.depth v) (place_of c.args.reference) in
    let is = sym (c.is_found.ensures s d v st shows) ∙ c.if-is_found.true in
    ap (map variable_view) c.in_ok-push.ensures.items
    ∙ map-append variable_view c.args.told.now.items (c.in_ok-whole.field-0 ∷ [])
    ∙ ap (λ one. old ++ one ∷ []) (c.in_ok-whole.ensures s d v st shows)
    ∙ ap (λ b. old ++ (if b then told ∷ [] else [])) (sym is)
