use Rattle.std.proofs.Common.{◌∙◌, ◌++◌, ◌+◌, ◌-◌, ◌*◌, sym, ap, refl, codes, decimal}
use Rattle.std.specs.Str.Lossy.{utf8_lossy}
use Rattle.adapter_replies.specs.References.{within}
use Rattle.adapter_replies.specs.Variables.{type_name}
use Rattle.adapter_replies.proofs.ToldVariables.{made_same}
use Rattle.adapter_replies.proofs.parts.range_shown.Goals as goal

pub returns : goal.returns
returns c s d depth v (named, shown) =
    let first = c.args.range * 1000 in
    let behind = c.as_str.ensures.value ∙ c.in_ok-format.ensures.ok
    ∙ ap (λ many. codes "[" ++ (decimal first ++ (codes ".." ++ (decimal (first + many - 1) ++ codes "]")))) c.range_count-many.ensures in
    let name = c.in_ok-push_str.ensures.bytes
    ∙ ap (λ front. front ++ c.as_str.result.now) (c.in_ok-name.ensures.lossy ∙ ap utf8_lossy named)
    ∙ ap (λ text. utf8_lossy v.name ++ text) behind in
    let value = c.in_ok-format-2.ensures.ok ∙ ap (λ many. decimal many ++ codes " elements") c.range_count-many.ensures in
    let type = c.in_ok-from_str.ensures.ok ∙ c.type_name.ensures ∙ ap type_name (sym shown.type) in
    made_same name value type refl (sym shown.is_constant) refl (c.reference_of.ensures ∙ ap within c.range_of.ensures)
