use Rattle.std.proofs.Common.{◌∙◌, ◌++◌, sym, ap, refl}
use Rattle.std.specs.Str.Lossy.{utf8_lossy}
use Rattle.adapter_replies.specs.Variables.{part_kind, type_name, waits_at}
use Rattle.adapter_replies.specs.Waiting.{position_lanes}
use Rattle.adapter_replies.proofs.ToldVariables.{made_same}
use Rattle.adapter_replies.proofs.parts.part.Goals as goal

pub returns : goal.returns
returns g c s d v st (named, shown) below =
    let name = c.in_ok-push_str.ensures.bytes
    ∙ ap (λ front. front ++ c.as_str.result.now) (c.in_ok-name.ensures.lossy ∙ ap utf8_lossy named)
    ∙ ap (λ text. utf8_lossy v.name ++ text) (c.as_str.ensures.value ∙ c.in_ok-format.ensures.ok) in
    let type = c.in_ok-from_str.ensures.ok ∙ c.type_name.ensures ∙ ap type_name (sym shown.type) in
    let kind = c.part_kind.ensures ∙ ap part_kind (c.waits_at.ensures ∙ ap (λ is_array. waits_at (position_lanes c.args.position) is_array c.args.index) (sym shown.is_array)) in
    made_same name (c.in_ok-element_text.ensures s d v st shown below) type kind (sym shown.is_constant) refl refl
