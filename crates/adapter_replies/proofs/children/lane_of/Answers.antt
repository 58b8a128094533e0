use Rattle.std.proofs.Common.{◌∙◌, ap, refl}
use Rattle.adapter_requests.specs.declared.reply.VariableKind.TheVariants as kind
use Rattle.adapter_replies.proofs.ToldVariables.{made_same}
use Rattle.adapter_replies.proofs.children.lane_of.Goals as goal

pub returns : goal.returns
returns c gang inside =
    made_same c.in_ok-format.ensures.ok (c.in_ok-lane_text.ensures gang inside) (c.in_ok-from_str.ensures.ok ∙ c.type_name.ensures) (ap kind.Lane (c.waits.ensures gang inside)) refl refl refl
