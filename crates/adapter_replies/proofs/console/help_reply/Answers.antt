use Rattle.std.proofs.Common.{◌++◌, ◌∙◌, ap, append_assoc, Some, None}
use Rattle.adapter_replies.specs.Console.{commands_text, others_text, words_text}
use Rattle.adapter_replies.proofs.console.help_reply.Goals as goal

pub returns : goal.returns
returns c = (
  c.plain_value.ensures.value ∙ ap (λ text. Some (None, text)) (
      c.in_ok-push_str-2.ensures.bytes ∙ ap (λ text. text ++ others_text) (c.in_ok-push_str.ensures.bytes ∙ ap (λ text. text ++ words_text) c.in_ok-text.ensures)
      ∙ append_assoc commands_text words_text others_text),
  c.plain_value.ensures.closed,
)
