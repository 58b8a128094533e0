use Rattle.std.proofs.Common.{ap, ◌∙◌, string_bytes}
use Rattle.adapter_server.specs.Writing.{console_line}
use Rattle.adapter_server.proofs.ConsoleLines.{one_more}
use Rattle.adapter_server.proofs.writing.text_lines.Goals as goal

pub loop-text-preserved : goal.loop-text-preserved
loop-text-preserved c =
    one_more string_bytes console_line c.args.texts.now c.loop-text.text-index _ c.loop-text.lines.items c.push.new.self.items c.in_ok-console_line.field-0 c.loop-text-test.true c.loop-text.invariant c.in_ok-push.ensures.items
    (c.in_ok-console_line.ensures ∙ ap console_line (c.as_str.ensures.value ∙ ap string_bytes c.text-item.is))
