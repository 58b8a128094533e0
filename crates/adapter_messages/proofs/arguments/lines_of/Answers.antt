use Rattle.std.proofs.Common.{[], ◌∷◌, ap, ◌∙◌, map}
use Rattle.std.proofs.lemmas.List.{map-append}
use Rattle.adapter_messages.specs.Arguments.{asked_breakpoint, breakpoint_in}
use Rattle.adapter_messages.proofs.Lists.{asked_next}
use Rattle.adapter_messages.proofs.arguments.lines_of.Goals as goal

pub loop-breakpoint-preserved : goal.loop-breakpoint-preserved
loop-breakpoint-preserved c =
    let old = c.loop-breakpoint.lines.items in
    let one = c.line_breakpoint.result in
    asked_next breakpoint_in _ c.loop-breakpoint.breakpoint-index c.breakpoint-item.result (map asked_breakpoint old) (map asked_breakpoint c.push.new.self.items) (asked_breakpoint one) c.loop-breakpoint-test.true c.breakpoint-item.is
    c.loop-breakpoint.invariant c.line_breakpoint.ensures (ap (map asked_breakpoint) c.in_ok-push.ensures.items ∙ map-append asked_breakpoint old (one ∷ []))
