use Rattle.std.proofs.Common.{[], ◌∷◌, ap, ◌∙◌, map}
use Rattle.std.proofs.lemmas.List.{map-append}
use Rattle.adapter_messages.specs.Arguments.{asked_function, function_in}
use Rattle.adapter_messages.proofs.Lists.{asked_next}
use Rattle.adapter_messages.proofs.arguments.functions_of.Goals as goal

pub loop-breakpoint-preserved : goal.loop-breakpoint-preserved
loop-breakpoint-preserved c =
    let old = c.loop-breakpoint.functions.items in
    let one = c.function_breakpoint.result in
    asked_next function_in _ c.loop-breakpoint.breakpoint-index c.breakpoint-item.result (map asked_function old) (map asked_function c.push.new.self.items) (asked_function one) c.loop-breakpoint-test.true c.breakpoint-item.is
    c.loop-breakpoint.invariant c.function_breakpoint.ensures (ap (map asked_function) c.in_ok-push.ensures.items ∙ map-append asked_function old (one ∷ []))
