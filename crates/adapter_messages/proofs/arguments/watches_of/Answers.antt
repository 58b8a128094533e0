use Rattle.std.proofs.Common.{[], ◌∷◌, ap, ◌∙◌, map}
use Rattle.std.proofs.lemmas.List.{map-append}
use Rattle.adapter_messages.specs.Arguments.{asked_watch, watch_in}
use Rattle.adapter_messages.proofs.Lists.{asked_next}
use Rattle.adapter_messages.proofs.arguments.watches_of.Goals as goal

pub loop-watch-preserved : goal.loop-watch-preserved
loop-watch-preserved c =
    let old = c.loop-watch.watches.items in
    let one = c.data_breakpoint.result in
    asked_next watch_in _ c.loop-watch.watch-index c.watch-item.result (map asked_watch old) (map asked_watch c.push.new.self.items) (asked_watch one) c.loop-watch-test.true c.watch-item.is
    c.loop-watch.invariant c.data_breakpoint.ensures (ap (map asked_watch) c.in_ok-push.ensures.items ∙ map-append asked_watch old (one ∷ []))
