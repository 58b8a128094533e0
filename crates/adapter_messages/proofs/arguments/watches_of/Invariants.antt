-- the watches so far
use Rattle.std.proofs.Common.{◌≡◌, map, take}
use Rattle.serde_json.specs.View.{items_of, view}
use Rattle.adapter_messages.specs.Arguments.{asked_watch, each_asked, watch_in}
use Rattle.adapter_messages.proofs.arguments.watches_of.Given as goal

abbrev pub invariant-loop-watch : goal.invariant-loop-watch
invariant-loop-watch l = map asked_watch l.watches.items ≡ each_asked watch_in (items_of (map view (take l.watch-index l.watch-items)))
