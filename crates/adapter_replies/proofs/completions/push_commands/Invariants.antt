-- those of the names so far
use Rattle.std.proofs.Common.{◌≡◌, ◌++◌, length, map, take}
use Rattle.adapter_replies.specs.Completions.{completed, completion_view}
use Rattle.adapter_replies.proofs.completions.push_commands.Given as goal

abbrev pub invariant-loop-name : goal.invariant-loop-name
invariant-loop-name l = map completion_view l.told.items ≡ map completion_view l.fn.told.items ++ completed l.front (length l.front) (map (λ name. name.now) (take l.name-index l.names))
