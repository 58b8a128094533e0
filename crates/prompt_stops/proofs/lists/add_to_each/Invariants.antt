-- the line is one of those that were come to
use Rattle.std.proofs.Common.{◌≡◌, drop}
use Rattle.prompt_lines.specs.Words.{held_text}
use Rattle.prompt_stops.specs.Listed.{with_each}
use Rattle.prompt_stops.proofs.lists.add_to_each.Given as goal

abbrev pub invariant-loop-number : goal.invariant-loop-number
invariant-loop-number g l = with_each (drop l.number-index l.numbers) (held_text l.line) l.lines.items ≡ with_each l.numbers (held_text l.line) l.initial.lines.items
