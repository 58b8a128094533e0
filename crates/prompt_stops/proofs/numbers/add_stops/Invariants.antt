-- the numbers that were read are added, if they are named
use Rattle.std.proofs.Common.{◌≡◌, ◌≤◌, ◌++◌, length, map, take}
use Rattle.std.specs.Prelude.{filter}
use Rattle.prompt_lines.specs.Numbers.{names_number}
use Rattle.prompt_stops.proofs.numbers.add_stops.Given as goal

abbrev pub invariant-loop-entry : goal.invariant-loop-entry
invariant-loop-entry l =
    (l.numbers.items ≡ take 80 (l.initial.numbers.items ++ filter (λ number. names_number number l.text) (map (λ entry. entry.number) (take l.entry-index l.stops)))) × (length l.numbers.items ≤ 80)
