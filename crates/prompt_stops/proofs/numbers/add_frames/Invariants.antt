-- the numbers that were read are added, if they are named
use Rattle.std.proofs.Common.{◌≡◌, ◌≤◌, ◌++◌, length, map, take}
use Rattle.std.specs.Prelude.{filter}
use Rattle.conditional_stops.specs.Watches.{watch_number}
use Rattle.prompt_lines.specs.Numbers.{names_number}
use Rattle.prompt_stops.proofs.numbers.add_frames.Given as goal

abbrev pub invariant-loop-watch : goal.invariant-loop-watch
invariant-loop-watch l =
    (l.numbers.items ≡ take 80 (l.initial.numbers.items ++ filter (λ number. names_number number l.text) (map watch_number (take l.watch-index l.frames)))) × (length l.numbers.items ≤ 80)
