-- the braces before a place are counted, and no place before it declares the function
use Rattle.std.proofs.Common.{◌≡◌, ◌≤◌, ◌-◌, length}
use Rattle.prompt_lines.specs.Sources.{count_before, declares, first_place}
use Rattle.prompt_lines.proofs.sources.function_place.Given as goal

abbrev pub invariant-loop-place : goal.invariant-loop-place
invariant-loop-place l =
    (l.opened ≡ count_before 123 l.text l.place) × (l.closed ≡ count_before 125 l.text l.place)
    × (l.opened ≤ l.place) × (l.closed ≤ l.place)
    × (first_place (declares l.text l.name) (length l.text) 0 ≡ first_place (declares l.text l.name) (length l.text - l.place) l.place)
