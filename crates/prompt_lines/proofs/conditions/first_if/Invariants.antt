-- no place before this one has the word with a condition behind it
use Rattle.std.proofs.Common.{◌≡◌, ◌-◌, length}
use Rattle.prompt_lines.specs.Conditions.{is_if}
use Rattle.prompt_lines.specs.Sources.{first_place}
use Rattle.prompt_lines.proofs.conditions.first_if.Given as goal

abbrev pub invariant-loop-place : goal.invariant-loop-place
invariant-loop-place l = first_place (is_if l.text) (length l.text) 0 ≡ first_place (is_if l.text) (length l.text - l.place) l.place
