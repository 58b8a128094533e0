-- the part stands at no place before this
use Rattle.std.proofs.Common.{◌≡◌, ◌-◌, suc, length}
use Rattle.prompt_lines.specs.Heads.{stands_at}
use Rattle.prompt_lines.specs.Sources.{first_place}
use Rattle.prompt_lines.proofs.heads.has_part.Given as goal

abbrev pub invariant-loop-place : goal.invariant-loop-place
invariant-loop-place l =
    first_place (stands_at l.part l.name) (suc (length l.name)) 0 ≡ first_place (stands_at l.part l.name) (suc (length l.name) - l.place) l.place
