-- the start is that of the head in which the place is
use Rattle.std.proofs.Common.{◌≡◌, ◌≤◌}
use Rattle.prompt_lines.specs.Heads.{head_start}
use Rattle.prompt_lines.proofs.heads.head_start.Given as goal

abbrev pub invariant-loop-at : goal.invariant-loop-at
invariant-loop-at l = (l.start ≡ head_start l.text l.at) × (l.start ≤ l.at)
