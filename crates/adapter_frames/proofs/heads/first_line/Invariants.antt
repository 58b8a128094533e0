-- CR LF stands nowhere in front
use Rattle.std.proofs.Common.{◌≡◌, ℕ, ◌<◌, false, nat_eq, drop}
use Rattle.std.specs.List.{starts_with}
use Rattle.adapter_frames.specs.Heads.{line_end}
use Rattle.adapter_frames.proofs.heads.first_line.Given as goal

abbrev pub invariant-loop-at : goal.invariant-loop-at
invariant-loop-at l = (k : ℕ) → k < l.at → starts_with nat_eq (drop k l.bytes) line_end ≡ false
