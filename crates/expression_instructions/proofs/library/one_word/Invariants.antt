use Rattle.std.proofs.Common.{◌≡◌, ℕ, ◌<◌, true, slice_index}
use Rattle.gang_types.specs.Lanes.{has}
use Rattle.gang_types.specs.Masks.{lanes_of}
use Rattle.expression_instructions.proofs.library.one_word.Given as goal

-- the lanes so far have the first word
abbrev pub invariant-loop-lane : goal.invariant-loop-lane
invariant-loop-lane g l = (k : ℕ) → k < l.lane → has (lanes_of g.row.W l.mask) k ≡ true → slice_index l.words k ≡ l.first
