use Rattle.std.proofs.Common.{◌≡◌, ℕ, ◌<◌, ◌≤◌, length, slice_index, if◌then◌else◌}
use Rattle.gang_model.specs.Running.Lanes.{holds}
use Rattle.frame_steps.proofs.moves.targets.Given as goal

-- the lanes so far go on by their values, and the others as if they had 0
abbrev pub invariant-loop-lane : goal.invariant-loop-lane
invariant-loop-lane g l =
    (length l.targets ≡ g.row.W)
    × ((k : ℕ) → k < l.lane → slice_index l.targets k ≡ (if holds l.fn.values k then l.fn.yes else l.fn.no))
    × ((k : ℕ) → l.lane ≤ k → k < g.row.W → slice_index l.targets k ≡ l.fn.no)
