-- the frames below this one are as they were, and the others are gone
use Rattle.std.proofs.Common.{◌≡◌, ◌-◌, ◌≤◌, Bool, List, length, take, vec_len}
use Rattle.lane_counts.specs.declared.frames.LastStep.{LastStep}
use Rattle.lane_counts.specs.Pending.{pending}
use Rattle.lane_counts.specs.Steps.{Stand}
use Rattle.lane_counts.proofs.frames.Frames.put.Given as goal

abbrev pub invariant-loop-self : goal.invariant-loop-self
invariant-loop-self l = record {
  few : vec_len l.self.lasts ≤ l.below;
  same : (mine : LastStep → Bool) (later : List Stand) → pending mine 1 l.self.lasts.items later ≡ pending mine 1 (take l.below l.fn.self.lasts.items) later;
  frames : l.below ≤ length l.fn.self.lasts.items → l.self.lasts.items ≡ take l.below l.fn.self.lasts.items;
}

abbrev pub decreases-loop-self : goal.decreases-loop-self
decreases-loop-self l = l.below - vec_len l.self.lasts
