-- the lanes before this one have their words, and the others 0
use Rattle.std.proofs.Common.{◌≡◌, ℕ, ◌<◌, ◌≤◌, length, slice_index}
use Rattle.machine_words.specs.Views.{region_view}
use Rattle.machine_words.specs.Words.{regions_in}
use Rattle.frame_steps.proofs.reading.first_words.Given as goal

abbrev pub invariant-loop-lane : goal.invariant-loop-lane
invariant-loop-lane g l = record {
  long : length l.found ≡ g.row.W;
  read : (k : ℕ) → k < l.lane → slice_index l.found k ≡ slice_index (regions_in g.T.Timeline.history g.row.W l.words (region_view l.region)) k;
  rest : (k : ℕ) → l.lane ≤ k → k < g.row.W → slice_index l.found k ≡ 0;
}
