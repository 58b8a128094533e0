-- the first lanes
use Rattle.std.proofs.Common.{◌≡◌, length, map, take}
use Rattle.std.specs.List.{range_with_len}
use Rattle.gang_types.specs.Masks.{IsGangWidth, lanes_of}
use Rattle.expression_watches.specs.LaneSights.{lane_word}
use Rattle.expression_watches.proofs.lanes.lane_words.Given as goal

abbrev pub invariant-loop-lane : goal.invariant-loop-lane
invariant-loop-lane l = record {
  long : length l.shown.items ≡ l.lane;
  words : IsGangWidth l.found.width → l.shown.items ≡ map (lane_word (lanes_of l.found.width l.found.lanes) (take l.found.width l.found.words)) (range_with_len 0 l.lane);
}
