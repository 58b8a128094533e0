-- the items of the lanes before this one
use Rattle.std.proofs.Common.{◌≡◌, take}
use Rattle.gang_types.specs.Masks.{lanes_of}
use Rattle.prompt_texts.specs.Items.{lane_items}
use Rattle.prompt_texts.proofs.told.told_lanes.Given as goal

abbrev pub invariant-loop-at : goal.invariant-loop-at
invariant-loop-at l = l.items.items ≡ lane_items (lanes_of 16 l.lanes) l.from (take l.at l.words)
