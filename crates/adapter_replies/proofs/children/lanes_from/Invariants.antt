-- the lanes before this one
use Rattle.std.proofs.Common.{◌≡◌, ◌+◌, ◌≤◌, map}
use Rattle.std.specs.List.{range_with_len}
use Rattle.gang_types.specs.Masks.{IsGangWidth, lanes_of}
use Rattle.adapter_replies.specs.Children.{told_lane}
use Rattle.adapter_replies.specs.Variables.{variable_view}
use Rattle.adapter_replies.proofs.children.lanes_from.Given as goal

abbrev pub invariant-loop-offset : goal.invariant-loop-offset
invariant-loop-offset l =
    IsGangWidth l.lanes.width → l.first + l.count ≤ l.lanes.width
    → map variable_view l.told.items ≡ map (told_lane l.form l.value_type (lanes_of l.lanes.width l.lanes.lanes) l.lanes.words) (range_with_len l.first l.offset)
