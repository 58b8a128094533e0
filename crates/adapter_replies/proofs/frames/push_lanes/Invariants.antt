-- the digits of the lanes before this one
use Rattle.std.proofs.Common.{◌≡◌, ◌++◌, take, string_bytes}
use Rattle.gang_types.specs.Masks.{lanes_of}
use Rattle.gang_model.specs.Texts.Text.{bits}
use Rattle.adapter_replies.proofs.frames.push_lanes.Given as goal

abbrev pub invariant-loop-lane : goal.invariant-loop-lane
invariant-loop-lane l = string_bytes l.text ≡ string_bytes l.initial.text ++ bits (take l.lane (lanes_of l.width l.lanes))
