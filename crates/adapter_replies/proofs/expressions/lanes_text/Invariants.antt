-- the values of the lanes before this one
use Rattle.std.proofs.Common.{◌≡◌, string_bytes}
use Rattle.gang_types.specs.Masks.{IsGangWidth, lanes_of}
use Rattle.adapter_replies.specs.Expressions.{lanes_text}
use Rattle.adapter_replies.proofs.expressions.lanes_text.Given as goal

abbrev pub invariant-loop-lane : goal.invariant-loop-lane
invariant-loop-lane l = IsGangWidth l.lanes.width → string_bytes l.text ≡ lanes_text l.form l.value_type (lanes_of l.lanes.width l.lanes.lanes) l.lanes.words l.lane
