-- the digits that are left give the number that all do
use Rattle.std.proofs.Common.{◌≡◌, ◌<◌, ◌^◌, drop}
use Rattle.adapter_frames.specs.Heads.{value_of}
use Rattle.adapter_frames.specs.Places.{clipped}
use Rattle.adapter_frames.proofs.heads.value.Given as goal

abbrev pub invariant-loop-digit : goal.invariant-loop-digit
invariant-loop-digit l = (l.value < 2 ^ 64) × (clipped (value_of l.value (drop l.digit-index l.digits)) ≡ clipped (value_of 0 l.digits))
