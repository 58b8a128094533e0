use Rattle.std.proofs.Common.{◌≡◌, map, take}
use Rattle.std.specs.Prelude.{not}
use Rattle.lane_pure.proofs.found.Found.others.Given as goal

abbrev pub invariant-loop-is_found : goal.invariant-loop-is_found
invariant-loop-is_found l = l.others.items ≡ map not (take l.is_found-index l.is_found-items)
