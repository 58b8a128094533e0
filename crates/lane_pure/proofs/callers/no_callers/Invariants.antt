use Rattle.std.proofs.Common.{◌≡◌, []}
use Rattle.std.specs.Prelude.{replicate}
use Rattle.lane_pure.specs.Callers.{lists}
use Rattle.lane_pure.proofs.callers.no_callers.Given as goal

abbrev pub invariant-loop : goal.invariant-loop
invariant-loop l = lists l.callers.items ≡ replicate l.counter []
