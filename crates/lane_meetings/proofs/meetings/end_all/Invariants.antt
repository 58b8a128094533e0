-- those before this one have been counted
use Rattle.std.proofs.Common.{◌≡◌, ℕ, ◌+◌, Bool, [], Option, take}
use Rattle.lane_meetings.specs.Partings.{Measure, AreDistinct, rows_give}
use Rattle.lane_meetings.specs.Pending.{Fits, pending}
use Rattle.lane_meetings.proofs.meetings.end_all.Given as goal

abbrev pub invariant-loop-step : goal.invariant-loop-step
invariant-loop-step l = record {
  counts : (measure : Measure) (chosen : ℕ → Option ℕ → Bool) → Fits (rows_give measure chosen l.initial.rows.rows.items + pending measure chosen l.fn.waiting [])
      → rows_give measure chosen l.rows.rows.items ≡ rows_give measure chosen l.initial.rows.rows.items + pending measure chosen (take l.step-index l.fn.waiting) [];
  distinct : AreDistinct l.initial.rows.rows.items → AreDistinct l.rows.rows.items;
}
