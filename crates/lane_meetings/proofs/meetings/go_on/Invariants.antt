-- those before this one have been counted, or are kept
use Rattle.std.proofs.Common.{◌≡◌, ℕ, ◌+◌, Bool, List, ◌∷◌, Option, take}
use Rattle.lane_counts.specs.Steps.{Stand}
use Rattle.lane_counts.specs.Tallies.{IsAt}
use Rattle.lane_meetings.specs.Partings.{Measure, AreDistinct, rows_give}
use Rattle.lane_meetings.specs.Pending.{Fits, pending}
use Rattle.lane_meetings.proofs.meetings.go_on.Given as goal

abbrev pub invariant-loop-step : goal.invariant-loop-step
invariant-loop-step l = record {
  counts : (measure : Measure) (chosen : ℕ → Option ℕ → Bool) (stand : Stand) (later : List Stand) → IsAt l.fn.at stand
      → Fits (rows_give measure chosen l.initial.rows.rows.items + pending measure chosen l.initial.kept.items later + pending measure chosen l.fn.waiting (stand ∷ later))
      → rows_give measure chosen l.rows.rows.items + pending measure chosen l.kept.items later
      ≡ rows_give measure chosen l.initial.rows.rows.items + pending measure chosen l.initial.kept.items later + pending measure chosen (take l.step-index l.fn.waiting) (stand ∷ later);
  distinct : AreDistinct l.initial.rows.rows.items → AreDistinct l.rows.rows.items;
}
