-- Partings that the steps to come decide, or end.
use Rattle.std.specs.Prelude.{◌≡◌, ℕ, Bool, ◌+◌, ◌^◌, ◌<◌, List, [], Option, Some, None, if◌then◌else◌}
use Rattle.std.specs.List.{sum_by}
use Rattle.gang_types.specs.Lanes.{Lanes}
use Rattle.gang_types.specs.Masks.{lanes_of}
use Rattle.lane_counts.specs.Pending.{width_of}
use Rattle.lane_counts.specs.Steps.{Stand, next_in_frame, parts}
use Rattle.lane_meetings.specs.declared.meetings.Meetings.{Meetings}
use Rattle.lane_meetings.specs.declared.waiting.After.{After}
use Rattle.lane_meetings.specs.declared.waiting.After.TheVariants as after
use Rattle.lane_meetings.specs.declared.waiting.Ended.{Ended}
use Rattle.lane_meetings.specs.declared.waiting.Waiting.{Waiting}
use Rattle.lane_meetings.specs.declared.waiting.Stage.{Stage}
use Rattle.lane_meetings.specs.declared.waiting.Stage.TheVariants as stage
use Rattle.lane_meetings.specs.Partings.{Measure, Meeting, frame_steps, later_by, meeting, parted, rows_give, weight}

-- the lanes of a step
abbrev pub waiting_lanes : Waiting → Lanes
waiting_lanes waiting = lanes_of (width_of waiting.gang) waiting.lanes

-- what a step counts by the next step of its frame and those that follow there
abbrev pub gives : Measure → (chosen : ℕ → Option ℕ → Bool) → Waiting → Stage → (next : Option Stand) → (steps : List Stand) → ℕ
gives measure chosen waiting stage.Last next steps = if parts (waiting_lanes waiting) next then weight measure chosen waiting.line (meeting (waiting_lanes waiting) steps) else 0
gives measure chosen waiting (stage.Apart between) next steps = weight measure chosen waiting.line (later_by between (meeting (waiting_lanes waiting) steps))

-- what it counts by the steps to come
abbrev pub waiting_gives : Measure → (chosen : ℕ → Option ℕ → Bool) → List Stand → Waiting → ℕ
waiting_gives measure chosen later waiting = gives measure chosen waiting waiting.stage (next_in_frame waiting.depth later) (frame_steps waiting.depth later)

-- what steps count together
abbrev pub pending : Measure → (chosen : ℕ → Option ℕ → Bool) → List Waiting → List Stand → ℕ
pending measure chosen waiting later = sum_by (waiting_gives measure chosen later) waiting

-- how a parting ended
abbrev pub ended_as : Ended → Meeting
ended_as ended = record { at = ended.meets_at; between = ended.between }

-- what a parting that ended counts
abbrev pub ended_gives : Measure → (chosen : ℕ → Option ℕ → Bool) → Ended → ℕ
ended_gives measure chosen ended = weight measure chosen ended.line (ended_as ended)

-- what a step counts whose frame is left
abbrev pub left_gives : Measure → (chosen : ℕ → Option ℕ → Bool) → Option Ended → ℕ
left_gives measure chosen None = 0
left_gives measure chosen (Some ended) = ended_gives measure chosen ended

-- what is left of a step, by the steps to come
abbrev pub after_gives : Measure → (chosen : ℕ → Option ℕ → Bool) → List Stand → After → ℕ
after_gives measure chosen later (after.Waits waiting) = waiting_gives measure chosen later waiting
after_gives measure chosen later (after.Ends ended) = ended_gives measure chosen ended
after_gives measure chosen later after.Gone = 0

-- what has been counted, and comes with later steps
abbrev pub counted_with : Measure → (chosen : ℕ → Option ℕ → Bool) → Meetings → List Stand → ℕ
counted_with measure chosen meetings later =
    rows_give measure chosen meetings.rows.rows.items + pending measure chosen meetings.waiting.items later + parted measure chosen later

-- a count that a word holds
abbrev pub Fits : ℕ → Type 0
Fits n = n < 2 ^ 64

-- nothing has been counted
pub record IsBegun (meetings : Meetings) : Type 0 where
  pub rows : meetings.rows.rows.items ≡ []
  pub waiting : meetings.waiting.items ≡ []
