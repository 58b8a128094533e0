-- The steps of a run so far, and what `info lanes` tells of them.
use Rattle.std.specs.Prelude.{◌≡◌, ℕ, ◌==◌, ◌&&◌, ◌≤◌, ◌<◌, ◌^◌, Bool, true, false, List, [], ◌∷◌, ◌++◌, length, Option, Some, None, slice_get}
use Rattle.gang_types.specs.declared.places.Spot.{Spot}
use Rattle.gang_model.specs.Types.Tree.{Program}
use Rattle.gang_model.specs.Running.State.{State}
use Rattle.gang_model.specs.Debugger.Debugger.{Debugger, Setting, has_ended, kept_steps, now}
use Rattle.gang_model.specs.Texts.Text.{Bytes}
use Rattle.debug_traits.specs.Frames.{spot_at}
use Rattle.lane_counts.specs.declared.counts.Counts.{Counts}
use Rattle.lane_counts.specs.Counted.{IsFew}
use Rattle.lane_counts.specs.Shares.{lost, share}
use Rattle.lane_counts.specs.Steps.{Stand, at_line, each, in_function}
use Rattle.lane_counts.specs.Tallies.{unparted_of, unparted_with}
use Rattle.lane_profile.specs.Stands.{name_of, stand_of, stands_of}
use Rattle.prompt_texts.specs.declared.lanes.LaneShare.{LaneShare}
use Rattle.prompt_texts.specs.LaneShares.{function_text, line_text, table_text}
use Rattle.prompt_texts.specs.Shown.{Puts}
use Rattle.prompt_scenes.specs.SelectedFrame.{depth_of}
use Rattle.prompt_scenes.specs.Holding.{Held}
use Rattle.prompt_moves.specs.Moments.{is_unset, is_whole, led, to_moment}
use Rattle.prompt_walks.specs.declared.lanes_told.Chosen.{Chosen}
use Rattle.prompt_walks.specs.declared.lanes_told.SoFar.{SoFar}

-- ---- the steps so far

-- the debugger at the start of the run
abbrev pub at_start : Setting → Debugger → Debugger
at_start s d = led s (to_moment 0 s d) d

-- where the steps of the run stand that lead to the moment: as many from its start on as can be taken back
abbrev pub stands_so_far : Setting → Debugger → List Stand
stands_so_far s d = stands_of s.program (kept_steps d) (now s (at_start s d))

-- ---- the line and the function whose steps are counted by themselves

-- those of the top frame, unless the program has ended
abbrev pub ChoosesTop : Program → State → Option Chosen → Type 0
ChoosesTop p state None = has_ended state ≡ true
ChoosesTop p state (Some chosen) = (has_ended state ≡ false) × (chosen.line ≡ (stand_of p state).line) × (chosen.function ≡ (stand_of p state).spot.function.0)

-- those of an outer frame, at a depth: the function is that of the step that made the frame above it
abbrev pub ChoosesAt : Program → (depth : ℕ) → State → Option Chosen → Type 0
ChoosesAt p deep state None = Unit {0}
ChoosesAt p deep state (Some chosen) = (spot : Spot) × (spot_at p deep state ≡ Some spot) × (chosen.function ≡ spot.function.0)

-- those of the frame that is selected
abbrev pub ChoosesBy : (is_top : Bool) → Setting → Debugger → Held → Option Chosen → Type 0
ChoosesBy true s d h chosen = ChoosesTop s.program (now s d) chosen
ChoosesBy false s d h chosen = ChoosesAt s.program (depth_of s d h) (now s d) chosen

abbrev pub Chooses : Setting → Debugger → Held → Option Chosen → Type 0
Chooses s d h chosen = ChoosesBy (h.frame == 0) s d h chosen

-- the steps of the line
abbrev pub of_line : Option Chosen → Stand → Bool
of_line None stand = false
of_line (Some chosen) stand = at_line chosen.line stand

-- the own steps of the function, and of those of its name
abbrev pub of_function : Program → Option Chosen → Stand → Bool
of_function p None stand = false
of_function p (Some chosen) stand = in_function (name_of (slice_get p.functions chosen.function)) stand

-- ---- what is counted

-- how many lanes the gang of the last of these steps has, or as many as before
abbrev pub width_after : (before : ℕ) → List Stand → ℕ
width_after before [] = before
width_after before (stand ∷ later) = width_after (length stand.lanes) later

-- what is counted of steps
abbrev pub counted : Program → Option Chosen → List Stand → SoFar
counted p chosen stands =
    record { line = unparted_of (of_line chosen) stands; function = unparted_of (of_function p chosen) stands; all = unparted_of each stands; width = width_after 0 stands }

-- what was counted, with later steps
abbrev pub with_later : Program → Option Chosen → SoFar → List Stand → SoFar
with_later p chosen so_far later = record {
  line = unparted_with so_far.line (of_line chosen) later;
  function = unparted_with so_far.function (of_function p chosen) later;
  all = unparted_with so_far.all each later;
  width = width_after so_far.width later;
}

-- the next step, unless the program has ended, and later ones
abbrev pub next_stand : (ended : Bool) → Stand → List Stand → List Stand
next_stand true stand later = later
next_stand false stand later = stand ∷ later

-- no count is above this, and no gang is wider than the widest
pub record IsFewSoFar (n : ℕ) (so_far : SoFar) : Type 0 where
  pub line : IsFew n so_far.line
  pub function : IsFew n so_far.function
  pub all : IsFew n so_far.all
  pub width : so_far.width ≤ 16

-- ---- what is told

-- what is told of counts
abbrev pub told_of : Counts → (width : ℕ) → LaneShare
told_of c width = record { steps = c.steps; share = share c.steps c.lane_steps width; lost = lost c.steps c.lane_steps width }

-- the rows of the line and of the function
abbrev pub rows_of : Program → Option Chosen → SoFar → Bytes
rows_of p None so_far = []
rows_of p (Some chosen) so_far =
    line_text chosen.line (told_of so_far.line so_far.width)
    ++ function_text (name_of (slice_get p.functions chosen.function)) (told_of so_far.function so_far.width)

-- the text of what was counted
abbrev pub so_far_text : Program → Option Chosen → SoFar → Bytes
so_far_text p chosen so_far = table_text so_far.width (rows_of p chosen so_far) (told_of so_far.all so_far.width)

-- the text of the steps so far of the line and the function of the frame that is selected, and of the run, is written, where single steps lead
-- to each moment of it and back; of a run of fewer than 2^36 steps
abbrev pub TellsSoFar : Setting → Debugger → Held → (failed_before failed_then : Bool) → (before then_written : Option Bytes) → Type 0
TellsSoFar s d h failed_before failed_then before then_written =
    1 ≤ s.limit → kept_steps d < 2 ^ 36 → (is_whole d && is_unset d) ≡ true
    → (chosen : Option Chosen) × Chooses s d h chosen × Puts (so_far_text s.program chosen (counted s.program chosen (stands_so_far s d))) failed_before failed_then before then_written
