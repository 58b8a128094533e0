-- Where lanes that part meet again, and how many steps lie between.
use Rattle.std.specs.Prelude.{◌≡◌, ℕ, Bool, false, ◌&&◌, ◌+◌, ◌==◌, ◌≤◌, nat_lt, List, [], ◌∷◌, Option, Some, None, if◌then◌else◌}
use Rattle.std.specs.List.{sum_by}
use Rattle.gang_types.specs.Lanes.{Lanes, and}
use Rattle.lane_counts.specs.Steps.{Stand, active, depth, next_in_frame, one_if, parts}
use Rattle.lane_meetings.specs.declared.rows.Parting.{Parting}

-- the steps of the frame of this depth, up to where it is left: those of its callees are none of them
abbrev pub frame_steps : (deep : ℕ) → List Stand → List Stand
frame_steps deep [] = []
frame_steps deep (stand ∷ later) =
    if nat_lt deep (depth stand) then frame_steps deep later else (if depth stand == deep then stand ∷ frame_steps deep later else [])

-- whether all of these lanes are among others
abbrev pub has_all : (lanes others : Lanes) → Bool
has_all lanes others = active (and lanes others) == active lanes

-- how lanes that parted go on: the line where they meet again, if they do, and how many steps of their frame lie before
pub record Meeting : Type 0 where
  pub at : Option ℕ
  pub between : ℕ

-- the same after so many steps more
abbrev pub later_by : ℕ → Meeting → Meeting
later_by steps m = record { at = m.at; between = m.between + steps }

-- among the steps of their frame that follow, lanes meet again at the first that all of them do
abbrev pub meeting : Lanes → List Stand → Meeting
meeting lanes [] = record { at = None; between = 0 }
meeting lanes (stand ∷ later) = if has_all lanes stand.lanes then record { at = Some stand.line; between = 0 } else later_by 1 (meeting lanes later)

-- what is counted: the partings, or the steps between
pub data Measure : Type 0 where
  Times : Measure
  Between : Measure

abbrev pub amount : Measure → (times between : ℕ) → ℕ
amount Times times between = times
amount Between times between = between

-- what a parting counts, if it is one that is chosen by the line where the lanes part, and the one where they meet again
abbrev pub weight : Measure → (chosen : ℕ → Option ℕ → Bool) → (line : ℕ) → Meeting → ℕ
weight measure chosen line m = if chosen line m.at then amount measure 1 m.between else 0

-- the same of a step with those that follow: nothing where its lanes do not part
abbrev pub given : Measure → (chosen : ℕ → Option ℕ → Bool) → Stand → List Stand → ℕ
given measure chosen stand later =
    if parts stand.lanes (next_in_frame (depth stand) later) then weight measure chosen stand.line (meeting stand.lanes (frame_steps (depth stand) later)) else 0

-- what the partings of a run count together
abbrev pub parted : Measure → (chosen : ℕ → Option ℕ → Bool) → List Stand → ℕ
parted measure chosen [] = 0
parted measure chosen (stand ∷ later) = given measure chosen stand later + parted measure chosen later

-- ---- rows

-- whether two lines are one, or there are none
abbrev pub is_same : (one other : Option ℕ) → Bool
is_same None None = Bool.true
is_same None (Some other) = false
is_same (Some one) None = false
is_same (Some one) (Some other) = one == other

-- whether a row is that of the partings at a line whose lanes meet again there
abbrev pub is_of : (line : ℕ) → (meets_at : Option ℕ) → Parting → Bool
is_of line meets_at row = (row.line == line) && is_same row.meets_at meets_at

-- what a row has, if it is one that is chosen
abbrev pub row_gives : Measure → (chosen : ℕ → Option ℕ → Bool) → Parting → ℕ
row_gives measure chosen row = if chosen row.line row.meets_at then amount measure row.times row.between else 0

-- what rows have together
abbrev pub rows_give : Measure → (chosen : ℕ → Option ℕ → Bool) → List Parting → ℕ
rows_give measure chosen rows = sum_by (row_gives measure chosen) rows

-- how many rows there are of a line and the one where lanes meet again
abbrev pub rows_of : (line : ℕ) → (meets_at : Option ℕ) → List Parting → ℕ
rows_of line meets_at rows = sum_by (λ row. one_if (is_of line meets_at row)) rows

-- no two rows are of the same lines
abbrev pub AreDistinct : List Parting → Type 0
AreDistinct rows = (line : ℕ) (meets_at : Option ℕ) → rows_of line meets_at rows ≤ 1

-- rows have what the partings of these steps count: those of any lines together, and so each by itself, since no two are of the same ones
pub record HaveCounted (stands : List Stand) (rows : List Parting) : Type 0 where
  pub counts : (measure : Measure) (chosen : ℕ → Option ℕ → Bool) → rows_give measure chosen rows ≡ parted measure chosen stands
  pub distinct : AreDistinct rows
