-- What is counted of the steps of a run.
use Rattle.std.specs.Prelude.{ℕ, Bool, true, false, ◌&&◌, ◌+◌, ◌==◌, nat_lt, List, [], ◌∷◌, length, Option, Some, None, if◌then◌else◌, bytes_eq, count_by}
use Rattle.std.specs.List.{list_any}
use Rattle.gang_types.specs.Lanes.{Lanes, and}
use Rattle.gang_types.specs.declared.places.Spot.{Spot}

-- where a step stands: its line, which step of the program it is, the names of the functions of all frames, the top one's first, and the lanes that do it
pub record Stand : Type 0 where
  pub line : ℕ
  pub spot : Spot
  pub functions : List (List ℕ)
  pub lanes : Lanes

-- how many frames there are
abbrev pub depth : Stand → ℕ
depth stand = length stand.functions

-- how many lanes do a step
abbrev pub active : Lanes → ℕ
active lanes = count_by (λ b. b) lanes

-- whether some lane of the gang does not do the step
abbrev pub is_short : Lanes → Bool
is_short lanes = nat_lt (active lanes) (length lanes)

-- the sum of what each step gives
abbrev pub total : (Stand → ℕ) → List Stand → ℕ
total gives [] = 0
total gives (stand ∷ later) = gives stand + total gives later

-- 1 where it holds
abbrev pub one_if : Bool → ℕ
one_if b = if b then 1 else 0

-- the next step in the frame of this depth, if the frame is not left before
abbrev pub next_in_frame : (deep : ℕ) → List Stand → Option Stand
next_in_frame deep [] = None
next_in_frame deep (stand ∷ later) =
    if nat_lt deep (depth stand) then next_in_frame deep later else (if depth stand == deep then Some stand else None)

-- whether some of these lanes, and not all of them, do the next step in their frame
abbrev pub parts : Lanes → Option Stand → Bool
parts lanes None = false
parts lanes (Some next) = nat_lt 0 (active (and lanes next.lanes)) && nat_lt (active (and lanes next.lanes)) (active lanes)

-- whether a step is the first one of its frame, by how many frames there were at the step before it: nothing is known of the first step of all
abbrev pub begins_frame : (before : Option ℕ) → Stand → Bool
begins_frame None stand = false
begins_frame (Some deep) stand = nat_lt deep (depth stand)

-- the calls of a run: the steps that are the first ones of their frames
abbrev pub called : (before : Option ℕ) → List Stand → List Stand
called before [] = []
called before (stand ∷ later) = if begins_frame before stand then stand ∷ called (Some (depth stand)) later else called (Some (depth stand)) later

-- ---- of the steps that are chosen

-- how many there are
abbrev pub steps : (Stand → Bool) → List Stand → ℕ
steps chosen stands = total (λ stand. one_if (chosen stand)) stands

-- the lanes that do them, together
abbrev pub lane_steps : (Stand → Bool) → List Stand → ℕ
lane_steps chosen stands = total (λ stand. if chosen stand then active stand.lanes else 0) stands

-- how many are done without some lane of the gang
abbrev pub short_steps : (Stand → Bool) → List Stand → ℕ
short_steps chosen stands = total (λ stand. one_if (chosen stand && is_short stand.lanes)) stands

-- at how many of them the lanes part
abbrev pub partings : (Stand → Bool) → List Stand → ℕ
partings chosen [] = 0
partings chosen (stand ∷ later) = one_if (chosen stand && parts stand.lanes (next_in_frame (depth stand) later)) + partings chosen later

-- ---- choices

-- whether this name is the first one
abbrev pub is_first : List ℕ → List (List ℕ) → Bool
is_first name [] = false
is_first name (first ∷ names) = bytes_eq first name

-- those of a line
abbrev pub at_line : ℕ → Stand → Bool
at_line line stand = stand.line == line

-- those whose frame is of a function of this name
abbrev pub in_function : List ℕ → Stand → Bool
in_function name stand = is_first name stand.functions

-- those at which a frame of a function of this name stands, once or several times: its own steps, and those of what it calls
abbrev pub in_frame : List ℕ → Stand → Bool
in_frame name stand = list_any (λ other. bytes_eq other name) stand.functions

-- all
abbrev pub each : Stand → Bool
each stand = true
