-- Partings that the steps to come decide.
use Rattle.std.specs.Prelude.{◌≡◌, ℕ, suc, Bool, false, ◌&&◌, ◌+◌, ◌==◌, List, [], ◌∷◌, Option, Some, None, slice_index_or}
use Rattle.std.specs.List.{list_any}
use Rattle.gang_types.specs.Masks.{lanes_of}
use Rattle.gang_types.specs.Lanes.{Lanes}
use Rattle.lane_counts.specs.declared.frames.LastStep.{LastStep}
use Rattle.lane_counts.specs.declared.gang.Gang.{Gang}
use Rattle.lane_counts.specs.declared.gang.Gang.TheVariants.{Four, Eight, Sixteen}
use Rattle.lane_counts.specs.Steps.{Stand, next_in_frame, one_if, parts}

-- how many lanes a gang has
abbrev pub width_of : Gang → ℕ
width_of Four = 4
width_of Eight = 8
width_of Sixteen = 16

-- the lanes of the last step of a frame
abbrev pub last_lanes : LastStep → Lanes
last_lanes last = lanes_of (width_of last.gang) last.lanes

-- 1 if the lanes part at the last step of the frame of this depth, which is one of mine, by the steps that come next
abbrev pub parting_of : (mine : LastStep → Bool) → (deep : ℕ) → Option LastStep → List Stand → ℕ
parting_of mine deep None later = 0
parting_of mine deep (Some last) later = one_if (mine last && parts (last_lanes last) (next_in_frame deep later))

-- at how many last steps of frames, from this depth on, the lanes part by the steps that come next
abbrev pub pending : (mine : LastStep → Bool) → (deep : ℕ) → List (Option LastStep) → List Stand → ℕ
pending mine deep [] later = 0
pending mine deep (last ∷ lasts) later = parting_of mine deep last later + pending mine (suc deep) lasts later

-- at none of these last steps the lanes part, whatever comes
abbrev pub IsQuiet : List (Option LastStep) → Type 0
IsQuiet lasts = (mine : LastStep → Bool) (later : List Stand) → pending mine 1 lasts later ≡ 0

-- the last step of the frame that is so many above the first of these
abbrev pub last_at : List (Option LastStep) → ℕ → Option LastStep
last_at lasts n = slice_index_or lasts n None

-- 1 if there is such a step and it is one of mine
abbrev pub hit : (mine : LastStep → Bool) → Option LastStep → ℕ
hit mine None = 0
hit mine (Some last) = one_if (mine last)

-- whether this is a step of a function
abbrev pub is_of : (function : ℕ) → Option LastStep → Bool
is_of function None = false
is_of function (Some last) = last.function == function

-- whether the last step of some frame is one of a function
abbrev pub has_function : (function : ℕ) → List (Option LastStep) → Bool
has_function function lasts = list_any (is_of function) lasts
