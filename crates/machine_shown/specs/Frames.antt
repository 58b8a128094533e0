-- The frames of a machine up to the one at a depth. The entry's frame is at depth 1, the top one at the number of frames.
use Rattle.std.specs.Prelude.{◌≡◌, ℕ, suc, ◌-◌, min, nat_lt, [], ◌∷◌, drop, length, Option, Some, None, slice_index, if◌then◌else◌}
use Rattle.gang_types.specs.declared.places.Spot.{Spot}
use Rattle.gang_model.specs.Debugger.Positions.{call_at, spot_in}
use Rattle.debug_traits.specs.Frames.{state_at}
use Rattle.mask_states.specs.Masked.{Masked, masked_spot}
use Rattle.machine_states.specs.Regions.{Depth, Regions, with_region}
use Rattle.frame_steps.specs.declared.active.Active.{Active}

-- the masked state with no frame above the one at a depth
abbrev pub masked_up_to : (depth : ℕ) → Masked → Masked
masked_up_to deep masked = record { state = state_at deep masked.state; levels = drop (length masked.state.frames - deep) masked.levels }

-- the regions with no frame above the one at a depth
abbrev pub regions_up_to : (depth : ℕ) → Regions → Regions
regions_up_to deep regions = with_region Depth (min deep (slice_index (regions Depth) 0) ∷ []) regions

-- where the frame at a depth stands: at the call that made the frame above it, and the top one at its next step
abbrev pub masked_spot_at : (depth : ℕ) → Masked → Option Spot
masked_spot_at deep masked = if nat_lt deep (length masked.state.frames) then call_at (suc deep) masked.state.frames else masked_spot masked

-- the frame at a depth stands at this step, or there is no frame
abbrev pub IsPlaceOf : (depth : ℕ) → Masked → Option Active → Type 0
IsPlaceOf deep masked None = masked_spot_at deep masked ≡ None
IsPlaceOf deep masked (Some active) = masked_spot_at deep masked ≡ Some (spot_in active.function active.step)
