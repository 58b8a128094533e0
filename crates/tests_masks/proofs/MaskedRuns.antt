-- Where the masked run of a source stands after numbers of steps.
use Rattle.std.specs.Prelude.{ℕ, zero, suc, ◌==◌, List, [], ◌∷◌, map, Option, Some, None}
use Rattle.gang_types.specs.Lanes.{Lanes}
use Rattle.gang_types.specs.declared.places.Place.{Place}
use Rattle.gang_model.specs.Types.Tree.{Standing, Program}
use Rattle.gang_model.specs.Types.Resolved.{program_of}
use Rattle.gang_model.specs.Running.Entry.{entry_of}
use Rattle.gang_model.specs.Source.Parsed.{ParsedSource}
use Rattle.gang_model.specs.Debugger.Events.{Step}
use Rattle.gang_model.specs.Debugger.Positions.{standing_of}
use Rattle.mask_states.specs.Masked.{Masked, masked_spot, masked_lanes}
use Rattle.mask_states.specs.MaskedStep.{masked_start, masked_happen}

-- a place with the lanes that the step there is done by
pub record Stop : Type 0 where
  pub place : Option Place
  pub lanes : Lanes

-- a line and a column, with the digits 1 and 0 for lanes
abbrev pub stands : (line column : ℕ) → (lanes : List ℕ) → Stop
stands line column lanes = record { place = Some (record { line = line; col = column }); lanes = map (λ digit. digit == 49) lanes }

abbrev place_of : Option Standing → Option Place
place_of None = None
place_of (Some standing) = Some standing.place

abbrev stop_of : Program → Masked → Stop
stop_of p masked = record { place = place_of (standing_of p (masked_spot masked)); lanes = masked_lanes masked }

abbrev after_steps : Program → ℕ → Masked → Masked
after_steps p zero masked = masked
after_steps p (suc n) masked = after_steps p n (masked_happen p Step masked)

abbrev places_from : Program → Masked → List ℕ → List Stop
places_from p masked [] = []
places_from p masked (n ∷ ns) = stop_of p (after_steps p n masked) ∷ places_from p (after_steps p n masked) ns

abbrev places_in : Option Program → Option ℕ → ℕ → List ℕ → List Stop
places_in (Some p) (Some entry) width steps = places_from p (masked_start p entry [] width) steps
places_in p entry width steps = []

-- where the run from the first exported function stands after so many steps, after so many more, and so on
abbrev pub places : ParsedSource → ℕ → List ℕ → List Stop
places source width steps = places_in (program_of source) (entry_of source None) width steps
