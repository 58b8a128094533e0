-- Rows that the definitions compute.
use Rattle.std.proofs.Common.{true, false, ◌≡◌, refl, [], ◌∷◌}
use Rattle.std.specs.Prelude.{Ok, Err}
use Rattle.gang_types.specs.declared.faults.FaultName.TheVariants.{Index}
use Rattle.gang_types.specs.declared.places.VarId.TheVariants.{File}
use Rattle.gang_types.specs.Lanes.{Lanes}
use Rattle.gang_model.specs.Running.Lanes.{each, try_each}
use Rattle.gang_model.specs.Running.Library.{rank}
use Rattle.gang_model.specs.Running.State.{State, View}
use Rattle.gang_model.specs.Running.Value.{element}
use Rattle.gang_memory.specs.Elements.{checked_store, stored}
use Rattle.gang_memory.specs.Ranges.{range, ranges_from}
use Rattle.gang_memory.specs.Layouts.{frame_sizes, repeated}

abbrev all_lanes : Lanes
all_lanes = true ∷ true ∷ true ∷ true ∷ []

abbrev two_lanes : Lanes
two_lanes = false ∷ true ∷ false ∷ true ∷ []

-- of lanes that name one element the highest stays
highest_stays : stored 0 all_lanes (0 ∷ 0 ∷ 1 ∷ 1 ∷ []) (0 ∷ 1 ∷ 2 ∷ 3 ∷ []) (0 ∷ 0 ∷ 0 ∷ 0 ∷ []) ≡ 1 ∷ 3 ∷ 0 ∷ 0 ∷ []
highest_stays = refl

-- lanes 1 and 3 store to the first elements of the part from element 1 on
first_elements : stored 1 two_lanes (each two_lanes (rank two_lanes)) (1 ∷ 2 ∷ 3 ∷ 4 ∷ []) (0 ∷ 0 ∷ 0 ∷ 0 ∷ []) ≡ 0 ∷ 2 ∷ 4 ∷ 0 ∷ []
first_elements = refl

abbrev tens : State
tens = record { memory = (File 0, 0 ∷ 10 ∷ 20 ∷ 30 ∷ []) ∷ []; frames = [] }

abbrev from_one : View
from_one = record { array = File 0; first = 1; len = 3 }

abbrev from_three : View
from_three = record { array = File 0; first = 3; len = 1 }

packed_row : try_each two_lanes (λ k. element tens from_one (rank two_lanes k)) ≡ Ok (0 ∷ 10 ∷ 0 ∷ 20 ∷ [])
packed_row = refl

missing_row : checked_store tens from_three two_lanes (rank two_lanes) [] ≡ Err (record { name = Index; lane = 3 })
missing_row = refl

-- two frames with a head of two parts and one variable, from word 3 on
frames_row : ranges_from 3 (repeated 2 (frame_sizes 4 (2 ∷ 3 ∷ []) 1)) ≡ range 3 2 ∷ range 5 3 ∷ range 8 4 ∷ range 12 2 ∷ range 14 3 ∷ range 17 4 ∷ []
frames_row = refl
