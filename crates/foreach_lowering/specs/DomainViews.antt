-- Domains of the program, and their rounds, as the definitions have them.
use Rattle.std.specs.Prelude.{◌≡◌, ℕ, ℤ, List, [], ◌∷◌, map, length, Option, Some, None}
use Rattle.gang_types.specs.Masks.{lanes_of}
use Rattle.gang_model.specs.Running.Rounds.{Turn, Slots, counted}
use Rattle.gang_model.specs.Running.State.{Store}
use Rattle.gang_model.specs.Types.Tree.{Dimension, RoundsOf, Rows, Tiles}
use Rattle.foreach_lowering.specs.declared.bounds.Order.{Order}
use Rattle.foreach_lowering.specs.declared.bounds.Order.TheVariants.{Rows as ByRows, Tiles as ByTiles}
use Rattle.foreach_lowering.specs.declared.domain.Domain.{Domain}
use Rattle.foreach_lowering.specs.declared.domain.DomainRound.{DomainRound}
use Rattle.foreach_lowering.specs.Grids as grids
use Rattle.foreach_lowering.specs.Domains.{row_grid, row_slot, tile_grid, tiled_slot}
use Rattle.foreach_lowering.specs.Kept.{Kept, turns_left, Takes}
use Rattle.foreach_lowering.specs.Views.{bounds_view, grid_view}

-- the form with these dimensions
abbrev pub form_by : Order → List Dimension → RoundsOf
form_by ByRows ds = Rows ds
form_by ByTiles ds = Tiles ds

abbrev pub grid_by : Order → (width : ℕ) → List (ℤ × ℤ) → grids.Grid
grid_by ByRows width bounds = row_grid width bounds
grid_by ByTiles width bounds = tile_grid width bounds

abbrev pub slot_by : Order → (width : ℕ) → List (ℤ × ℤ) → grids.Grid → (lane : ℕ) → Option (List ℤ)
slot_by ByRows width bounds place lane = row_slot width bounds place lane
slot_by ByTiles width bounds place lane = tiled_slot width bounds place lane

abbrev pub domain_grid : (width : ℕ) → Domain → grids.Grid
domain_grid width domain = grid_by domain.order width (bounds_view domain.bounds)

abbrev pub domain_slot : (width : ℕ) → Domain → grids.Grid → (lane : ℕ) → Option (List ℤ)
domain_slot width domain place lane = slot_by domain.order width (bounds_view domain.bounds) place lane

abbrev pub domain_place : (width : ℕ) → Domain → grids.Grid → Slots
domain_place width domain place = map (domain_slot width domain place) (counted 0 width)

-- what a domain keeps
abbrev pub domain_kept : Domain → grids.Grid → Kept
domain_kept domain left = record { bounds = bounds_view domain.bounds; left = left; lanes = []; values = [] }

-- the words of the index variables, by the words of each dimension
abbrev pub stored : List Dimension → List (List ℕ) → Store
stored [] words = []
stored (d ∷ ds) [] = []
stored (d ∷ ds) (w ∷ words) = (d.index.id, w) ∷ stored ds words

abbrev pub domain_turn : (width : ℕ) → List Dimension → DomainRound width → Turn
domain_turn width ds round = record { lanes = lanes_of width round.lanes; indices = stored ds round.indices }

-- the next of the rounds that are left, and no more is left behind it than there is; none where there is none
abbrev pub IsDomainRound : (width : ℕ) → Domain → (left : grids.Grid) → Option (DomainRound width) → Type 0
IsDomainRound width domain left None = (ds : List Dimension) → turns_left (form_by domain.order ds) width (domain_kept domain left) ≡ []
IsDomainRound width domain left (Some round) =
    ((ds : List Dimension) → length ds ≡ length (bounds_view domain.bounds)
    → Takes (form_by domain.order ds) width (domain_kept domain left) (domain_turn width ds round) (domain_kept domain (grid_view round.left)))
    × grids.IsLeft (domain_grid width domain) (grid_view round.left)
