-- What it means that the rounds of foreach forms are counted: the n-th round by what is kept is the n-th of the meaning's list.
use Rattle.std.specs.Prelude.{◌≡◌, ℕ, zero, suc, ◌≤◌, List, [], length, Result, Ok, IfOk, Some, slice_get}
use Rattle.gang_types.specs.Lanes.{Lanes}
use Rattle.gang_model.specs.Running.Lanes.{Fault, ◌>>=◌}
use Rattle.gang_model.specs.Running.Rounds.{Turn, bounds_of, rounds}
use Rattle.gang_model.specs.Running.State.{State}
use Rattle.gang_model.specs.Running.Value.{value}
use Rattle.gang_model.specs.Types.Tree.{RoundsOf, Rows, Tiles, EachLane, EachValue}
use Rattle.mask_states.specs.Masked.{turns_taken}
use Rattle.foreach_lowering.specs.Grids.{IsLeft}
use Rattle.foreach_lowering.specs.Domains.{row_grid, tile_grid}
use Rattle.foreach_lowering.specs.Kept.{Kept, turns_left, Takes, kept_of, kept_lanes}

-- a domain has one to three dimensions
abbrev pub HasDimensions : RoundsOf → Type 0
HasDimensions (Rows ds) = (1 ≤ length ds) × (length ds ≤ 3)
HasDimensions (Tiles ds) = (1 ≤ length ds) × (length ds ≤ 3)
HasDimensions form = Unit {0}

-- what a form keeps when it begins for lanes, or the fault of its bounds or of its value
abbrev pub first_kept : RoundsOf → Lanes → State → Result Kept Fault
first_kept (Rows ds) lanes state = do
  bounds ← bounds_of ds lanes state
  Ok (kept_of bounds (row_grid (length lanes) bounds))
first_kept (Tiles ds) lanes state = do
  bounds ← bounds_of ds lanes state
  Ok (kept_of bounds (tile_grid (length lanes) bounds))
first_kept (EachLane i) lanes state = Ok (kept_lanes lanes [])
first_kept (EachValue v e) lanes state = do
  values ← value e lanes state
  Ok (kept_lanes lanes values)

-- bounds for each dimension, and no more left than there is; or as many lanes as the gang has
abbrev pub IsKept : RoundsOf → (width : ℕ) → Kept → Type 0
IsKept (Rows ds) width kept = (length kept.bounds ≡ length ds) × IsLeft (row_grid width kept.bounds) kept.left
IsKept (Tiles ds) width kept = (length kept.bounds ≡ length ds) × IsLeft (tile_grid width kept.bounds) kept.left
IsKept form width kept = length kept.lanes ≡ width

-- the round that comes when n rounds were taken one after another
abbrev pub IsNth : RoundsOf → (width : ℕ) → Kept → (n : ℕ) → Turn → Type 0
IsNth form width kept zero turn = (after : Kept) × Takes form width kept turn after
IsNth form width kept (suc n) turn = (first : Turn) × (after : Kept) × Takes form width kept first after × IsNth form width after n turn

pub record CountsRounds (width : ℕ) : Type 0 where
  -- the rounds left when a form begins are all of its rounds in which a lane takes part, and it has the same fault
  pub begins : (form : RoundsOf) → HasDimensions form → (lanes : Lanes) → length lanes ≡ width → (state : State)
      → (rounds form lanes state >>= λ turns. Ok (turns_taken turns)) ≡ (first_kept form lanes state >>= λ kept. Ok (turns_left form width kept))
  -- it takes part in each
  pub taken : (form : RoundsOf) → HasDimensions form → (lanes : Lanes) → length lanes ≡ width → (state : State) → IfOk (rounds form lanes state) (λ turns. turns_taken turns ≡ turns)
  pub kept : (form : RoundsOf) → (lanes : Lanes) → length lanes ≡ width → (state : State) → IfOk (first_kept form lanes state) (IsKept form width)
  -- the n-th round by what is kept is the n-th round
  pub nth : (form : RoundsOf) → HasDimensions form → (lanes : Lanes) → length lanes ≡ width → (state : State) → (turns : List Turn) → (kept : Kept) → (n : ℕ) → (turn : Turn)
      → rounds form lanes state ≡ Ok turns → first_kept form lanes state ≡ Ok kept → IsNth form width kept n turn → slice_get turns n ≡ Some turn
