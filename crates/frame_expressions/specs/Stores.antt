-- Which elements of arrays the next step stores to, by whatever names: what it reaches is what the source meaning has it write to.
use Rattle.std.specs.Prelude.{ℕ, ◌+◌, ◌&&◌, Bool, false, nat_le, nat_lt, Option, Some, None, Result, Ok, Err, option_and_then, slice_get}
use Rattle.std.specs.List.{list_any}
use Rattle.gang_types.specs.declared.places.Spot.{Spot}
use Rattle.gang_types.specs.declared.places.VarId.{VarId}
use Rattle.gang_types.specs.Lanes.{Lanes}
use Rattle.gang_model.specs.Types.Tree.{Stmt, Assign, Change, PackedStore, Program}
use Rattle.gang_model.specs.Running.Lanes.{Fault, at, each, members}
use Rattle.gang_model.specs.Running.Library.{rank}
use Rattle.gang_model.specs.Running.State.{State, View, same_id, view_of}
use Rattle.gang_model.specs.Running.Step.{ToElements, ToVar, Written, part, reached}
use Rattle.gang_model.specs.Debugger.Positions.{lanes_now, spot_now}
use Rattle.mask_states.specs.Points.{Point, Put, points_in}
use Rattle.debug_traits.specs.Frames.{state_at}

-- so many elements of a part of an array, from the first on
abbrev pub elements_from : (first count : ℕ) → View → View
elements_from first count view = record view { first = view.first + first; len = count }

-- whether an element of an array is one of a part
abbrev pub is_within : View → (element : ℕ) → Bool
is_within view element = nat_le view.first element && nat_lt element (view.first + view.len)

-- whether lanes that write there write to an element of a part of an array
abbrev pub meets : View → Lanes → Written → Bool
meets view lanes (ToVar v) = false
meets view lanes (ToElements stored indices) = same_id stored.array view.array && list_any (λ k. is_within view (stored.first + at indices k)) (members lanes)

-- the same of what is reached; a fault is no place to write to
abbrev pub meets_reached : View → Lanes → Result Written Fault → Bool
meets_reached view lanes (Ok written) = meets view lanes written
meets_reached view lanes (Err fault) = false

-- the elements to which lanes store their values one after another
abbrev pub packed_to : Lanes → Result View Fault → Result Written Fault
packed_to lanes (Ok view) = Ok (ToElements view (each lanes (rank lanes)))
packed_to lanes (Err fault) = Err fault

-- whether a statement stores to an element of a part of an array: an assignment, or a packed store
abbrev pub stores_there : View → Lanes → State → Stmt → Bool
stores_there view lanes state (Assign number target e) = meets_reached view lanes (reached target lanes state)
stores_there view lanes state (Change number target type op in_type e) = meets_reached view lanes (reached target lanes state)
stores_there view lanes state (PackedStore number array from e result_for) = meets_reached view lanes (packed_to lanes (part from (view_of state array) lanes state))
stores_there view lanes state s = false

-- the statement that a point puts, if it is one
abbrev pub put_by : Point → Option Stmt
put_by (Put s next) = Some s
put_by point = None

-- the statement of one step at a place of a program, if there is one
abbrev pub put_at : Program → Spot → Option Stmt
put_at p spot = option_and_then (λ f. option_and_then put_by (slice_get (points_in f) spot.number)) (slice_get p.functions spot.function.0)

-- whether a statement does, if there is one
abbrev pub some_stores : View → Lanes → State → Option Stmt → Bool
some_stores view lanes state None = false
some_stores view lanes state (Some s) = stores_there view lanes state s

-- whether the next step of a program stores to an element of a part of an array
abbrev pub next_stores : Program → View → State → Bool
next_stores p view state = some_stores view (lanes_now state) state (option_and_then (put_at p) (spot_now p state))

-- whether it stores to one of so many elements, from the first on, of what the frame at a depth names so
abbrev pub stores_to : Program → (depth : ℕ) → (array : VarId) → (first count : ℕ) → State → Bool
stores_to p deep array first count state = next_stores p (elements_from first count (view_of (state_at deep state) array)) state
