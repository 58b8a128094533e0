-- Worked examples of what the next step stores to, by computing.
use Rattle.std.proofs.Common.{◌≡◌, ℕ, [], ◌∷◌, Some, None, Bool, true, false, refl}
use Rattle.std.specs.Prelude.{codes}
use Rattle.gang_types.specs.declared.operators.BinaryOp.TheVariants.{Add}
use Rattle.gang_types.specs.declared.places.VarId.TheVariants.{File, Local}
use Rattle.gang_types.specs.declared.types.IntType.TheVariants.{Int32}
use Rattle.gang_types.specs.declared.types.Rate.TheVariants.{Uniform, Varying}
use Rattle.gang_model.specs.Types.Tree.{Assign, Change, ElementOf, Nothing, Number, PackedStore, Program, Scalar, Stmt, ProgramIndex}
use Rattle.gang_model.specs.Running.State.{Run, State, View}
use Rattle.frame_expressions.specs.Stores.{stores_to}

-- `a` of ten elements, and `p` of a frame: those of `a` from the fifth on
abbrev part : View
part = record { array = File 0; first = 4; len = 6 }

abbrev running : Stmt → State
running s = record {
  memory = (File 0, 0 ∷ 0 ∷ 0 ∷ 0 ∷ 0 ∷ 0 ∷ 0 ∷ 0 ∷ 0 ∷ 0 ∷ []) ∷ (File 1, 0 ∷ 0 ∷ []) ∷ [];
  frames = record {
    function = 0;
    lanes = true ∷ true ∷ true ∷ true ∷ [];
    call = None;
    result_for = Nothing;
    views = (Local 0, part) ∷ [];
    vars = [];
    result = [];
    tasks = record { doing = Run s; lanes = true ∷ false ∷ true ∷ false ∷ [] } ∷ [];
  } ∷ [];
}

abbrev program : Stmt → Program
program s = record { functions = record { name = codes "f"; result = Uniform; result_type = Int32; body = s; standings = [] } ∷ []; globals = [] }

abbrev stores : Stmt → (first count : ℕ) → Bool
stores s first count = stores_to (program s) 0 (File 0) first count (running s)

-- p[programIndex] = 7, by the lanes 0 and 2: the elements 4 and 6 of `a`
abbrev by_lane : Stmt
by_lane = Assign 0 (ElementOf (Local 0) Uniform ProgramIndex) (Number 7)

the_first_lane_stores : stores by_lane 4 1 ≡ true
the_first_lane_stores = refl

a_lane_that_waits_stores_nothing : stores by_lane 5 1 ≡ false
a_lane_that_waits_stores_nothing = refl

the_third_lane_stores : stores by_lane 6 1 ≡ true
the_third_lane_stores = refl

one_of_them_is_enough : stores by_lane 5 5 ≡ true
one_of_them_is_enough = refl

those_before_the_part_are_not_reached : stores by_lane 0 4 ≡ false
those_before_the_part_are_not_reached = refl

-- the same named as the frame names it
as_the_frame_names_it : stores_to (program by_lane) 1 (Local 0) 2 1 (running by_lane) ≡ true
as_the_frame_names_it = refl

another_array_is_not_reached : stores_to (program by_lane) 0 (File 1) 0 2 (running by_lane) ≡ false
another_array_is_not_reached = refl

-- p[1] += 2
a_change_stores : stores (Change 0 (ElementOf (Local 0) Uniform (Number 1)) Int32 Add Int32 (Number 2)) 5 1 ≡ true
a_change_stores = refl

-- packed_store_active(&a[3], 7), by two lanes: the elements 3 and 4
abbrev packed : Stmt
packed = PackedStore 0 (File 0) (Some (Number 3)) (Number 7) Nothing

the_first_of_them : stores packed 3 1 ≡ true
the_first_of_them = refl

one_for_each_lane : stores packed 4 1 ≡ true
one_for_each_lane = refl

and_no_more : stores packed 5 5 ≡ false
and_no_more = refl

nothing_is_stored_by_a_scalar : stores (Assign 0 (Scalar (record { id = File 0; type = Int32; rate = Varying })) (Number 7)) 0 10 ≡ false
nothing_is_stored_by_a_scalar = refl
