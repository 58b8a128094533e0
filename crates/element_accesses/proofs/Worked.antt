-- The accesses of some statements, worked out.
use Rattle.std.specs.Prelude.{◌≡◌, refl, true, false, [], ◌∷◌, Ok, Err, Some, None}
use Rattle.gang_types.specs.declared.faults.FaultName.TheVariants as name
use Rattle.gang_types.specs.declared.types.IntType.TheVariants.{Int32}
use Rattle.gang_types.specs.declared.types.Rate.TheVariants.{Uniform, Varying}
use Rattle.gang_types.specs.declared.places.VarId.TheVariants.{File, Local}
use Rattle.gang_model.specs.Types.Tree.{Var, Number, ProgramIndex, Read, Element, And, Choice, Reduce, ReduceMax, ElementOf, Scalar, Assign, Loop, Break, Then}
use Rattle.gang_model.specs.Debugger.Positions.{spot_in}
use Rattle.element_accesses.specs.declared.reading.Way.TheVariants.{Reads, Writes}
use Rattle.element_accesses.specs.Found.{accesses_in, reads_in}
use Rattle.element_accesses.specs.Touched.{is_at, touch_of}

abbrev i : Var
i = record { id = Local 0; type = Int32; rate = Varying }

abbrev u : Var
u = record { id = Local 1; type = Int32; rate = Uniform }

-- a[i] = b[a[i]]: the index of what is written first, and an index before what it is an index of
written : accesses_in 2 (Assign 5 (ElementOf (File 0) Varying (Read i)) (Element (File 1) (Element (File 0) (Read i))))
    ≡ record { spot = spot_in 2 5; array = File 0; way = Writes; is_sure = true; index = Read i }
    ∷ record { spot = spot_in 2 5; array = File 0; way = Reads; is_sure = true; index = Read i }
    ∷ record { spot = spot_in 2 5; array = File 1; way = Reads; is_sure = true; index = Element (File 0) (Read i) } ∷ []
written = refl

-- behind `&&` some lanes may not read
behind_and : reads_in (spot_in 0 1) true (And (Element (File 0) (Read i)) (Element (File 1) ProgramIndex))
    ≡ record { spot = spot_in 0 1; array = File 0; way = Reads; is_sure = true; index = Read i }
    ∷ record { spot = spot_in 0 1; array = File 1; way = Reads; is_sure = false; index = ProgramIndex } ∷ []
behind_and = refl

-- an index that is one for all lanes
one_for_all : reads_in (spot_in 0 1) true (Choice (Element (File 0) (Read u)) (Element (File 0) (Reduce ReduceMax Int32 (Read i))) (Number 3)) ≡ []
one_for_all = refl

-- the test of a loop, then its body, and then its update
in_a_loop : accesses_in 0 (Loop 3 (Element (File 2) (Read i)) (Assign 2 (Scalar i) (Element (File 1) (Read i))) (Then (Break 0) (Assign 1 (Scalar i) (Element (File 0) (Read i)))))
    ≡ record { spot = spot_in 0 3; array = File 2; way = Reads; is_sure = true; index = Read i }
    ∷ record { spot = spot_in 0 1; array = File 0; way = Reads; is_sure = true; index = Read i }
    ∷ record { spot = spot_in 0 2; array = File 1; way = Reads; is_sure = true; index = Read i } ∷ []
in_a_loop = refl

-- lanes 0 and 2, and an index with a fault
two_lanes : touch_of (true ∷ false ∷ true ∷ []) (Ok (7 ∷ 0 ∷ 9 ∷ [])) ≡ (7 ∷ 9 ∷ []) ∷ []
two_lanes = refl

a_fault : touch_of (true ∷ []) (Err (record { name = name.Index; lane = 0 })) ≡ []
a_fault = refl

-- the steps of one function and of another
other_function : is_at (spot_in 0 1) (Some (spot_in 1 1)) ≡ false
other_function = refl

ended : is_at (spot_in 0 1) None ≡ false
ended = refl
