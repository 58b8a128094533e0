-- What the steps of some statements set, worked out.
use Rattle.std.specs.Prelude.{◌≡◌, refl, true, false, [], ◌∷◌, Some, None}
use Rattle.gang_types.specs.declared.operators.BinaryOp.TheVariants.{Add}
use Rattle.gang_types.specs.declared.types.IntType.TheVariants.{Int32}
use Rattle.gang_types.specs.declared.types.Rate.TheVariants.{Uniform, Varying}
use Rattle.gang_types.specs.declared.places.VarId.TheVariants.{File, Local}
use Rattle.gang_model.specs.Types.Tree.{Var, Number, Scalar, ElementOf, Nothing, Declares, Assigns, Rows, Stmt, Empty, Then, Declare, Assign, Change, If, Loop, Call, ForEach, PackedStore, PackedLoad, Function, Program}
use Rattle.gang_model.specs.Debugger.Positions.{spot_in}
use Rattle.variable_writes.specs.Writes.{sets, sets_at}

abbrev i : Var
i = record { id = Local 0; type = Int32; rate = Varying }

abbrev x : Var
x = record { id = Local 1; type = Int32; rate = Varying }

-- `x = 3;` sets `x`, and no variable of the file of the same number; another step sets nothing
an_assignment : sets (Local 1) 4 (Assign 4 (Scalar x) (Number 3)) ≡ true
an_assignment = refl

of_the_file : sets (File 1) 4 (Assign 4 (Scalar x) (Number 3)) ≡ false
of_the_file = refl

another_step : sets (Local 1) 5 (Assign 4 (Scalar x) (Number 3)) ≡ false
another_step = refl

-- `a[2] += 3;` sets the array
an_element : sets (File 6) 0 (Change 0 (ElementOf (File 6) Varying (Number 2)) Int32 Add Int32 (Number 3)) ≡ true
an_element = refl

-- `for (i = 0; ..; i += 1) { x = 3; }`: the start, the update and the body set, and the test does not
abbrev a_loop : Stmt
a_loop = Then (Assign 0 (Scalar i) (Number 0)) (Loop 3 (Number 1) (Change 2 (Scalar i) Int32 Add Int32 (Number 1)) (Assign 1 (Scalar x) (Number 3)))

the_start : sets (Local 0) 0 a_loop ≡ true
the_start = refl

the_update : sets (Local 0) 2 a_loop ≡ true
the_update = refl

the_test : sets (Local 0) 3 a_loop ≡ false
the_test = refl

in_the_body : sets (Local 1) 1 a_loop ≡ true
in_the_body = refl

-- `x = f();` sets nothing at its own step
a_call : sets (Local 1) 7 (Call 7 2 [] (Assigns x)) ≡ false
a_call = refl

-- `foreach (i = 0 ... 8) { x = 3; x = f(); }`: the head sets nothing, and each round the index
abbrev a_form : Stmt
a_form = ForEach 0 (Rows (record { index = i; low = Number 0; high = Number 8 } ∷ [])) (Then (Declare 1 x (Some (Number 3))) (Then (Call 2 5 [] (Assigns x)) Empty))

the_head : sets (Local 0) 0 a_form ≡ false
the_head = refl

the_rounds : sets (Local 0) 3 a_form ≡ true
the_rounds = refl

in_a_round : sets (Local 1) 1 a_form ≡ true
in_a_round = refl

a_call_in_a_round : sets (Local 1) 2 a_form ≡ false
a_call_in_a_round = refl

-- `int i = packed_store_active(a, 0, x);` sets the array and the variable that gets the count; `packed_load_active(a, 0, &x);` sets `x` alone
the_packed_array : sets (File 6) 0 (PackedStore 0 (File 6) None (Number 3) (Declares i)) ≡ true
the_packed_array = refl

the_packed_count : sets (Local 0) 0 (PackedStore 0 (File 6) None (Number 3) (Declares i)) ≡ true
the_packed_count = refl

the_loaded_variable : sets (Local 1) 0 (PackedLoad 0 (File 6) None x Nothing) ≡ true
the_loaded_variable = refl

the_array_that_is_read : sets (File 6) 0 (PackedLoad 0 (File 6) None x Nothing) ≡ false
the_array_that_is_read = refl

-- of a program: the second function has the form, and there is no third one
abbrev function : Stmt → Function
function body = record { name = []; result = Uniform; result_type = Int32; body = body; standings = [] }

abbrev program : Program
program = record { functions = function Empty ∷ function (If 4 (Number 1) Empty a_form) ∷ []; globals = [] }

of_the_program : sets_at program (spot_in 1 3) (Local 0) ≡ true
of_the_program = refl

of_another_function : sets_at program (spot_in 0 3) (Local 0) ≡ false
of_another_function = refl

no_such_function : sets_at program (spot_in 2 1) (Local 1) ≡ false
no_such_function = refl
