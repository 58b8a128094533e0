-- Cells of programs, computed.
use Rattle.std.proofs.Common.{ℕ, ◌≡◌, refl, [], ◌∷◌}
use Rattle.std.specs.Prelude.{None, Some, replicate}
use Rattle.gang_types.specs.declared.places.VarId.TheVariants.{Local}
use Rattle.gang_types.specs.declared.types.IntType.TheVariants.{Int32}
use Rattle.gang_types.specs.declared.types.Rate.TheVariants.{Varying}
use Rattle.gang_model.specs.Types.Tree.{Arg, Break, Call, Declare, EachLane, ForEach, Function, Loop, Nothing, Number, Program, Return, Scalar, Stmt, Then, Value, Var}
use Rattle.gang_model.specs.Types.Tree as t
use Rattle.machine_states.specs.Cells.{cells_of}

abbrev x : Var
x = record { id = Local 0; type = Int32; rate = Varying }

abbrev with_body : Stmt → Function
with_body body = record { name = []; result = Varying; result_type = Int32; body = body; standings = [] }

-- a loop over a declaration, a `break` and a `return`: no step sets more than leaving its function
abbrev without_calls : Function
without_calls = with_body (Loop 3 (Number 1) (t.Assign 2 (Scalar x) (Number 1)) (Then (Declare 0 x None) (Then (Break 1) (Return 4 (Some (Number 7))))))

abbrev call : (arguments : ℕ) → Stmt
call arguments = Call 0 1 (replicate arguments (Value x (Number 1))) Nothing

-- the second function alone has the call
abbrev second_calls : (arguments : ℕ) → Program
second_calls arguments = record { functions = without_calls ∷ with_body (call arguments) ∷ []; globals = [] }

abbrev calls_nothing : Program
calls_nothing = record { functions = without_calls ∷ without_calls ∷ []; globals = [] }

-- a foreach form in a function that calls nothing
abbrev has_form : Program
has_form = record { functions = with_body (ForEach 0 (EachLane x) (Break 1)) ∷ []; globals = [] }

none_row : (cells_of 4 calls_nothing ∷ cells_of 8 calls_nothing ∷ cells_of 16 calls_nothing ∷ []) ≡ 10 ∷ 18 ∷ 34 ∷ []
none_row = refl

-- without parameters a call sets less than leaving it
no_parameters_row : (cells_of 4 (second_calls 0) ∷ cells_of 8 (second_calls 0) ∷ cells_of 16 (second_calls 0) ∷ []) ≡ 10 ∷ 18 ∷ 34 ∷ []
no_parameters_row = refl

one_parameter_row : (cells_of 4 (second_calls 1) ∷ cells_of 8 (second_calls 1) ∷ cells_of 16 (second_calls 1) ∷ []) ≡ 13 ∷ 21 ∷ 37 ∷ []
one_parameter_row = refl

eight_parameters_row : (cells_of 4 (second_calls 8) ∷ cells_of 8 (second_calls 8) ∷ cells_of 16 (second_calls 8) ∷ []) ≡ 41 ∷ 77 ∷ 149 ∷ []
eight_parameters_row = refl

form_row : (cells_of 4 has_form ∷ cells_of 8 has_form ∷ cells_of 16 has_form ∷ []) ≡ 23 ∷ 35 ∷ 67 ∷ []
form_row = refl
