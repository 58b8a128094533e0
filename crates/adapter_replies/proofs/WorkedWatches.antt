-- Worked rows of what can be watched.
use Rattle.std.proofs.Common.{◌≡◌, refl, true, false, ℕ, Some, None, codes}
use Rattle.gang_types.specs.declared.places.VarId.TheVariants.{File, Local}
use Rattle.gang_types.specs.declared.types.IntType.TheVariants.{Int32}
use Rattle.gang_types.specs.declared.types.Rate.TheVariants.{Varying}
use Rattle.gang_model.specs.Types.Tree.{Variable}
use Rattle.adapter_replies.specs.References.{place_of}
use Rattle.adapter_replies.specs.Watchable.{is_of_file, is_that_of_file}

-- local variables and parameters of a frame, the lanes of one of them, and a range of the elements of one
local_variables : is_of_file (place_of 11) ≡ false
local_variables = refl

parameters : is_of_file (place_of 12) ≡ false
parameters = refl

lanes_of_a_local : is_of_file (place_of 2013) ≡ false
lanes_of_a_local = refl

range_of_a_local : is_of_file (place_of 1002017) ≡ false
range_of_a_local = refl

-- the variables of the file, the lanes of the third one, and a range of its elements
variables_of_the_file : is_of_file (place_of 5) ≡ true
variables_of_the_file = refl

lanes_of_one : is_of_file (place_of 2006) ≡ true
lanes_of_one = refl

range_of_one : is_of_file (place_of 1002009) ≡ true
range_of_one = refl

-- the lanes of an expression's value
lanes_of_a_value : is_of_file (place_of 2000) ≡ false
lanes_of_a_value = refl

-- the variable x of the file, and the local one that hides it
abbrev x_of_file : Variable
x_of_file = record { name = codes "x"; id = File 1; type = Int32; rate = Varying; is_array = false; is_parameter = false; is_constant = false }

abbrev local_x : Variable
local_x = record x_of_file { id = Local 1 }

hidden : is_that_of_file (Some local_x) (Some x_of_file) ≡ false
hidden = refl

seen : is_that_of_file (Some x_of_file) (Some x_of_file) ≡ true
seen = refl

of_no_file : is_that_of_file (Some local_x) None ≡ false
of_no_file = refl
