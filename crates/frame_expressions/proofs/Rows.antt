-- Worked examples of what a frame shows and what a name finds, by computing.
use Rattle.std.proofs.Common.{◌≡◌, ℕ, List, [], ◌∷◌, Some, true, false, refl}
use Rattle.std.specs.Prelude.{codes}
use Rattle.gang_types.specs.declared.places.Spot.{Spot}
use Rattle.gang_types.specs.declared.places.VarId.{VarId}
use Rattle.gang_types.specs.declared.places.VarId.TheVariants.{File, Local}
use Rattle.gang_types.specs.declared.types.IntType.{IntType}
use Rattle.gang_types.specs.declared.types.IntType.TheVariants.{Int8, Int32, Int64}
use Rattle.gang_types.specs.declared.types.Rate.TheVariants.{Uniform, Varying}
use Rattle.gang_types.specs.Lanes.{Lanes}
use Rattle.gang_types.specs.Masks as masks
use Rattle.gang_model.specs.Source.Judged.{Sound, refused}
use Rattle.gang_model.specs.Source.Parsed.{ParsedName}
use Rattle.gang_model.specs.declared.refusals.RefusalNumber.TheVariants.{S5}
use Rattle.gang_model.specs.Types.Conversions.{typed}
use Rattle.gang_model.specs.Types.Tree.{Empty, Nothing, Program, ProgramIndex, Read, Variable}
use Rattle.gang_model.specs.Types.Typing.{expression}
use Rattle.gang_model.specs.Running.State.{Frame, RoundEnd, State, Task}
use Rattle.frame_expressions.specs.Lanes.{chosen_lanes, lanes_at, made_lanes}
use Rattle.frame_expressions.specs.Meanings.{entries_at}

-- ---- lanes

-- a frame that was made for some lanes, and has these tasks
abbrev frame : Lanes → List Task → Frame
frame lanes tasks = record { function = 0; lanes = lanes; call = Some 0; result_for = Nothing; views = []; vars = []; result = []; tasks = tasks }

-- the entry in both lanes, a call by the first, whose next step is done by none
abbrev called : State
called = record {
  memory = [];
  frames = frame (true ∷ false ∷ []) (record { doing = RoundEnd; lanes = false ∷ false ∷ [] } ∷ []) ∷ frame (true ∷ true ∷ []) [] ∷ [];
}

the_caller_shows_its_call : lanes_at 1 called ≡ true ∷ false ∷ []
the_caller_shows_its_call = refl

the_top_frame_shows_its_step : lanes_at 2 called ≡ false ∷ false ∷ []
the_top_frame_shows_its_step = refl

deeper_is_the_top_frame : lanes_at 3 called ≡ false ∷ false ∷ []
deeper_is_the_top_frame = refl

the_entry_is_every_lanes : made_lanes 1 called ≡ true ∷ true ∷ []
the_entry_is_every_lanes = refl

the_callee_is_its_callers : made_lanes 2 called ≡ true ∷ false ∷ []
the_callee_is_its_callers = refl

-- of the lanes 0 and 1 of a mask the callee has one, though its next step is done by none
of_those_asked_for : chosen_lanes (record { word = 3 }) 2 called ≡ true ∷ false ∷ []
unfolding masks.lanes_of_word
of_those_asked_for = refl

the_other_one_is_left_out : chosen_lanes (record { word = 2 }) 2 called ≡ false ∷ false ∷ []
unfolding masks.lanes_of_word
the_other_one_is_left_out = refl

-- ---- names

abbrev variable : VarId → IntType → Variable
variable id type = record { name = codes "v"; id = id; type = type; rate = Varying; is_array = false; is_parameter = false; is_constant = false }

-- `v` of the file, and one of a function in scope at its second step alone
abbrev program : Program
program = record {
  functions = record {
    name = codes "f";
    result = Uniform;
    result_type = Int32;
    body = Empty;
    standings = record { place = record { line = 1; col = 1 }; scope = [] } ∷ record { place = record { line = 1; col = 5 }; scope = variable (Local 0) Int64 ∷ [] } ∷ [];
  } ∷ [];
  globals = record { variable = variable (File 0) Int8; word = 0; len = 0 } ∷ [];
}

abbrev spot : ℕ → Spot
spot number = record { function = record { 0 = 0 }; number = number }

the_file_is_found : expression (ParsedName (record { line = 1; col = 1 }) (codes "v")) (entries_at program (spot 0)) ≡ Sound (typed (Read (record { id = File 0; type = Int8; rate = Varying })) Int8 Varying)
the_file_is_found = refl

the_function_hides_the_file : expression (ParsedName (record { line = 1; col = 1 }) (codes "v")) (entries_at program (spot 1)) ≡ Sound (typed (Read (record { id = Local 0; type = Int64; rate = Varying })) Int64 Varying)
the_function_hides_the_file = refl

the_lane_is_found : expression (ParsedName (record { line = 1; col = 1 }) (codes "programIndex")) (entries_at program (spot 2)) ≡ Sound (typed ProgramIndex Int32 Varying)
the_lane_is_found = refl

nothing_else_is : expression (ParsedName (record { line = 1; col = 3 }) (codes "w")) (entries_at program (spot 1)) ≡ refused S5 (record { line = 1; col = 3 })
nothing_else_is = refl
