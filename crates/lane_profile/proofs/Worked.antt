-- How far a machine ran, worked out.
use Rattle.std.proofs.Common.{refl, arith}
use Rattle.std.specs.Prelude.{◌≡◌, ℕ, true, [], ◌∷◌, None}
use Rattle.gang_model.specs.Types.Tree.{Nothing, Program}
use Rattle.gang_model.specs.Running.State.{Frame}
use Rattle.gang_model.specs.Debugger.Events.{Step}
use Rattle.gang_model.specs.Debugger.Debugger.{Debugger, Setting, fresh}
use Rattle.lane_picture.specs.declared.columns.StepsEnd.TheVariants as end
use Rattle.lane_profile.specs.Ran.{HasRun, after_steps, steps_done}

abbrev begun : Debugger
begun = fresh 2

abbrev empty : Program
empty = record { functions = []; globals = [] }

-- a frame that has nothing more to do, and is left by a step
abbrev idle : Frame
idle = record { function = 0; lanes = true ∷ []; call = None; result_for = Nothing; views = []; vars = []; result = []; tasks = [] }

-- a run of two steps
abbrev two : Setting
two = record { program = empty; first = record { memory = []; frames = idle ∷ idle ∷ [] }; limit = 0 }

-- the machine is the debugger itself
abbrev is : Debugger → Setting → Debugger → Type 0
is machine s d = machine ≡ d

steps_are_events : (after_steps 2 begun).events ≡ Step ∷ Step ∷ []
steps_are_events = refl

two_of_three_are_kept : (after_steps 3 begun).kept ≡ 2
two_of_three_are_kept = refl

all_steps : steps_done two 5 begun ≡ 2
all_steps = refl

one_at_most : steps_done two 1 begun ≡ 1
one_at_most = refl

to_the_end : HasRun is two 5 begun end.Ended (after_steps 2 begun)
to_the_end = record { begun = record { taken = 2; few = omega arith; there = refl }; whole = refl; ends = refl }

to_the_limit : HasRun is two 1 begun end.StepLimit (after_steps 1 begun)
to_the_limit = record { begun = record { taken = 1; few = omega arith; there = refl }; whole = refl; ends = refl }

-- with as many steps as the run has, it is over
just_to_the_end : HasRun is two 2 begun end.Ended (after_steps 2 begun)
just_to_the_end = record { begun = record { taken = 2; few = omega arith; there = refl }; whole = refl; ends = refl }
