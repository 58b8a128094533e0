-- How far runs go, and how they end, computed from small programs.
use Rattle.std.specs.Prelude.{◌≡◌, refl, [], ◌∷◌, ℕ, codes}
use Rattle.gang_types.specs.Values.{value_of, residue, word_of, value_in, wrapped, binary_of}
use Rattle.gang_types.specs.declared.faults.FaultName.TheVariants.{Assert}
use Rattle.gang_types.specs.declared.types.IntType.TheVariants.{Int32}
use Rattle.gang_types.specs.declared.types.Rate.TheVariants.{Uniform}
use Rattle.gang_model.specs.Types.Tree.{Check, Empty, Loop, Number, Program, ProgramIndex, Standing, Stmt, Then}
use Rattle.gang_model.specs.Running.State.{State}
use Rattle.gang_model.specs.Debugger.Events.{start}
use Rattle.lane_picture.specs.Runs.{AtFault, Ended, StepLimit, run_end, steps_taken}

-- a step on a line
abbrev on : ℕ → Standing
on line = record { place = record { line = line; col = 1 }; scope = [] }

-- export void go() { with this body, whose steps stand on lines 2 and 3 }
abbrev program : Stmt → Program
program body =
    record { functions = record { name = codes "go"; result = Uniform; result_type = Int32; body = body; standings = on 2 ∷ on 3 ∷ on 4 ∷ [] } ∷ []; globals = [] }

abbrev first : Stmt → State
first body = start (program body) 0 [] 4

-- an empty function has one step, which leaves it
empty_taken : steps_taken (program Empty) 9 (first Empty) ≡ 1
empty_taken = refl

empty_ends : run_end (program Empty) 9 (first Empty) ≡ Ended
empty_ends = refl

-- no step may be tried
none_taken : steps_taken (program Empty) 0 (first Empty) ≡ 0
none_taken = refl

none_ends : run_end (program Empty) 0 (first Empty) ≡ StepLimit
none_ends = refl

-- the last step that may be tried is the last one of the program
last_taken : steps_taken (program Empty) 1 (first Empty) ≡ 1
last_taken = refl

last_ends : run_end (program Empty) 1 (first Empty) ≡ Ended
last_ends = refl

-- an assertion that holds, and one that is false in lane 0 alone: two steps are tried
abbrev asserts : Stmt
asserts = Then (Check 0 (Number 1)) (Check 1 ProgramIndex)

fault_taken : steps_taken (program asserts) 9 (first asserts) ≡ 2
unfolding value_of residue word_of value_in wrapped binary_of
fault_taken = refl

fault_ends : run_end (program asserts) 9 (first asserts) ≡ AtFault (record { name = Assert; lane = 0 })
unfolding value_of residue word_of value_in wrapped binary_of
fault_ends = refl

-- one of them may be tried
before_fault : run_end (program asserts) 1 (first asserts) ≡ StepLimit
unfolding value_of residue word_of value_in wrapped binary_of
before_fault = refl

-- a loop without end
abbrev endless : Stmt
endless = Loop 0 (Number 1) Empty Empty

endless_taken : steps_taken (program endless) 7 (first endless) ≡ 7
unfolding value_of residue word_of value_in wrapped binary_of
endless_taken = refl

endless_ends : run_end (program endless) 7 (first endless) ≡ StepLimit
unfolding value_of residue word_of value_in wrapped binary_of
endless_ends = refl
