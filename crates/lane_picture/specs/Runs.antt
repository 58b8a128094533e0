-- How far a run goes, step by step, and how it ends there.
use Rattle.std.specs.Prelude.{ℕ, zero, suc, List, replicate, if◌then◌else◌}
use Rattle.gang_model.specs.Types.Tree.{Program}
use Rattle.gang_model.specs.Running.Lanes.{Fault}
use Rattle.gang_model.specs.Running.State.{State}
use Rattle.gang_model.specs.Running.Step.{Stepped, Goes, Fails, Over, step}
use Rattle.gang_model.specs.Debugger.Debugger.{Command, DoStep, has_ended}

-- the command `step`, so often
abbrev pub step_commands : ℕ → List Command
step_commands n = replicate n (DoStep 1)

-- how many steps are tried, the first of which came to this: a fault is the last one
abbrev pub tried_by : Stepped → (State → ℕ) → ℕ
tried_by Over next = 0
tried_by (Fails fault) next = 1
tried_by (Goes state) next = suc (next state)

-- how many steps of a state are tried, so many at most: all that the program has, or those up to a fault
abbrev pub steps_taken : Program → (most : ℕ) → State → ℕ
steps_taken p zero state = 0
steps_taken p (suc most) state = tried_by (step p state) (steps_taken p most)

-- how a run ends: the program has, or the next step faults, or as many steps were tried as may be
pub data RunEnd : Type 0 where
  Ended : RunEnd
  AtFault : Fault → RunEnd
  StepLimit : RunEnd

-- how a run ends, the first step of which came to this
abbrev pub ended_by : Stepped → (State → RunEnd) → RunEnd
ended_by Over next = Ended
ended_by (Fails fault) next = AtFault fault
ended_by (Goes state) next = next state

-- how a run of a state ends, after so many tries at most
abbrev pub run_end : Program → (most : ℕ) → State → RunEnd
run_end p zero state = if has_ended state then Ended else StepLimit
run_end p (suc most) state = ended_by (step p state) (run_end p most)
