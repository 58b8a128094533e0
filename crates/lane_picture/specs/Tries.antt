-- What the tries of steps come to.
use Rattle.std.specs.Prelude.{◌≡◌, ℕ, ◌≤◌, false, Option, Some, None}
use Rattle.gang_model.specs.Running.Step.{Goes, Fails, step}
use Rattle.gang_model.specs.Debugger.Debugger.{Debugger, Setting, has_ended, now}
use Rattle.debug_traits.specs.Machines.{fault_view}
use Rattle.debug_session.specs.declared.session.Session.{Session}
use Rattle.command_lists.specs.Lists.{HasDone}
use Rattle.lane_picture.specs.declared.columns.StepsEnd.{StepsEnd}
use Rattle.lane_picture.specs.declared.columns.StepsEnd.TheVariants as end
use Rattle.lane_picture.specs.Runs as run
use Rattle.lane_picture.specs.Runs.{RunEnd, run_end, step_commands, steps_taken}

-- how the steps ended, by the definitions
abbrev pub end_view : StepsEnd → RunEnd
end_view end.Ended = run.Ended
end_view (end.AtFault fault) = run.AtFault (fault_view fault)
end_view end.StepLimit = run.StepLimit

-- a step that was tried from a debugger leads to another one, or faults
abbrev pub CameTo : Setting → (d e : Debugger) → Option StepsEnd → Type 0
CameTo s d e None = step s.program (now s d) ≡ Goes (now s e)
CameTo s d e (Some (end.AtFault fault)) = step s.program (now s d) ≡ Fails (fault_view fault)
CameTo s d e (Some other) = ⊥

-- a session has done the command `step`; if it may do a step, and the program has not ended, it came to this
pub record Tries {M : Type 0} (stands : M → Setting → Debugger → Type 0) (s : Setting) (d : Debugger) (came : Option StepsEnd) (session : Session M) : Type 0 where
  pub done : HasDone stands s (step_commands 1) d session
  pub comes : 1 ≤ s.limit → has_ended (now s d) ≡ false → CameTo s d done.after came

-- a session has done the command `step` some times, so often at most
pub record HasBegun {M : Type 0} (stands : M → Setting → Debugger → Type 0) (s : Setting) (most : ℕ) (d : Debugger) (session : Session M) : Type 0 where
  pub taken : ℕ
  pub few : taken ≤ most
  pub done : HasDone stands s (step_commands taken) d session

-- a session has done the command `step` some times, so often at most; if it may do a step, just as often as the run has steps to
-- try, and the run ends so
pub record HasRun {M : Type 0} (stands : M → Setting → Debugger → Type 0) (s : Setting) (most : ℕ) (d : Debugger) (ended : StepsEnd) (session : Session M) : Type 0 where
  pub begun : HasBegun stands s most d session
  pub whole : 1 ≤ s.limit → begun.taken ≡ steps_taken s.program most (now s d)
  pub ends : 1 ≤ s.limit → end_view ended ≡ run_end s.program most (now s d)
