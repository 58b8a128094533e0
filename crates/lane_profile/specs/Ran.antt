-- How far a machine ran.
use Rattle.std.specs.Prelude.{◌≡◌, ℕ, zero, suc, ◌≤◌, length, Option, Some, None}
use Rattle.gang_model.specs.Types.Tree.{Program}
use Rattle.gang_model.specs.Running.State.{State}
use Rattle.gang_model.specs.Running.Step.{Fails, Goes, Over, step}
use Rattle.gang_model.specs.Debugger.Events.{Step}
use Rattle.gang_model.specs.Debugger.Debugger.{Debugger, Setting, moved, now}
use Rattle.debug_traits.specs.Machines.{fault_view}
use Rattle.lane_picture.specs.declared.columns.StepsEnd.{StepsEnd}
use Rattle.lane_picture.specs.declared.columns.StepsEnd.TheVariants as end
use Rattle.lane_picture.specs.Runs.{run_end}
use Rattle.lane_picture.specs.Tries.{end_view}
use Rattle.lane_profile.specs.Stands.{states_done}

-- the debugger after so many steps
abbrev pub after_steps : ℕ → Debugger → Debugger
after_steps zero d = d
after_steps (suc n) d = moved Step (after_steps n d)

-- how many steps of a run are done, so many at most
abbrev pub steps_done : Setting → (most : ℕ) → Debugger → ℕ
steps_done s most d = length (states_done s.program most (now s d))

-- a state has no step that is done, and the run ends so
abbrev pub Stops : Program → State → StepsEnd → Type 0
Stops p state end.Ended = step p state ≡ Over
Stops p state (end.AtFault fault) = step p state ≡ Fails (fault_view fault)
Stops p state end.StepLimit = ⊥

-- a machine tried a step: it was done; or the run ends so, and nothing changed
abbrev pub Tries : {M : Type 0} → (M → Setting → Debugger → Type 0) → Setting → Debugger → Option StepsEnd → M → Type 0
Tries stands s d None new = (next : State) × (step s.program (now s d) ≡ Goes next) × stands new s (moved Step d)
Tries stands s d (Some ended) new = Stops s.program (now s d) ended × stands new s d

-- a machine has done some of the steps of a run, so many at most, and nothing else
pub record HasBegun {M : Type 0} (stands : M → Setting → Debugger → Type 0) (s : Setting) (most : ℕ) (d : Debugger) (machine : M) : Type 0 where
  pub taken : ℕ
  pub few : taken ≤ steps_done s most d
  pub there : stands machine s (after_steps taken d)

-- a machine has done all of them, and the run ends so
pub record HasRun {M : Type 0} (stands : M → Setting → Debugger → Type 0) (s : Setting) (most : ℕ) (d : Debugger) (ended : StepsEnd) (machine : M) : Type 0 where
  pub begun : HasBegun stands s most d machine
  pub whole : begun.taken ≡ steps_done s most d
  pub ends : end_view ended ≡ run_end s.program most (now s d)
