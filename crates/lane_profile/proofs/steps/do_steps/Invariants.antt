-- as many steps were done as rounds were made
use Rattle.gang_model.specs.Debugger.Debugger.{Debugger, Setting}
use Rattle.lane_profile.proofs.Running.{SoFar}
use Rattle.lane_profile.proofs.steps.do_steps.Given as goal

abbrev pub invariant-loop-count : goal.invariant-loop-count
invariant-loop-count g l = record {
  so_far : (s : Setting) (d : Debugger) → g.M.RecordedMachine.stands l.initial.machine s d → SoFar g.M.RecordedMachine.stands s l.most_steps d l._count l.machine;
}
