-- what is left of the steps leads on from here
use Rattle.std.proofs.Common.{◌≡◌, ◌≤◌, ◌+◌, replicate}
use Rattle.gang_model.specs.Debugger.Debugger.{Debugger, DoReverseStep, Setting, kept_steps}
use Rattle.debug_session.specs.Sessions.{StandsFor}
use Rattle.prompt_moves.specs.Moments.{led}
use Rattle.prompt_moves.proofs.going_back.take_steps_back.Given as goal

abbrev pub invariant-loop-taken : goal.invariant-loop-taken
invariant-loop-taken g l =
    (s : Setting) (d : Debugger) → StandsFor g.M.RecordedMachine.stands l.initial.session s d → l.count ≤ kept_steps d
    → (e : Debugger) × StandsFor g.M.RecordedMachine.stands l.session s e × (led s (replicate l.count (DoReverseStep 1)) d ≡ led s (replicate l.left (DoReverseStep 1)) e)
    × (l.left ≤ kept_steps e) × (e.kept + l._taken ≡ d.kept)
