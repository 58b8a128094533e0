-- what is left from here is the whole command, and no watch is there
use Rattle.std.proofs.Common.{◌≡◌, ◌≤◌}
use Rattle.gang_model.specs.Debugger.Debugger.{Debugger, Setting}
use Rattle.debug_session.specs.Sessions.{StandsFor}
use Rattle.prompt_moves.specs.Pieces.{NoWatch, continued}
use Rattle.prompt_moves.proofs.pieces.go_by_pieces.Given as goal

abbrev pub invariant-loop-left : goal.invariant-loop-left
invariant-loop-left g l = (1 ≤ l.left) × (l.left ≤ l.most_steps)
    × ((s : Setting) (d : Debugger) → StandsFor g.M.RecordedMachine.stands l.initial.session s d → NoWatch d.stops → s.limit ≡ l.most_steps
    → (e : Debugger) × StandsFor g.M.RecordedMachine.stands l.session s e × NoWatch e.stops × (continued l.most_steps s d ≡ continued l.left s e))

abbrev pub decreases-loop-left : goal.decreases-loop-left
decreases-loop-left g l = l.left
