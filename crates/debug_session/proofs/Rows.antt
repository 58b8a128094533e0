-- The most moves of some commands, where a forward one makes 100 at most and three events are kept.
use Rattle.std.proofs.Common.{◌≡◌, refl}
use Rattle.std.specs.Prelude.{None}
use Rattle.gang_model.specs.Debugger.Debugger.{DoContinue, DoDelete, DoNothing, DoReverseStep, DoSetHistory, DoStep, DoUndo}
use Rattle.debug_session.specs.Bounds.{most_moves}

forward : most_moves 100 3 (DoStep 7) ≡ 100
forward = refl

to_no_goal : most_moves 100 3 DoContinue ≡ 100
to_no_goal = refl

backward : most_moves 100 3 (DoReverseStep 7) ≡ 3
backward = refl

one_event : most_moves 100 3 DoUndo ≡ 1
one_event = refl

changes_alone : most_moves 100 3 (DoSetHistory 2) ≡ 0
changes_alone = refl

stops_alone : most_moves 100 3 (DoDelete None) ≡ 0
stops_alone = refl

nothing : most_moves 100 3 DoNothing ≡ 0
nothing = refl
