-- what is left of the steps leads on from here, and with where they stand the counts are those of all steps
use Rattle.std.proofs.Common.{◌≡◌, ◌≤◌, ◌<◌, ◌*◌, ◌-◌}
use Rattle.std.specs.Prelude.{◌^◌}
use Rattle.gang_model.specs.Debugger.Debugger.{Debugger, Setting, now}
use Rattle.debug_session.specs.Sessions.{StandsFor}
use Rattle.lane_profile.specs.Stands.{stands_of}
use Rattle.prompt_moves.specs.Moments.{led, steps_on}
use Rattle.prompt_walks.specs.LanesTold.{IsFewSoFar, counted, with_later}
use Rattle.prompt_walks.proofs.lanes_told.count_on.Given as goal

abbrev pub invariant-loop-left : goal.invariant-loop-left
invariant-loop-left g l =
    ((s : Setting) (d : Debugger) → StandsFor g.M.RecordedMachine.stands l.initial.session s d
    → (e : Debugger) × StandsFor g.M.RecordedMachine.stands l.session s e × (led s (steps_on l.most s d) d ≡ led s (steps_on l.left s e) e)
    × (1 ≤ s.limit → l.most < 2 ^ 36
    → with_later s.program l.chosen l.so_far (stands_of s.program l.left (now s e)) ≡ counted s.program l.chosen (stands_of s.program l.most (now s d))))
    × (l.most < 2 ^ 36 → IsFewSoFar (16 * (l.most - l.left)) l.so_far)
    × (l.left ≤ l.most)

abbrev pub decreases-loop-left : goal.decreases-loop-left
decreases-loop-left g l = l.left
