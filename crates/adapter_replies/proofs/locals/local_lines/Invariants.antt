-- the places go up; the lines so far, and the variables from the place on
use Rattle.std.proofs.Common.{◌≡◌, ◌-◌, ◌++◌}
use Rattle.std.specs.Prelude.{flat_map}
use Rattle.gang_model.specs.Debugger.Debugger.{Debugger, Setting, now}
use Rattle.gang_model.specs.Texts.Text.{shown_line, whole}
use Rattle.debug_traits.specs.Frames.{state_at}
use Rattle.adapter_replies.proofs.locals.local_lines.Given as goal

abbrev pub invariant-loop-next : goal.invariant-loop-next
invariant-loop-next g l =
    (s : Setting) (d : Debugger) → g.M.RecordedMachine.stands l.machine s d
    → flat_map (λ v. shown_line (state_at l.depth (now s d)) (whole v) v) (g.M.FramedMachine.locals_at l.machine s d l.depth 0)
    ≡ l.lines.items ++ flat_map (λ v. shown_line (state_at l.depth (now s d)) (whole v) v) (g.M.FramedMachine.locals_at l.machine s d l.depth l.from)

abbrev pub decreases-loop-next : goal.decreases-loop-next
decreases-loop-next g l = 18446744073709551615 - l.from
