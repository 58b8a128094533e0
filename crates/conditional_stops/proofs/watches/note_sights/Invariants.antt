-- what the watches show that were read is noted, and the codes are those of their texts
use Rattle.std.proofs.Common.{◌≡◌, ◌++◌, drop, map}
use Rattle.gang_model.specs.Debugger.Debugger.{Debugger, Setting}
use Rattle.debug_session.specs.Sessions.{bare}
use Rattle.conditional_stops.specs.Noted.{HaveCodes}
use Rattle.conditional_stops.specs.SightViews.{sights_view}
use Rattle.conditional_stops.specs.Watches.{seen}
use Rattle.conditional_stops.proofs.watches.note_sights.Given as goal

abbrev pub invariant-loop-place : goal.invariant-loop-place
invariant-loop-place g l =
    (s : Setting) (d : Debugger) → g.M.RecordedMachine.stands l.machine s (bare d) → HaveCodes s.program l.watches l.initial.codes.items
    → (sights_view l.sights.items ++ map (seen s d) (drop l.place l.watches) ≡ map (seen s d) l.watches) × HaveCodes s.program l.watches l.codes.items
