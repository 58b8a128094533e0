-- the places go up; what is told so far, and the variables from the place on
use Rattle.std.proofs.Common.{◌≡◌, ◌≤◌, ◌-◌, ◌++◌, map}
use Rattle.gang_model.specs.Debugger.Debugger.{Debugger, Setting}
use Rattle.adapter_replies.specs.declared.places.Place.TheVariants as place
use Rattle.adapter_replies.specs.Variables.{of_scope, told_each, variable_view}
use Rattle.adapter_replies.proofs.scopes.of_frame.Given as goal

abbrev pub invariant-loop-next : goal.invariant-loop-next
invariant-loop-next g l =
    ((s : Setting) (d : Debugger) → g.M.RecordedMachine.stands l.machine s d
    → told_each l.form s d l.depth (place.Parts l.scope l.depth) 0 (of_scope l.scope (g.M.FramedMachine.locals_at l.machine s d l.depth) (g.M.FramedMachine.parameters_at l.machine s d l.depth) 0)
    ≡ map variable_view l.told.items
    ++ told_each l.form s d l.depth (place.Parts l.scope l.depth) l.number (of_scope l.scope (g.M.FramedMachine.locals_at l.machine s d l.depth) (g.M.FramedMachine.parameters_at l.machine s d l.depth) l.from))
    × (l.number ≤ l.from)

abbrev pub decreases-loop-next : goal.decreases-loop-next
decreases-loop-next g l = 18446744073709551615 - l.from
