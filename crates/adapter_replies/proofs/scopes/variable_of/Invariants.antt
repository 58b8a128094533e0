-- the variables from the place on are those behind the ones that were counted
use Rattle.std.proofs.Common.{◌≡◌, drop}
use Rattle.gang_model.specs.Debugger.Debugger.{Debugger, Setting}
use Rattle.adapter_replies.specs.Variables.{of_scope}
use Rattle.adapter_replies.proofs.scopes.variable_of.Given as goal

abbrev pub invariant-loop : goal.invariant-loop
invariant-loop g l =
    (s : Setting) (d : Debugger) → g.M.RecordedMachine.stands l.machine s d
    → drop l.counter (of_scope l.scope (g.M.FramedMachine.locals_at l.machine s d l.depth) (g.M.FramedMachine.parameters_at l.machine s d l.depth) 0)
    ≡ of_scope l.scope (g.M.FramedMachine.locals_at l.machine s d l.depth) (g.M.FramedMachine.parameters_at l.machine s d l.depth) l.from
