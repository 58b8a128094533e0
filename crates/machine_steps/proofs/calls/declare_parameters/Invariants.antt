use Rattle.std.proofs.Common.{length}
use Rattle.gang_types.specs.Masks.{lanes_of}
use Rattle.machine_steps.specs.Calls.{AreParametersDeclared}
use Rattle.machine_steps.proofs.calls.declare_parameters.Given as goal

-- the parameters so far are declared
abbrev pub invariant-loop-number : goal.invariant-loop-number
invariant-loop-number g l =
    AreParametersDeclared g.T.Timeline.history g.T.Timeline.left g.row.W l.frame (length l.yielded) l.args l.given (lanes_of g.row.W l.lanes) l.fn.words l.words
