use Rattle.gang_types.specs.Masks.{lanes_of}
use Rattle.machine_steps.proofs.EnteredNumbers.{AreEntered}
use Rattle.machine_steps.proofs.calls.begin_frame.Given as goal

-- the lanes so far wait for the first step, if they are in the call
abbrev pub invariant-loop-lane : goal.invariant-loop-lane
invariant-loop-lane g l = AreEntered (lanes_of g.row.W l.lanes) l.entry l.closing g.row.W l.lane l.numbers
