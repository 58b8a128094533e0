use Rattle.std.proofs.Common.{◌*◌}
use Rattle.gang_types.specs.Masks.{lanes_of}
use Rattle.machine_states.specs.Rounds.{lane_words}
use Rattle.machine_rounds.specs.Taking.{DeclaresAll}
use Rattle.machine_rounds.proofs.RoundWrites.{first_given}
use Rattle.machine_rounds.proofs.rounds.declare_all.Given as goal

abbrev pub invariant-loop-dimension : goal.invariant-loop-dimension
invariant-loop-dimension g l =
    DeclaresAll g.T.Timeline.history g.T.Timeline.left g.row.W l.fn.frame (lanes_of g.row.W l.fn.lanes) (first_given l.fn.variables (lane_words g.row.W l.fn.indices) l.dimension) (l.dimension * g.row.W)
    l.fn.words l.words
