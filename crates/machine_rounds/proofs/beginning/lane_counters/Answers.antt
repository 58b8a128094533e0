use Rattle.frame_steps.proofs.Heads.{word_keeps}
use Rattle.machine_rounds.proofs.beginning.lane_counters.Goals as goal

pub returns : goal.returns
returns g c = word_keeps g.row.W c.word.result c.args.lanes c.word.ensures
