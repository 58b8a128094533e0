use Rattle.machine_words.specs.Views.{region_view}
use Rattle.machine_words.specs.Words.{regions_in}
use Rattle.frame_steps.proofs.LeftRounds.{six_bounds}
use Rattle.frame_steps.proofs.rounds_left.bounds_kept.Goals as goal

pub returns : goal.returns
returns g c =
    six_bounds (regions_in g.T.Timeline.history g.row.W c.args.words.now (region_view c.args.counters))
    c.word.result c.word-2.result c.word-3.result c.word-4.result c.word-5.result c.word-6.result
    c.word.ensures c.word-2.ensures c.word-3.ensures c.word-4.ensures c.word-5.ensures c.word-6.ensures
