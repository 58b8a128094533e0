use Rattle.std.proofs.Common.{length}
use Rattle.machine_words.specs.Views.{region_view}
use Rattle.machine_steps.proofs.RowWords.{words_given, words_left}
use Rattle.machine_steps.proofs.rows.give_words.Goals as goal

pub fill-requires : goal.fill-requires
fill-requires g c =
    record {
      width = c.requires.width;
      laid = c.requires.laid;
      fits = c.requires.fits;
      left = words_left g.T.Timeline.history g.T.Timeline.left g.row.W c.args.words.now c.requires.laid c.requires.fresh (region_view c.args.region) (length c.args.values.now) c.requires.fits;
    }

pub returns : goal.returns
returns g c =
    words_given g.T.Timeline.history g.T.Timeline.left g.row.W c.args.words.now c.fill.new.self (region_view c.args.region) c.args.values.now (length c.args.values.now) c.fill.ensures
