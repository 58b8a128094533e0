use Rattle.std.proofs.Common.{◌∙◌, ap}
use Rattle.gang_model.specs.Running.Lanes.{at, each}
use Rattle.machine_words.specs.Views.{region_view}
use Rattle.machine_words.specs.Words.{regions_in, words_of}
use Rattle.machine_words.proofs.AllLanes.{each_all}
use Rattle.machine_words.proofs.RegionWords.{lanes_at}
use Rattle.machine_words.proofs.words.MachineWords.lanes.Goals as goal

pub returns : goal.returns
returns g c =
    let history = g.T.Timeline.history in
    let machine = c.args.self.now in
    let region = region_view c.args.region in
    let own = regions_in history g.row.W machine region in
    c.read_scalar.ensures own (lanes_at g.row.W machine.layout (words_of history machine) c.requires.laid region c.range-range.result c.range-range.ensures c.requires.whole)
    ∙ ap (λ lanes. each lanes (λ k. at own k)) c.all.ensures
    ∙ each_all g.row.W own c.requires.whole
