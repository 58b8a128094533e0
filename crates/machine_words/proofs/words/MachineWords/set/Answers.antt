use Rattle.std.proofs.Common.{◌<◌, ◌∙◌, refl, sym, ap, arith}
use Rattle.std.specs.Prelude.{slice_set}
use Rattle.machine_words.specs.Views.{region_view}
use Rattle.machine_words.specs.Words.{regions_in, words_of}
use Rattle.machine_words.proofs.RangeWords.{set_alone, set_there}
use Rattle.machine_words.proofs.RegionWords.{region_is, region_long}
use Rattle.machine_words.proofs.Writing.{written}
use Rattle.machine_words.proofs.words.MachineWords.set.Goals as goal

pub returns : goal.returns
returns g c =
    let history = g.T.Timeline.history in
    let machine = c.args.self.now in
    let region = region_view c.args.region in
    let p = c.range-range.result in
    let index = c.args.index in
    let value = c.args.value in
    let old = words_of history machine in
    let new = (history c.set.new.self.timeline).words in
    let long = region_long g.row.W machine.layout old c.requires.laid region p c.range-range.ensures in
    let within : index < p.len = omega (arith, c.requires.within, long) in
    written history g.T.Timeline.left g.row.W machine (record { layout = machine.layout; store = c.set.new.self }) c.requires.laid region p c.range-range.ensures
    (slice_set (regions_in history g.row.W machine region) index value) 1 refl
    (set_alone p old new index value within c.set.ensures.words)
    (set_there p old new index value within c.set.ensures.words ∙ ap (λ ws. slice_set ws index value) (sym (region_is g.row.W machine.layout old c.requires.laid region p c.range-range.ensures)))
    c.set.ensures.rest c.set.ensures.left
