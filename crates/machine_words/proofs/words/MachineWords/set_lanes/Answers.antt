use Rattle.std.proofs.Common.{◌≡◌, ◌∙◌, refl, sym, subst}
use Rattle.gang_types.specs.Masks.{lanes_of}
use Rattle.gang_model.specs.Running.Lanes.{merged}
use Rattle.gang_memory.specs.Writes.{IsKeptOutside}
use Rattle.machine_words.specs.Views.{region_view}
use Rattle.machine_words.specs.Words.{regions_in, words_of}
use Rattle.machine_words.proofs.RangeWords.{stand_there}
use Rattle.machine_words.proofs.RegionWords.{lanes_at, region_long}
use Rattle.machine_words.proofs.Writing.{written}
use Rattle.machine_words.proofs.words.MachineWords.set_lanes.Goals as goal

pub returns : goal.returns
returns g c =
    let history = g.T.Timeline.history in
    let machine = c.args.self.now in
    let region = region_view c.args.region in
    let p = c.range-range.result in
    let old = words_of history machine in
    let new = (history c.assign_scalar.new.store.timeline).words in
    let own = regions_in history g.row.W machine region in
    let after = merged (lanes_of g.row.W c.args.mask) c.args.values own in
    let wide : p.len ≡ g.row.W = sym (region_long g.row.W machine.layout old c.requires.laid region p c.range-range.ensures) ∙ c.requires.whole in
    let assigned = c.assign_scalar.ensures.scalar own (lanes_at g.row.W machine.layout old c.requires.laid region p c.range-range.ensures c.requires.whole) in
    written history g.T.Timeline.left g.row.W machine (record { layout = machine.layout; store = c.assign_scalar.new.store }) c.requires.laid region p c.range-range.ensures
    after g.row.W refl
    (subst (λ n. IsKeptOutside p.first n old new) (sym wide) c.assign_scalar.ensures.only.others)
    (stand_there p new after (assigned.long ∙ sym wide) assigned.stands)
    c.assign_scalar.ensures.only.same c.assign_scalar.ensures.only.few
