use Rattle.std.proofs.Common.{ℕ, refl, subst}
use Rattle.std.specs.Prelude.{OnOk}
use Rattle.gang_types.specs.Masks.{lanes_of}
use Rattle.gang_model.specs.Running.Library.{rank}
use Rattle.cross_lane.specs.EachLaws.{lane_kept}
use Rattle.gang_memory.specs.Elements.{stored}
use Rattle.gang_memory.specs.Packed.{IsPackedStore, PacksIntoArrays, ranks_of}
use Rattle.machine_states.specs.ArrayParts.{array_region}
use Rattle.machine_words.specs.Arrays.{array_range}
use Rattle.machine_words.specs.Views.{view_view}
use Rattle.machine_words.specs.Words.{regions_in, words_of}
use Rattle.machine_words.proofs.ArrayWords.{array_stands, kept_beside, some_range, store_done}
use Rattle.machine_words.proofs.Writing.{written}
use Rattle.machine_words.proofs.words.MachineWords.set_packed.Goals as goal

pub unreachable-requires : goal.unreachable-requires
unreachable-requires g c =
    let machine = c.args.self.now in
    let old = words_of g.T.Timeline.history machine in
    let new = (g.T.Timeline.history c.packed_store.new.store.timeline).words in
    let lanes = lanes_of g.row.W c.args.mask in
    let part = c.part-part.result in
    store_done g.row.W machine.layout old c.requires.laid (view_view c.args.view) c.requires.inside part c.part-part.ensures.lies ℕ
    lanes (rank lanes) (ranks_of lanes) c.args.values new c.in-Err.field-0 (lane_kept lanes (rank lanes)) c.requires.there
    (subst (λ r. IsPackedStore part lanes c.args.values old r new) c.in-Err.is c.packed_store.ensures.answer)

pub returns : goal.returns
returns g c =
    let history = g.T.Timeline.history in
    let machine = c.args.self.now in
    let old = words_of history machine in
    let new = (history c.packed_store.new.store.timeline).words in
    let lanes = lanes_of g.row.W c.args.mask in
    let view = view_view c.args.view in
    let part = c.part-part.result in
    let lies = c.part-part.ensures.lies in
    let stores = subst (λ r. OnOk r (PacksIntoArrays part lanes c.args.values old new)) c.in-Ok.is c.packed_store.ensures.array in
    written history g.T.Timeline.left g.row.W machine (record { layout = machine.layout; store = c.packed_store.new.store }) c.requires.laid (array_region view.array) (array_range g.row.W machine.layout view.array)
    (some_range g.row.W machine.layout old c.requires.laid view c.requires.inside lanes (ranks_of lanes) c.requires.lane c.requires.there)
    (stored view.first lanes (ranks_of lanes) c.args.values (regions_in history g.row.W machine (array_region view.array))) g.row.W refl
    (kept_beside g.row.W machine.layout old c.requires.laid view c.requires.inside part lies new c.packed_store.ensures.only.others)
    (array_stands g.row.W machine.layout old c.requires.laid view c.requires.inside part lies lanes (ranks_of lanes) c.args.values new stores)
    c.packed_store.ensures.only.same c.packed_store.ensures.only.few
