use Rattle.std.proofs.Common.{refl, subst}
use Rattle.std.specs.Prelude.{OnOk}
use Rattle.gang_types.specs.Masks.{lanes_of}
use Rattle.gang_model.specs.Running.Lanes.{at}
use Rattle.gang_memory.specs.Elements.{IsStore, StoresInArrays, stored}
use Rattle.machine_states.specs.ArrayParts.{array_region}
use Rattle.machine_words.specs.Arrays.{array_range}
use Rattle.machine_words.specs.Views.{view_view}
use Rattle.machine_words.specs.Words.{regions_in, words_of}
use Rattle.machine_words.proofs.ArrayWords.{array_stands, kept_beside, some_range, store_done}
use Rattle.machine_words.proofs.Writing.{written}
use Rattle.machine_words.proofs.words.MachineWords.set_elements.Goals as goal

pub unreachable-requires : goal.unreachable-requires
unreachable-requires g c =
    let machine = c.args.self.now in
    let old = words_of g.T.Timeline.history machine in
    let new = (g.T.Timeline.history c.scatter.new.store.timeline).words in
    let lanes = lanes_of g.row.W c.args.mask in
    let part = c.part-part.result in
    store_done g.row.W machine.layout old c.requires.laid (view_view c.args.view) c.requires.inside part c.part-part.ensures.lies (Unit {0})
    lanes (at c.args.indices) c.args.indices c.args.values new c.in-Err.field-0 (λ k e. refl) c.requires.there
    (subst (λ r. IsStore part lanes (at c.args.indices) c.args.indices c.args.values old r new) c.in-Err.is c.scatter.ensures.answer)

pub returns : goal.returns
returns g c =
    let history = g.T.Timeline.history in
    let machine = c.args.self.now in
    let old = words_of history machine in
    let new = (history c.scatter.new.store.timeline).words in
    let lanes = lanes_of g.row.W c.args.mask in
    let view = view_view c.args.view in
    let part = c.part-part.result in
    let lies = c.part-part.ensures.lies in
    let stores = subst (λ r. OnOk r (StoresInArrays part lanes c.args.indices c.args.values old new)) c.in-Ok.is c.scatter.ensures.array in
    written history g.T.Timeline.left g.row.W machine (record { layout = machine.layout; store = c.scatter.new.store }) c.requires.laid (array_region view.array) (array_range g.row.W machine.layout view.array)
    (some_range g.row.W machine.layout old c.requires.laid view c.requires.inside lanes c.args.indices c.requires.lane c.requires.there)
    (stored view.first lanes c.args.indices c.args.values (regions_in history g.row.W machine (array_region view.array))) g.row.W refl
    (kept_beside g.row.W machine.layout old c.requires.laid view c.requires.inside part lies new c.scatter.ensures.only.others)
    (array_stands g.row.W machine.layout old c.requires.laid view c.requires.inside part lies lanes c.args.indices c.args.values new stores)
    c.scatter.ensures.only.same c.scatter.ensures.only.few
