use Rattle.std.proofs.Common.{◌+◌, ◌≡◌, ◌<◌, ◌∙◌, refl, sym, ap, arith}
use Rattle.std.specs.Prelude.{slice_set}
use Rattle.machine_states.specs.ArrayParts.{array_region}
use Rattle.machine_words.specs.Arrays.{array_range}
use Rattle.machine_words.specs.Views.{view_view}
use Rattle.machine_words.specs.Words.{regions_in, words_of}
use Rattle.machine_words.proofs.ArrayWords.{own_long, own_range, own_words}
use Rattle.machine_words.proofs.RangeWords.{set_alone, set_there}
use Rattle.machine_words.proofs.Writing.{written}
use Rattle.machine_words.proofs.words.MachineWords.set_element.Goals as goal

pub returns : goal.returns
returns g c =
    let history = g.T.Timeline.history in
    let machine = c.args.self.now in
    let view = view_view c.args.view in
    let own = array_range g.row.W machine.layout view.array in
    let index = view.first + c.args.index in
    let value = c.args.value in
    let old = words_of history machine in
    let new = (history c.set.new.self.timeline).words in
    let long = own_long g.row.W machine.layout old c.requires.laid view.array in
    let within : index < own.len = omega (arith, c.requires.inside, c.requires.there, long) in
    let stores : new ≡ slice_set old (own.first + index) value =
    c.set.ensures.words ∙ ap (λ n. slice_set old n value) (omega (arith, c.part-part.ensures.lies.first)) in
    written history g.T.Timeline.left g.row.W machine (record { layout = machine.layout; store = c.set.new.self }) c.requires.laid (array_region view.array) own
    (own_range g.row.W machine.layout old c.requires.laid view.array (omega (arith, within)))
    (slice_set (regions_in history g.row.W machine (array_region view.array)) index value) 1 refl
    (set_alone own old new index value within stores)
    (set_there own old new index value within stores ∙ ap (λ ws. slice_set ws index value) (sym (own_words g.row.W machine.layout old c.requires.laid view.array)))
    c.set.ensures.rest c.set.ensures.left
