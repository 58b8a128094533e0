use Rattle.std.proofs.Common.{◌+◌, ◌<◌, ◌∙◌, sym, ap, arith, slice_index}
use Rattle.machine_words.specs.Arrays.{array_range}
use Rattle.machine_words.specs.Views.{view_view}
use Rattle.machine_words.specs.Words.{words_of}
use Rattle.machine_words.proofs.ArrayWords.{own_long, own_words}
use Rattle.machine_words.proofs.RangeWords.{word_in}
use Rattle.machine_words.proofs.words.MachineWords.element.Goals as goal

pub returns : goal.returns
returns g c =
    let machine = c.args.self.now in
    let view = view_view c.args.view in
    let own = array_range g.row.W machine.layout view.array in
    let index = view.first + c.args.index in
    let words = words_of g.T.Timeline.history machine in
    let long = own_long g.row.W machine.layout words c.requires.laid view.array in
    let within : index < own.len = omega (arith, c.requires.inside, c.requires.there, long) in
    c.word.ensures
    ∙ ap (slice_index words) (omega (arith, c.part.ensures.lies.first))
    ∙ sym (word_in own words index within)
    ∙ ap (λ ws. slice_index ws index) (sym (own_words g.row.W machine.layout words c.requires.laid view.array))
