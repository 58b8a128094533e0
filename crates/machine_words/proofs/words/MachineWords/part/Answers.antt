use Rattle.std.proofs.Common.{ap, arith}
use Rattle.machine_words.specs.Views.{view_view}
use Rattle.machine_words.specs.Words.{words_of}
use Rattle.machine_words.proofs.ArrayWords.{part_inside}
use Rattle.machine_words.proofs.words.MachineWords.part.Goals as goal

pub returns-clause-inside : goal.returns-clause-inside
returns-clause-inside g c =
    let history = g.T.Timeline.history in
    let machine = c.args.self.now in
    let inside = part_inside g.row.W machine.layout (words_of history machine) c.requires.laid (view_view c.args.view) c.requires.inside in
    let first = ap (λ p. p.first) c.array_range-range.ensures in
    omega (arith, inside, first)
