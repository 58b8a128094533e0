use Rattle.std.proofs.Common.{◌≡◌, length, arith}
use Rattle.machine_states.specs.Regions.{LanesOf, OfHead}
use Rattle.machine_words.specs.Words.{regions_in, words_of}
use Rattle.machine_words.proofs.Sizes.{head_words}
use Rattle.gang_machine.proofs.expressions.made_for.Goals as goal

pub word-requires-clause-within : goal.word-requires-clause-within
word-requires-clause-within g c =
    let machine = c.args.words.now in
    let history = g.T.Timeline.history in
    let count : machine.layout.frames.count ≡ 64 = c.requires.laid.planned.count in
    let long : length (regions_in history g.row.W machine (OfHead c.args.frame LanesOf)) ≡ 1 =
    head_words g.row.W machine.layout (words_of history machine) c.requires.laid c.args.frame LanesOf (omega (arith, count, c.requires.there)) in
    omega (arith, long)
