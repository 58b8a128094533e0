use Rattle.std.proofs.Common.{◌≡◌, ◌<◌, ◌∙◌, sym, ap, arith}
use Rattle.machine_words.specs.Words.{regions_in, words_of}
use Rattle.machine_words.proofs.ArrayWords.{file_view, own_long}
use Rattle.machine_words.proofs.Sizes.{local_words}
use Rattle.machine_words.proofs.words.MachineWords.view.Goals as goal

pub kept_view-requires-clause-whole : goal.kept_view-requires-clause-whole
kept_view-requires-clause-whole g c =
    let machine = c.args.self.now in
    let frames = machine.layout.frames in
    let count : frames.count ≡ 64 = c.requires.laid.planned.count in
    let below : c.args.frame < frames.count = omega (arith, count, c.requires.there) in
    let within : c.in-Local.number < frames.variables = c.if-number-self.true in
    local_words g.row.W machine.layout (words_of g.T.Timeline.history machine) c.requires.laid c.args.frame c.in-Local.number below within

pub returns-in-File : goal.returns-in-File
returns-in-File g c =
    let history = g.T.Timeline.history in
    let machine = c.args.self.now in
    file_view (regions_in history g.row.W machine) c.args.frame c.args.array c.in-File.field-0 c.array_range.result.len c.in-File.is
    (ap (λ p. p.len) c.array_range.ensures ∙ sym (own_long g.row.W machine.layout (words_of history machine) c.requires.laid c.args.array))
