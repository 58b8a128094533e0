use Rattle.std.proofs.Common.{◌≡◌, ◌∙◌, sym, ap, length}
use Rattle.machine_states.specs.ArrayParts.{array_region}
use Rattle.machine_words.specs.Words.{regions_in, words_of}
use Rattle.machine_words.proofs.ArrayWords.{le_past, le_split, own_long}
use Rattle.machine_words.proofs.words.MachineWords.is_inside.Goals as goal

pub returns-then-view-len : goal.returns-then-view-len
returns-then-view-len g c =
    let history = g.T.Timeline.history in
    let machine = c.args.self.now in
    let view = c.args.view in
    let long : length (regions_in history g.row.W machine (array_region view.array)) ≡ c.array_range-len.result.len =
    own_long g.row.W machine.layout (words_of history machine) c.requires.laid view.array ∙ ap (λ p. p.len) (sym c.array_range-len.ensures) in
    le_split view.first view.len c.array_range-len.result.len (length (regions_in history g.row.W machine (array_region view.array))) c.if-view-len.true long

pub returns-else-view-len : goal.returns-else-view-len
returns-else-view-len g c =
    let history = g.T.Timeline.history in
    let machine = c.args.self.now in
    let view = c.args.view in
    let long : length (regions_in history g.row.W machine (array_region view.array)) ≡ c.array_range-len.result.len =
    own_long g.row.W machine.layout (words_of history machine) c.requires.laid view.array ∙ ap (λ p. p.len) (sym c.array_range-len.ensures) in
    le_past view.first view.len c.array_range-len.result.len (length (regions_in history g.row.W machine (array_region view.array))) c.if-view-len.false long
