use Rattle.gang_types.specs.Masks.{lanes_of}
use Rattle.machine_words.specs.Views.{view_view}
use Rattle.machine_words.specs.Words.{words_of}
use Rattle.machine_words.proofs.ArrayWords.{ranked_there, shows_elements}
use Rattle.machine_words.proofs.words.MachineWords.packed_elements.Goals as goal

pub returns-in-Ok-clause-read : goal.returns-in-Ok-clause-read
returns-in-Ok-clause-read g c = λ state memory.
    let machine = c.args.self.now in
    let view = view_view c.args.view in
    c.in-Ok.ensures.words state view
    (shows_elements g.row.W machine.layout (words_of g.T.Timeline.history machine) c.requires.laid view c.requires.inside c.part.result c.part.ensures.lies state memory)

pub returns-in-Ok-clause-there : goal.returns-in-Ok-clause-there
returns-in-Ok-clause-there g c =
    let machine = c.args.self.now in
    ranked_there g.row.W machine.layout (words_of g.T.Timeline.history machine) c.requires.laid (view_view c.args.view) c.requires.inside c.part.result c.part.ensures.lies
    (lanes_of g.row.W c.args.mask) c.in-Ok.loaded.words c.in-Ok.ensures.words

pub returns-in-Err-clause-read : goal.returns-in-Err-clause-read
returns-in-Err-clause-read g c = λ state memory.
    let machine = c.args.self.now in
    let view = view_view c.args.view in
    c.in-Err.ensures.words state view
    (shows_elements g.row.W machine.layout (words_of g.T.Timeline.history machine) c.requires.laid view c.requires.inside c.part.result c.part.ensures.lies state memory)
