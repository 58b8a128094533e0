use Rattle.gang_types.specs.Masks.{lanes_of}
use Rattle.machine_words.specs.Views.{view_view}
use Rattle.machine_words.specs.Words.{words_of}
use Rattle.machine_words.proofs.ArrayWords.{loaded_ok, shows_elements}
use Rattle.machine_words.proofs.words.MachineWords.elements.Goals as goal

pub returns-clause-read : goal.returns-clause-read
returns-clause-read g c = λ state memory.
    let machine = c.args.self.now in
    let view = view_view c.args.view in
    c.gather.ensures state view
    (shows_elements g.row.W machine.layout (words_of g.T.Timeline.history machine) c.requires.laid view c.requires.inside c.part.result c.part.ensures.lies state memory)

pub returns-clause-there : goal.returns-clause-there
returns-clause-there g c =
    let machine = c.args.self.now in
    loaded_ok g.row.W machine.layout (words_of g.T.Timeline.history machine) c.requires.laid (view_view c.args.view) c.requires.inside c.part.result c.part.ensures.lies
    (lanes_of g.row.W c.args.mask) c.args.indices c.gather.result c.gather.ensures
