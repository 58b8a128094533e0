use Rattle.std.proofs.Common.{subst}
use Rattle.gang_model.specs.Debugger.Debugger.{poked_by}
use Rattle.machine_words.specs.Words.{regions_in}
use Rattle.frame_steps.specs.Standing.{IsShown}
use Rattle.machine_shown.proofs.TopWords.{part_top, poked_top, seen_top, set_top}
use Rattle.machine_shown.proofs.shown.poke.Goals as goal

pub returns-clause-sets : goal.returns-clause-sets
returns-clause-sets g c =
    set_top g.T.Timeline.history g.row.W c.args.compiled.now c.args.words.now c.requires.sound c.args.variable c.args.at c.args.word (regions_in g.T.Timeline.history g.row.W c.poke_at.new.words)
    c.poke_at.ensures.sets

pub returns-clause-shown : goal.returns-clause-shown
returns-clause-shown g c masked v shown seen e part =
    let few = shown.shows.few in
    subst (λ state. IsShown g.T.Timeline.history g.row.W c.args.compiled.now c.poke_at.new.words (record masked { state = state })) (poked_top masked few (poked_by v c.args.at) c.args.word)
    (c.poke_at.ensures.shown masked v shown (seen_top masked few c.args.compiled.now v seen) e (part_top masked few v c.args.at part))
