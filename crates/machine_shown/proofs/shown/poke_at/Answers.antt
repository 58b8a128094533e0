use Rattle.machine_shown.specs.ShownWords.{shown_view}
use Rattle.machine_shown.proofs.PokedWords.{empty_records, empty_sound, mid_laid, mid_left, mid_room, none_set, part_is_set, poke_records, poke_shown, poke_sound}
use Rattle.machine_shown.proofs.ReadWords.{not_seen}
use Rattle.machine_shown.proofs.shown.poke_at.Goals as goal

pub set_part-requires-clause-laid : goal.set_part-requires-clause-laid
set_part-requires-clause-laid g c =
    mid_laid g.T.Timeline.history g.T.Timeline.left g.row.W c.args.compiled.now c.args.words.now c.requires.sound c.args.depth c.begin.new.words c.begin.ensures

pub set_part-requires-clause-left : goal.set_part-requires-clause-left
set_part-requires-clause-left g c =
    mid_left g.T.Timeline.history g.T.Timeline.left g.row.W c.args.compiled.now c.args.words.now c.requires.sound c.args.depth c.begin.new.words c.begin.ensures

pub set_part-requires-clause-there : goal.set_part-requires-clause-there
set_part-requires-clause-there g c =
    mid_room g.T.Timeline.history g.T.Timeline.left g.row.W c.args.compiled.now c.args.words.now c.requires.sound c.args.depth c.begin.new.words c.begin.ensures
    c.args.variable (shown_view c.in-Some.shown)
    c.in-Some.ensures.found

pub returns-in-Some-clause-sound : goal.returns-in-Some-clause-sound
returns-in-Some-clause-sound g c =
    poke_sound g.T.Timeline.history g.T.Timeline.left g.row.W c.args.compiled.now c.args.words.now c.requires.sound c.args.depth c.begin.new.words c.begin.ensures
    c.args.variable (shown_view c.in-Some.shown)
    c.in-Some.ensures.found c.args.at c.args.word c.set_part.new.words c.set_part.ensures.sets c.set_part.ensures.keeps

pub returns-in-Some-clause-records : goal.returns-in-Some-clause-records
returns-in-Some-clause-records g c =
    poke_records g.T.Timeline.history g.T.Timeline.left g.row.W c.args.compiled.now c.args.words.now c.requires.sound c.args.depth c.begin.new.words c.begin.ensures
    c.args.variable (shown_view c.in-Some.shown)
    c.in-Some.ensures.found c.args.at c.args.word c.set_part.new.words c.set_part.ensures.sets c.set_part.ensures.keeps

pub returns-in-Some-clause-sets : goal.returns-in-Some-clause-sets
returns-in-Some-clause-sets g c =
    part_is_set g.T.Timeline.history g.T.Timeline.left g.row.W c.args.compiled.now c.args.words.now c.requires.sound c.args.depth c.begin.new.words c.begin.ensures
    c.args.variable (shown_view c.in-Some.shown)
    c.in-Some.ensures.found c.args.at c.args.word c.set_part.new.words c.set_part.ensures.sets c.set_part.ensures.keeps

pub returns-in-Some-clause-shown : goal.returns-in-Some-clause-shown
returns-in-Some-clause-shown g c masked v shown seen e part =
    poke_shown g.T.Timeline.history g.T.Timeline.left g.row.W c.args.compiled.now c.args.words.now c.requires.sound c.args.depth c.begin.new.words c.begin.ensures
    c.args.variable (shown_view c.in-Some.shown)
    c.in-Some.ensures.found c.args.at c.args.word c.set_part.new.words c.set_part.ensures.sets c.set_part.ensures.keeps
    masked v shown seen e part

pub returns-in_default-clause-sound : goal.returns-in_default-clause-sound
returns-in_default-clause-sound g c =
    empty_sound g.T.Timeline.history g.T.Timeline.left g.row.W c.args.compiled.now c.args.words.now c.requires.sound c.args.depth c.begin.new.words c.begin.ensures

pub returns-in_default-clause-records : goal.returns-in_default-clause-records
returns-in_default-clause-records g c =
    empty_records g.T.Timeline.history g.T.Timeline.left g.row.W c.args.compiled.now c.args.words.now c.requires.sound c.args.depth c.begin.new.words c.begin.ensures

pub returns-in_default-clause-sets : goal.returns-in_default-clause-sets
returns-in_default-clause-sets g c =
    none_set g.T.Timeline.history g.T.Timeline.left g.row.W c.args.compiled.now c.args.words.now c.requires.sound c.args.depth c.begin.new.words c.begin.ensures
    c.args.variable (c.find_shown-shown.ensures.none c.in_default.is) c.args.at c.args.word

pub returns-in_default-clause-shown : goal.returns-in_default-clause-shown
returns-in_default-clause-shown g c masked v shown seen e part =
    absurd (not_seen g.T.Timeline.history g.row.W c.args.compiled.now c.args.words.now c.requires.sound c.args.depth c.args.variable (c.find_shown-shown.ensures.none c.in_default.is) masked v shown seen e)
