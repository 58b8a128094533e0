use Rattle.std.proofs.Common.{◌∙◌, sym, ap, slice_index}
use Rattle.machine_shown.specs.ShownWords.{shown_view}
use Rattle.machine_shown.proofs.ReadWords.{is_word, no_word, not_seen, seen_words}
use Rattle.machine_shown.proofs.WordsRoom.{room_up_to}
use Rattle.machine_shown.proofs.shown.word.Goals as goal

pub word_of-requires-clause-there : goal.word_of-requires-clause-there
word_of-requires-clause-there g c =
    room_up_to g.T.Timeline.history g.row.W c.args.compiled.now c.args.words.now c.requires.sound c.args.depth c.args.variable (shown_view c.in-Some.shown) c.in-Some.ensures.found

pub returns-in-Some-clause-shown : goal.returns-in-Some-clause-shown
returns-in-Some-clause-shown g c masked v shown seen e =
    c.word_of.ensures
    ∙ sym (ap (λ ws. slice_index ws c.args.index)
    (seen_words g.T.Timeline.history g.row.W c.args.compiled.now c.args.words.now c.requires.sound c.args.depth c.args.variable (shown_view c.in-Some.shown) c.in-Some.ensures.found masked v shown seen e))

pub returns-in-Some-clause-reads : goal.returns-in-Some-clause-reads
returns-in-Some-clause-reads g c =
    is_word g.T.Timeline.history g.row.W c.args.compiled.now c.args.words.now c.requires.sound c.args.depth c.args.variable (shown_view c.in-Some.shown) c.in-Some.ensures.found
    c.args.index c.word_of.result c.word_of.ensures

pub returns-in-None-clause-shown : goal.returns-in-None-clause-shown
returns-in-None-clause-shown g c masked v shown seen e =
    absurd (not_seen g.T.Timeline.history g.row.W c.args.compiled.now c.args.words.now c.requires.sound c.args.depth c.args.variable (c.find_shown.ensures.none c.in-None.is) masked v shown seen e)

pub returns-in-None-clause-reads : goal.returns-in-None-clause-reads
returns-in-None-clause-reads g c =
    no_word g.T.Timeline.history g.row.W c.args.compiled.now c.args.words.now c.requires.sound c.args.depth c.args.variable (c.find_shown.ensures.none c.in-None.is) c.args.index
