use Rattle.std.proofs.Common.{◌∙◌, sym, ap, length}
use Rattle.machine_shown.specs.ShownWords.{shown_view}
use Rattle.machine_shown.proofs.ReadWords.{counted, is_count, not_seen, seen_words}
use Rattle.machine_shown.proofs.shown.count.Goals as goal

pub returns-in-Some-clause-shown : goal.returns-in-Some-clause-shown
returns-in-Some-clause-shown g c masked v shown seen e =
    let history = g.T.Timeline.history in
    let compiled = c.args.compiled.now in
    let words = c.args.words.now in
    let here = shown_view c.in-Some.shown in
    let has = c.in-Some.ensures.found in
    c.count.ensures ∙ sym (counted history g.row.W compiled words c.requires.sound c.args.depth c.args.variable here has)
    ∙ sym (ap length (seen_words history g.row.W compiled words c.requires.sound c.args.depth c.args.variable here has masked v shown seen e))

pub returns-in-Some-clause-counts : goal.returns-in-Some-clause-counts
returns-in-Some-clause-counts g c =
    is_count g.T.Timeline.history g.row.W c.args.compiled.now c.args.words.now c.requires.sound c.args.depth c.args.variable (shown_view c.in-Some.shown) c.in-Some.ensures.found
    c.count.result c.count.ensures

pub returns-in-None-clause-shown : goal.returns-in-None-clause-shown
returns-in-None-clause-shown g c masked v shown seen e =
    absurd (not_seen g.T.Timeline.history g.row.W c.args.compiled.now c.args.words.now c.requires.sound c.args.depth c.args.variable (c.find_shown.ensures.none c.in-None.is) masked v shown seen e)
