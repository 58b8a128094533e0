use Rattle.std.proofs.Common.{refl}
use Rattle.gang_machine.proofs.Beginnings.{first_lie, first_machine, first_stands}
use Rattle.gang_machine.proofs.EntryArrays.{entry_long}
use Rattle.gang_machine.proofs.opening.started.Goals as goal

pub start-requires-clause-lie : goal.start-requires-clause-lie
start-requires-clause-lie g c = first_lie g.T.Timeline.history g.row.W c.args.prepared c.requires.prepared c.args.timeline c.requires.fresh c.requires.width c.requires.room

pub start-requires-clause-rows : goal.start-requires-clause-rows
start-requires-clause-rows g c =
    let history = g.T.Timeline.history in
    let (f, given, may) = c.requires.rows in
    let lie = first_lie history g.row.W c.args.prepared c.requires.prepared c.args.timeline c.requires.fresh c.requires.width c.requires.room in
    (f, given, may.begins, entry_long history g.row.W c.args.prepared c.args.entry.0 f given c.args.rows.now may (record { layout = c.args.prepared.layout; store = record { timeline = c.args.timeline } }) refl lie.laid)

pub invariant_of-result : goal.invariant_of-result
invariant_of-result g c =
    let history = g.T.Timeline.history in
    let (f, given, may) = c.requires.rows in
    let lie = first_lie history g.row.W c.args.prepared c.requires.prepared c.args.timeline c.requires.fresh c.requires.width c.requires.room in
    let lengths = entry_long history g.row.W c.args.prepared c.args.entry.0 f given c.args.rows.now may (record { layout = c.args.prepared.layout; store = record { timeline = c.args.timeline } }) refl lie.laid in
    first_machine history g.row.W c.args.prepared c.requires.prepared c.args.timeline c.requires.fresh c.start.new.words c.args.entry.0 given f may.begins.is_function c.start.ensures.lie
    (c.start.ensures.shown f given may.begins lengths) c.start.ensures.kept c.requires.limit

pub returns : goal.returns
returns g c f given may =
    let history = g.T.Timeline.history in
    let lie = first_lie history g.row.W c.args.prepared c.requires.prepared c.args.timeline c.requires.fresh c.requires.width c.requires.room in
    let lengths = entry_long history g.row.W c.args.prepared c.args.entry.0 f given c.args.rows.now may (record { layout = c.args.prepared.layout; store = record { timeline = c.args.timeline } }) refl lie.laid in
    first_stands history g.row.W c.args.prepared c.requires.prepared c.args.timeline c.requires.fresh c.start.new.words c.args.entry.0 given (c.start.ensures.shown f given may.begins lengths)
    c.start.ensures.kept
