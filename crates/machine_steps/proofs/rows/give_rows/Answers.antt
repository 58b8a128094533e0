use Rattle.std.proofs.Common.{refl, length, arith}
use Rattle.std.proofs.lemmas.Option.{slice_get_read}
use Rattle.machine_steps.proofs.FirstWords.{still_fresh}
use Rattle.machine_steps.proofs.RowsGiven.{all_given, next_fits, none_given, one_given}
use Rattle.machine_steps.proofs.rows.give_rows.Goals as goal

pub loop-row-init : goal.loop-row-init
loop-row-init g c = none_given g.T.Timeline.history g.T.Timeline.left g.row.W c.args.compiled.now c.args.entry c.args.rows.now c.args.words.now c.requires.lie

pub give_row-requires : goal.give_row-requires
give_row-requires g c =
    let history = g.T.Timeline.history in
    let left = g.T.Timeline.left in
    let rows = c.args.rows.now in
    let old = c.args.words.now in
    let mid = c.loop-row.words in
    let so_far = c.loop-row.invariant in
    let i = c.loop-row.row-index in
    let input = c.row-item.result in
    let is = slice_get_read rows (length rows) i input refl c.loop-row-test.true c.row-item.is in
    let (f, given, may, lengths) = c.requires.rows in
    record {
      width = c.requires.lie.gang;
      laid = so_far.lie.laid;
      fresh = still_fresh history left g.row.W c.args.compiled.now old c.requires.lie c.requires.fresh mid so_far.rest;
      fits = next_fits history left g.row.W c.args.compiled.now c.args.entry rows old c.requires.lie i mid so_far input is f given may lengths;
    }

pub loop-row-preserved : goal.loop-row-preserved
loop-row-preserved g c =
    let rows = c.args.rows.now in
    let i = c.loop-row.row-index in
    let input = c.row-item.result in
    let is = slice_get_read rows (length rows) i input refl c.loop-row-test.true c.row-item.is in
    one_given g.T.Timeline.history g.T.Timeline.left g.row.W c.args.compiled.now c.args.entry rows c.args.words.now c.requires.lie i c.loop-row.words c.loop-row.invariant input is
    c.give_row.new.words c.give_row.ensures

pub returns : goal.returns
returns g c =
    all_given g.T.Timeline.history g.T.Timeline.left g.row.W c.args.compiled.now c.args.entry c.args.rows.now c.args.words.now c.requires.lie c.loop-row.row-index c.loop-row.words c.loop-row.invariant
    (omega (arith, c.loop-row-test.false))
