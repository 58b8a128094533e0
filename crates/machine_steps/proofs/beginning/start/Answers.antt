use Rattle.std.proofs.Common.{◌∙◌, arith}
use Rattle.gang_types.specs.Masks.{lanes_of}
use Rattle.machine_steps.proofs.FirstStates.{start_lie, start_rest, start_shown}
use Rattle.machine_steps.proofs.FirstWords.{width_left}
use Rattle.machine_steps.proofs.beginning.start.Goals as goal

pub begin_frame-requires : goal.begin_frame-requires
begin_frame-requires g c =
    let files = c.fill_file.ensures in
    let gives = c.give_rows.ensures in
    let (f, given, may, lengths) = c.requires.rows in
    record {
      width = c.requires.lie.gang;
      compiled = c.requires.lie.compiled_is;
      laid = gives.lie.laid;
      there = omega arith;
      runs = (f, may.is_function);
      left = width_left g.T.Timeline.history g.T.Timeline.left g.row.W c.args.compiled.now c.args.words.now c.requires.lie c.requires.fresh c.give_rows.new.words (gives.rest ∙ files.rest);
    }

pub returns : goal.returns
returns g c =
    let history = g.T.Timeline.history in
    let left = g.T.Timeline.left in
    let w = g.row.W in
    let compiled = c.args.compiled.now in
    let old = c.args.words.now in
    let filled = c.fill_file.new.words in
    let mid = c.give_rows.new.words in
    let new = c.begin_frame.new.words in
    let lanes = lanes_of w c.all.result in
    let some = c.requires.rows.0 in
    let begun = c.begin_frame.ensures some c.requires.rows.2.is_function in
    record {
      lie = start_lie history left w compiled old filled mid new c.requires.lie c.args.entry c.args.rows.now c.fill_file.ensures c.give_rows.ensures some lanes begun;
      shown = λ f given may lengths.
          start_shown history left w compiled old filled mid new c.requires.lie c.args.entry c.args.rows.now c.fill_file.ensures c.give_rows.ensures f lanes
          (c.begin_frame.ensures f may.is_function) c.all.ensures given may lengths;
      kept = start_rest history left w compiled old filled mid new c.requires.lie c.args.entry c.args.rows.now c.fill_file.ensures c.give_rows.ensures some lanes begun;
    }
