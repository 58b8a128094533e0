use Rattle.std.proofs.Common.{subst, sym, map, ◌∙◌}
use Rattle.conditional_stops.specs.Going.{GoesOnce, command_of}
use Rattle.conditional_stops.specs.Views.{table_of}
use Rattle.log_points.specs.Points.{log_of, written_of}
use Rattle.log_points.proofs.Once.{along_none, along_one, once_ended, stands_there}
use Rattle.log_points.proofs.going.write_once.Goals as goal

pub returns-then-is_at_stop : goal.returns-then-is_at_stop
returns-then-is_at_stop g c s d st =
    let stands = g.M.RecordedMachine.stands in
    let command = command_of c.args.direction in
    let table = table_of c.args.conditions.now in
    let new = table_of c.continue_on.new.conditions in
    let session = c.continue_on.new.session in
    let goes = c.continue_on.ensures.moved s d st in
    let once = subst (λ ended. GoesOnce stands s command d table ended session new) (sym c.end_of-end.ensures) (once_ended stands s command d session c.continue_on.result.passed goes.at table goes.before new c.continue_on.result.end goes.passes goes.ends) in
    let is = sym c.is_at_stop.ensures ∙ c.if-is_at_stop.true in
    record {
      goes = once;
      writes = along_one s command d (map log_of c.args.points.now) (table_of c.args.terms.now) (table_of c.write_each.new.terms) (written_of c.args.written.now) (written_of c.write_each.new.written) c.end_of-end.result is
          (c.write_each.ensures s _ (stands_there stands s command d session table new c.end_of-end.result once is));
    }

pub returns-else-is_at_stop : goal.returns-else-is_at_stop
returns-else-is_at_stop g c s d st =
    let stands = g.M.RecordedMachine.stands in
    let command = command_of c.args.direction in
    let table = table_of c.args.conditions.now in
    let new = table_of c.continue_on.new.conditions in
    let session = c.continue_on.new.session in
    let goes = c.continue_on.ensures.moved s d st in
    let is = sym c.is_at_stop.ensures ∙ c.if-is_at_stop.false in
    record {
      goes = subst (λ ended. GoesOnce stands s command d table ended session new) (sym c.end_of-end.ensures) (once_ended stands s command d session c.continue_on.result.passed goes.at table goes.before new c.continue_on.result.end goes.passes goes.ends);
      writes = along_none s command d (map log_of c.args.points.now) (table_of c.args.terms.now) (written_of c.args.written.now) c.end_of-end.result is;
    }
