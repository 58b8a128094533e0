use Rattle.std.proofs.Common.{◌≡◌, ◌+◌, suc, refl, subst, map, Some, arith}
use Rattle.gang_model.specs.Debugger.Debugger.{do_command}
use Rattle.conditional_stops.specs.Going.{GoesOnce, Passes, command_of}
use Rattle.conditional_stops.specs.Views.{table_of}
use Rattle.conditional_stops.proofs.Passing.{all_done, ends_move, passes_lead, passes_on}
use Rattle.log_points.specs.Going.{is_at_stop, places, stops_once}
use Rattle.log_points.specs.Points.{log_of, no_text, written_of}
use Rattle.log_points.specs.Writing.{WritesAlong}
use Rattle.log_points.proofs.Once.{along_with, stops_is}
use Rattle.log_points.proofs.going.go_writing.Goals as goal

pub loop-passed-init : goal.loop-passed-init
loop-passed-init g c s d st = (
  d,
  st,
  (refl, refl),
  λ n new now along.
      let command = command_of c.args.direction in
      let logs = map log_of c.args.points.now in
      let terms = table_of c.args.terms.now in
      let none : n ≡ 0 + n = omega arith in
      subst (λ k. WritesAlong s (places k s command d) logs terms no_text new now) none
      (subst (λ w. WritesAlong s (places n s command d) logs terms w new now) c.new-written.ensures along),
)

pub returns-in-Some : goal.returns-in-Some
returns-in-Some g c s d st =
    let stands = g.M.RecordedMachine.stands in
    let command = command_of c.args.direction in
    let logs = map log_of c.args.points.now in
    let passed = c.loop-passed.passed in
    let table = table_of c.args.conditions.now in
    let before = table_of c.loop-passed.conditions in
    let new = table_of c.write_once.new.conditions in
    let session = c.write_once.new.session in
    let ended = c.in-Some.end in
    let (at, there, passes, along) = c.loop-passed.invariant s d st in
    let once = c.write_once.ensures s at there in
    let by = subst (λ ended. GoesOnce stands s command at before ended session new) c.in-Some.is once.goes in
    let writes = subst (λ ended. WritesAlong s (places (stops_once (is_at_stop ended)) s command at) logs (table_of c.loop-passed.terms) (written_of c.loop-passed.written) (table_of c.write_once.new.terms) (written_of c.write_once.new.written)) c.in-Some.is once.writes in
    record {
      goes = record {
        at = at;
        before = before;
        passes = passes;
        ends = ends_move stands s command c.args.most passed at before new ended session c.loop-passed-test.true by;
        done = all_done stands s command passed d at table before new ended session passes by;
      };
      writes = subst (λ n. WritesAlong s (places n s command d) logs (table_of c.args.terms.now) no_text (table_of c.write_once.new.terms) (written_of c.write_once.new.written)) (stops_is passed ended)
          (along (stops_once (is_at_stop (Some ended))) (table_of c.write_once.new.terms) (written_of c.write_once.new.written) writes);
    }

pub loop-passed-preserved : goal.loop-passed-preserved
loop-passed-preserved g c s d st =
    let stands = g.M.RecordedMachine.stands in
    let command = command_of c.args.direction in
    let logs = map log_of c.args.points.now in
    let passed = c.loop-passed.passed in
    let table = table_of c.args.conditions.now in
    let before = table_of c.loop-passed.conditions in
    let new = table_of c.write_once.new.conditions in
    let session = c.write_once.new.session in
    let old_terms = table_of c.loop-passed.terms in
    let new_terms = table_of c.write_once.new.terms in
    let old_written = written_of c.loop-passed.written in
    let new_written = written_of c.write_once.new.written in
    let (at, there, passes, along) = c.loop-passed.invariant s d st in
    let once = c.write_once.ensures s at there in
    let by = subst (λ ended. GoesOnce stands s command at before ended session new) c.in_default.is once.goes in
    let writes = subst (λ ended. WritesAlong s (places (stops_once (is_at_stop ended)) s command at) logs old_terms old_written new_terms new_written) c.in_default.is once.writes in
    let next = (do_command s command at).next in
    let one : suc passed ≡ passed + 1 = omega arith in (
      next,
      by.0,
      subst (λ n. Passes n s command d table next new) one (passes_on s command passed d at table before new passes by.1),
      λ n then now rest.
          let more : passed + suc n ≡ passed + 1 + n = omega arith in
          subst (λ k. WritesAlong s (places k s command d) logs (table_of c.args.terms.now) no_text then now) more
          (along (suc n) then now (along_with s logs next (places n s command next) old_terms new_terms then old_written new_written now writes rest)),
    )

pub returns : goal.returns
returns g c s d st =
    let command = command_of c.args.direction in
    let logs = map log_of c.args.points.now in
    let passed = c.loop-passed.passed in
    let table = table_of c.args.conditions.now in
    let new = table_of c.loop-passed.conditions in
    let (at, there, some, along) = c.loop-passed.invariant s d st in
    let all : passed ≡ c.args.most = omega (arith, c.loop-passed-test.false, c.loop-passed.auto.passed-end) in
    let none : passed + 0 ≡ c.args.most = omega (arith, all) in
    let passes = subst (λ n. Passes n s command d table at new) all some in
    record {
      goes = record {
        at = at;
        before = new;
        passes = passes;
        ends = (refl, there, refl);
        done = record { after = at; leads = passes_lead s command c.args.most d at table new passes; there = there };
      };
      writes = subst (λ n. WritesAlong s (places n s command d) logs (table_of c.args.terms.now) no_text (table_of c.loop-passed.terms) (written_of c.loop-passed.written)) none
          (along 0 (table_of c.loop-passed.terms) (written_of c.loop-passed.written) (refl, refl));
    }
