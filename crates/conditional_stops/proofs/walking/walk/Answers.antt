use Rattle.std.proofs.Common.{◌≡◌, ◌+◌, suc, refl, subst, arith}
use Rattle.gang_model.specs.Debugger.Debugger.{do_command}
use Rattle.conditional_stops.specs.Noted.{IsWatchedOn}
use Rattle.conditional_stops.specs.Views.{table_of}
use Rattle.conditional_stops.specs.Walking.{PassesSteps, StepsOnce, step_of}
use Rattle.conditional_stops.proofs.Steps.{all_stepped, ends_walk, steps_lead, steps_on}
use Rattle.conditional_stops.proofs.walking.walk.Goals as goal

pub returns-in-Some : goal.returns-in-Some
returns-in-Some g c s d st begun =
    let stands = g.M.RecordedMachine.stands in
    let way = c.args.direction in
    let watches = c.args.watches.now in
    let passed = c.loop-passed.passed in
    let table = table_of c.args.conditions.now in
    let before = table_of c.loop-passed.conditions in
    let new = table_of c.step_once.new.conditions in
    let session = c.step_once.new.session in
    let (at, there, watched, passes) = c.loop-passed.invariant s d st begun in
    let by = c.in-Some.ensures.step s at there watched in
    record {
      at = at;
      before = before;
      passes = passes;
      ends = ends_walk stands s way watches c.args.most passed at before new c.in-Some.end session c.loop-passed-test.true by;
      done = all_stepped stands s way watches passed d at table before new c.in-Some.end session passes by;
    }

pub loop-passed-init : goal.loop-passed-init
loop-passed-init g c s d st begun = (d, st, begun, (refl, refl))

pub loop-passed-preserved : goal.loop-passed-preserved
loop-passed-preserved g c s d st begun =
    let stands = g.M.RecordedMachine.stands in
    let way = c.args.direction in
    let watches = c.args.watches.now in
    let passed = c.loop-passed.passed in
    let table = table_of c.args.conditions.now in
    let before = table_of c.loop-passed.conditions in
    let new = table_of c.step_once.new.conditions in
    let (at, there, watched, passes) = c.loop-passed.invariant s d st begun in
    let next = (do_command s (step_of way) at).next in
    let by = subst (λ ended. StepsOnce stands s way watches at before ended c.step_once.new.session new) c.in_default.is (c.step_once.ensures.step s at there watched) in
    let on = subst (λ ended. IsWatchedOn s next watches ended c.step_once.new.watched) c.in_default.is (c.step_once.ensures.watched s at there watched) in
    let one : suc passed ≡ passed + 1 = omega arith in
    (next, by.0, on, subst (λ n. PassesSteps n s way watches d table next new) one (steps_on s way watches passed d at table before new passes by.1))

pub returns : goal.returns
returns g c s d st begun =
    let way = c.args.direction in
    let watches = c.args.watches.now in
    let passed = c.loop-passed.passed in
    let table = table_of c.args.conditions.now in
    let new = table_of c.loop-passed.conditions in
    let (at, there, watched, some) = c.loop-passed.invariant s d st begun in
    let all : passed ≡ c.args.most = omega (arith, c.loop-passed-test.false, c.loop-passed.auto.passed-end) in
    let passes = subst (λ n. PassesSteps n s way watches d table at new) all some in
    record {
      at = at;
      before = new;
      passes = passes;
      ends = (refl, there, refl);
      done = record { after = at; leads = steps_lead s way watches c.args.most d at table new passes; there = there };
    }
