use Rattle.std.proofs.Common.{◌≡◌, ◌≤◌, ◌+◌, suc, refl, subst, arith}
use Rattle.std.proofs.Math.Nat.{mul-le-mul_right}
use Rattle.gang_model.specs.Debugger.Debugger.{do_command}
use Rattle.conditional_stops.specs.declared.going.MoveEnd.TheVariants as end
use Rattle.conditional_stops.specs.Going.{GoesOnce, Passes, command_of}
use Rattle.conditional_stops.specs.Views.{table_of}
use Rattle.conditional_stops.proofs.Passing.{all_done, ends_move, passes_lead, passes_on}
use Rattle.conditional_stops.proofs.Plain.{plain_move}
use Rattle.conditional_stops.proofs.going.continue_on.Goals as goal

pub returns-in-Some-clause-moved : goal.returns-in-Some-clause-moved
returns-in-Some-clause-moved g c s d st =
    let stands = g.M.RecordedMachine.stands in
    let command = command_of c.args.direction in
    let passed = c.loop-passed.passed in
    let table = table_of c.args.conditions.now in
    let before = table_of c.loop-passed.conditions in
    let new = table_of c.go_once.new.conditions in
    let session = c.go_once.new.session in
    let (at, there, passes) = c.loop-passed.invariant.passes s d st in
    let by = c.in-Some.ensures.gone s at there in
    record {
      at = at;
      before = before;
      passes = passes;
      ends = ends_move stands s command c.args.most passed at before new c.in-Some.end session c.loop-passed-test.true by;
      done = all_done stands s command passed d at table before new c.in-Some.end session passes by;
    }

pub returns-in-Some-clause-plain : goal.returns-in-Some-clause-plain
returns-in-Some-clause-plain g c s d st none some room =
    plain_move g.M.RecordedMachine.stands s c.args.direction d c.go_once.new.session (table_of c.go_once.new.conditions) c.args.most (table_of c.args.conditions.now)
    (record { end = c.in-Some.end; passed = c.loop-passed.passed }) none some room (returns-in-Some-clause-moved g c s d st)

pub loop-passed-init : goal.loop-passed-init
loop-passed-init g c = record {
  passes = λ s d st. (d, st, (refl, refl));
  moves = λ s d st forward. omega arith;
}

pub loop-passed-preserved : goal.loop-passed-preserved
loop-passed-preserved g c = record {
  passes = λ s d st.
      let stands = g.M.RecordedMachine.stands in
      let command = command_of c.args.direction in
      let passed = c.loop-passed.passed in
      let table = table_of c.args.conditions.now in
      let before = table_of c.loop-passed.conditions in
      let new = table_of c.go_once.new.conditions in
      let (at, there, passes) = c.loop-passed.invariant.passes s d st in
      let by = subst (λ ended. GoesOnce stands s command at before ended c.go_once.new.session new) c.in_default.is (c.go_once.ensures.gone s at there) in
      let next = (do_command s command at).next in
      let one : suc passed ≡ passed + 1 = omega arith in
      (next, by.0, subst (λ n. Passes n s command d table next new) one (passes_on s command passed d at table before new passes by.1));
  moves = λ s d st forward.
      let (at, there, passes) = c.loop-passed.invariant.passes s d st in
      omega (arith, c.loop-passed.invariant.moves s d st forward, c.go_once.ensures.moves s at there forward);
}

pub returns-clause-moved : goal.returns-clause-moved
returns-clause-moved g c s d st =
    let command = command_of c.args.direction in
    let passed = c.loop-passed.passed in
    let table = table_of c.args.conditions.now in
    let new = table_of c.loop-passed.conditions in
    let (at, there, some) = c.loop-passed.invariant.passes s d st in
    let all : passed ≡ c.args.most = omega (arith, c.loop-passed-test.false, c.loop-passed.auto.passed-end) in
    let passes = subst (λ n. Passes n s command d table at new) all some in
    record {
      at = at;
      before = new;
      passes = passes;
      ends = (refl, there, refl);
      done = record { after = at; leads = passes_lead s command c.args.most d at table new passes; there = there };
    }

pub returns-clause-plain : goal.returns-clause-plain
returns-clause-plain g c s d st none some room =
    plain_move g.M.RecordedMachine.stands s c.args.direction d c.loop-passed.session (table_of c.loop-passed.conditions) c.args.most (table_of c.args.conditions.now)
    (record { end = end.MostPassed; passed = c.args.most }) none some room (returns-clause-moved g c s d st)

pub returns-in-Some-clause-moves : goal.returns-in-Some-clause-moves
returns-in-Some-clause-moves g c s d st forward =
    let (at, there, passes) = c.loop-passed.invariant.passes s d st in
    let one : c.loop-passed.passed + 1 ≤ c.args.most = omega (arith, c.loop-passed-test.true) in
    omega (arith, c.loop-passed.invariant.moves s d st forward, c.go_once.ensures.moves s at there forward, mul-le-mul_right s.limit one)

pub returns-clause-moves : goal.returns-clause-moves
returns-clause-moves g c s d st forward =
    let all : c.loop-passed.passed ≤ c.args.most = omega (arith, c.loop-passed.auto.passed-end) in
    omega (arith, c.loop-passed.invariant.moves s d st forward, mul-le-mul_right s.limit all)
