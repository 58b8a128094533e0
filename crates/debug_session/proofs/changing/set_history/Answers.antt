use Rattle.std.proofs.Common.{◌≤◌, arith}
use Rattle.debug_session.proofs.Histories.{bad_large, bad_zero, finds_no_memory, good, keeps_history, out_of_range}
use Rattle.debug_session.proofs.changing.set_history.Goals.{then-limit-eq0-via-then-limit-eq0, then-limit-eq0-via-else-limit-eq0+then-limit-gt-MOST_KEPT}
use Rattle.debug_session.proofs.changing.set_history.Goals as goal

pub returns-then-limit-eq0-clause-replied : goal.returns-then-limit-eq0-clause-replied
returns-then-limit-eq0-clause-replied g c s d st =
    let n = c.args.limit in
    elim c.then-limit-eq0.branch [
      | then-limit-eq0-via-then-limit-eq0 w ↦ out_of_range g.M.RecordedMachine.may_want g.M.RecordedMachine.stands s d n c.args.machine.now (bad_zero n w.if-limit-eq0.true) st
      | then-limit-eq0-via-else-limit-eq0+then-limit-gt-MOST_KEPT w ↦
          out_of_range g.M.RecordedMachine.may_want g.M.RecordedMachine.stands s d n c.args.machine.now (bad_large n (omega (arith, w.if-limit-gt-MOST_KEPT.true))) st
    ]

pub returns-in-Ok-clause-replied : goal.returns-in-Ok-clause-replied
returns-in-Ok-clause-replied g c s d st =
    let n = c.args.limit in
    let few : n ≤ 65536 = omega (arith, c.if-limit-gt-MOST_KEPT.false) in
    keeps_history g.M.RecordedMachine.may_want g.M.RecordedMachine.stands s d n c.set_limit.new.self (good n c.if-limit-eq0.false few) (c.in-Ok.ensures.limit s _ st)

pub returns-in-Err-clause-replied : goal.returns-in-Err-clause-replied
returns-in-Err-clause-replied g c s d st =
    let n = c.args.limit in
    let few : n ≤ 65536 = omega (arith, c.if-limit-gt-MOST_KEPT.false) in
    let (larger, there) = c.in-Err.ensures.limit s _ st in
    finds_no_memory g.M.RecordedMachine.may_want g.M.RecordedMachine.stands s d n c.set_limit.new.self few larger there
