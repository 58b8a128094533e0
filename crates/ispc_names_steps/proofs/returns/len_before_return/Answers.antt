use Rattle.std.proofs.Common.{sym, arith}
use Rattle.ispc_names_steps.proofs.Sequences.{before_here, none_here, before_all}
use Rattle.ispc_names_steps.proofs.returns.len_before_return.Goals as goal

pub returns-then-has_return-clause-before : goal.returns-then-has_return-clause-before
returns-then-has_return-clause-before c =
    before_here c.args.stmts.now c.loop-number.number c.index-stmts-number.result c.loop-number-test.true c.index-stmts-number.is c.loop-number.invariant (sym c.if-has_return.ensures)

pub loop-number-preserved : goal.loop-number-preserved
loop-number-preserved c =
    none_here c.args.stmts.now c.loop-number.number c.index-stmts-number.result c.loop-number-test.true c.index-stmts-number.is c.loop-number.invariant (sym c.if-has_return.ensures)

pub returns-clause-before : goal.returns-clause-before
returns-clause-before c = before_all c.args.stmts.now c.loop-number.number (omega arith) c.loop-number.invariant
