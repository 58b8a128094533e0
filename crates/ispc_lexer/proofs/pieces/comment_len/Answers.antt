use Rattle.std.proofs.Common.{sym, ap, ◌∙◌}
use Rattle.ispc_lexer.specs.Pieces.{begins_close}
use Rattle.ispc_lexer.proofs.Runs.{tail_is}
use Rattle.ispc_lexer.proofs.Comments.{close_found, close_next, close_end}
use Rattle.ispc_lexer.proofs.pieces.comment_len.Goals as goal

pub returns-then-begins_close-clause-value : goal.returns-then-begins_close-clause-value
returns-then-begins_close-clause-value c = close_found c.args.bytes.now c.loop-i.i _ c.loop-i-test.true (ap begins_close (sym (tail_is c.args.bytes.now c.loop-i.i)) ∙ sym c.begins_close.ensures.value ∙ c.if-begins_close.true) c.loop-i.invariant

pub loop-i-preserved : goal.loop-i-preserved
loop-i-preserved c = close_next c.args.bytes.now c.loop-i.i _ c.loop-i-test.true (ap begins_close (sym (tail_is c.args.bytes.now c.loop-i.i)) ∙ sym c.begins_close.ensures.value ∙ c.if-begins_close.false) c.loop-i.invariant

pub returns-clause-value : goal.returns-clause-value
returns-clause-value c = close_end c.args.bytes.now c.loop-i.i _ c.loop-i-test.false c.loop-i.invariant
