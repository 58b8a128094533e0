use Rattle.std.proofs.Common.{subst, codes, arith}
use Rattle.std.specs.Io.KnownBytes.{Appends}
use Rattle.json_texts.proofs.Listing.{list_more, list_whole, written_ok}
use Rattle.run_page.specs.RecordText.{variable_text}
use Rattle.run_page.proofs.writing.write_variables.Goals as goal

pub returns-clause-written : goal.returns-clause-written
returns-clause-written g c =
    list_whole variable_text c.args.variables.now c.loop-number.number _ _ _ _ c.write_all-2.result (omega (arith, c.loop-number-test.false)) c.in_ok-write_all.ensures.0 c.loop-number.invariant.0
    (written_ok (codes "]") _ _ _ c.write_all-2.result c.write_all-2.ensures)

pub loop-number-preserved : goal.loop-number-preserved
loop-number-preserved g c =
    let it = c.index-variables-number.result in
    let one = subst (λ it. Appends (g.O.AnswerWriter.written c.write_comma.new.writer) (g.O.AnswerWriter.written c.write_variable.new.writer) (variable_text it)) c.index-variables-number.is c.in_ok-write_variable.ensures.written in
    (list_more variable_text c.args.variables.now c.loop-number.number it _ _ _ _ c.loop-number-test.true c.loop-number.invariant.0 c.in_ok-write_comma.ensures.written one, c.in_ok-write_variable.ensures.failed)
