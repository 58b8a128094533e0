use Rattle.std.proofs.Common.{subst, ap, ◌∙◌, codes, arith}
use Rattle.std.specs.Io.KnownBytes.{Appends}
use Rattle.json_texts.specs.Json.{string_text}
use Rattle.json_texts.proofs.Listing.{list_more, list_whole, written_ok}
use Rattle.run_page.proofs.writing.write_functions.Goals as goal

pub returns-clause-written : goal.returns-clause-written
returns-clause-written g c =
    list_whole (λ name. string_text name.items) c.args.functions.now c.loop-number.number _ _ _ _ c.write_all-2.result (omega (arith, c.loop-number-test.false)) c.in_ok-write_all.ensures.0 c.loop-number.invariant.0
    (written_ok (codes "]") _ _ _ c.write_all-2.result c.write_all-2.ensures)

pub loop-number-preserved : goal.loop-number-preserved
loop-number-preserved g c =
    let it = c.index-functions-number.result in
    let one = subst (λ t. Appends (g.O.AnswerWriter.written c.write_comma.new.writer) (g.O.AnswerWriter.written c.write_part.new.writer) (string_text t)) (c.as_slice.ensures.value ∙ ap (λ name. name.items) c.index-functions-number.is) c.in_ok-write_part.ensures.written in
    (list_more (λ name. string_text name.items) c.args.functions.now c.loop-number.number it _ _ _ _ c.loop-number-test.true c.loop-number.invariant.0 c.in_ok-write_comma.ensures.written one, c.in_ok-write_part.ensures.failed)
