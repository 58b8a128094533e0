use Rattle.std.proofs.Common.{codes, arith}
use Rattle.json_texts.proofs.Listing.{list_more, list_whole, written_ok}
use Rattle.run_page.specs.RecordText.{call_text}
use Rattle.run_page.proofs.writing.write_call_list.Goals as goal

pub returns-clause-written : goal.returns-clause-written
returns-clause-written g c =
    list_whole call_text c.args.calls.now c.loop-number.number _ _ _ _ c.write_all-2.result (omega (arith, c.loop-number-test.false)) c.in_ok-write_all.ensures.0 c.loop-number.invariant.0
    (written_ok (codes "]") _ _ _ c.write_all-2.result c.write_all-2.ensures)

pub loop-number-preserved : goal.loop-number-preserved
loop-number-preserved g c =
    (list_more call_text c.args.calls.now c.loop-number.number _ _ _ _ _ c.loop-number-test.true c.loop-number.invariant.0 c.in_ok-write_comma.ensures.written c.in_ok-write_call.ensures.written, c.in_ok-write_call.ensures.failed)
