use Rattle.std.proofs.Common.{◌≡◌, take, sym, subst, ◌∙◌, codes, arith}
use Rattle.std.proofs.lemmas.List.{take_all}
use Rattle.std.specs.Io.KnownBytes.{Appends}
use Rattle.json_texts.proofs.Listing.{joined, list_closed, written_ok}
use Rattle.run_page.specs.RecordText.{moment_texts}
use Rattle.run_page.proofs.MomentTexts.{count_more, moment_more}
use Rattle.run_page.proofs.writing.write_moments.Goals as goal

pub returns-clause-written : goal.returns-clause-written
returns-clause-written g c =
    let kept = c.args.kept.now in
    let moments = c.args.moments.now in
    let all : take c.loop-number.number moments ≡ moments = take_all c.loop-number.number moments (omega (arith, c.loop-number-test.false)) in
    list_closed (moment_texts kept 0 moments) _ _ _ _ c.write_all-2.result c.in_ok-write_all.ensures.0 (subst (λ it. Appends (g.O.AnswerWriter.written c.write_all.new.self) (g.O.AnswerWriter.written c.loop-number.writer) (joined (moment_texts kept 0 it))) all c.loop-number.invariant.texts)
    (written_ok (codes "]") _ _ _ c.write_all-2.result c.write_all-2.ensures)

pub loop-number-preserved : goal.loop-number-preserved
loop-number-preserved g c =
    let moments = c.args.moments.now in
    let number = c.loop-number.number in
    let inside = c.loop-number-test.true in
    record {
      counted = c.call_count-before.ensures ∙ sym (count_more 0 moments number _ inside);
      texts = moment_more c.args.kept.now 0 moments number _ c.loop-number.before _ _ _ _ inside c.loop-number.invariant.counted c.loop-number.invariant.texts c.in_ok-write_comma.ensures.written c.in_ok-write_moment.ensures.written;
      works = c.in_ok-write_moment.ensures.failed;
    }
