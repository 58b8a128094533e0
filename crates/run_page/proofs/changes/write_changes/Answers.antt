use Rattle.std.proofs.Common.{◌≡◌, ◌++◌, None, take, sym, subst, ap, ◌∙◌, codes, arith}
use Rattle.std.proofs.lemmas.List.{take_all}
use Rattle.std.specs.Io.KnownBytes.{Appends}
use Rattle.json_texts.proofs.Listing.{ok_appends, ok_text, written_ok}
use Rattle.run_page.specs.ChangeTexts.{end_mark}
use Rattle.run_page.proofs.ChangeRows.{changes_are, last_of, last_step, open_step, open_text}
use Rattle.run_page.proofs.changes.write_changes.Goals as goal

pub returns-clause-written : goal.returns-clause-written
returns-clause-written g c =
    let variables = c.args.variables.now in
    let changes = c.args.changes.now in
    let all : take c.loop-change.change-index changes ≡ changes = take_all c.loop-change.change-index changes (omega (arith, c.loop-change-test.false)) in
    let mark = c.end_mark.ensures ∙ ap end_mark (c.loop-change.invariant.last ∙ ap (last_of None) all) in
    let texts = subst (λ it. Appends (g.O.AnswerWriter.written c.write_all.new.self) (g.O.AnswerWriter.written c.loop-change.writer) (open_text variables None it)) all c.loop-change.invariant.texts in
    ok_text _ _ _ _ c.write_all-2.result (sym (changes_are variables changes))
    (ok_appends _ _ _ c.write_all-2.result (codes "[") (open_text variables None changes ++ end_mark (last_of None changes)) c.in_ok-write_all.ensures.0
    (ok_appends _ _ _ c.write_all-2.result (open_text variables None changes) (end_mark (last_of None changes)) texts
    (ok_text _ _ _ _ c.write_all-2.result mark (written_ok _ _ _ _ c.write_all-2.result c.write_all-2.ensures))))

pub loop-change-preserved : goal.loop-change-preserved
loop-change-preserved g c =
    let changes = c.args.changes.now in
    let at = c.loop-change.change-index in
    let inside = c.loop-change-test.true in
    record {
      last = sym (last_step changes at _ inside);
      texts = open_step c.args.variables.now changes at _ c.loop-change.before _ _ _ inside c.loop-change.invariant.last c.loop-change.invariant.texts c.in_ok-write_change.ensures.written;
      works = c.in_ok-write_change.ensures.failed;
    }
