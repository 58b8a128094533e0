use Rattle.std.proofs.Common.{◌≡◌, ◌∙◌, false, true, length, rules, subst, sym}
use Rattle.lane_picture.specs.Tries.{end_view}
use Rattle.run_page.specs.Noting.{HasRecord}
use Rattle.run_page.specs.Pages.{IsPut, page_text}
use Rattle.run_page.specs.declared.page.PageEnd.TheVariants.{WriteFault}
use Rattle.run_page.proofs.Telling.{written}
use Rattle.run_page.proofs.page.write_page.Goals as goal

pub returns-in-Ok-clause-written : goal.returns-in-Ok-clause-written
returns-in-Ok-clause-written g c s d st =
    written g.M.RecordedMachine.stands s c.args.subject.now.most_steps d c.in_ok-record.end c.told.result c.note_run.new.session c.told.ensures.told (c.in_ok-record.ensures.noted s d st).run

pub returns-clause-written : goal.returns-clause-written
returns-clause-written g c s d st =
    written g.M.RecordedMachine.stands s c.args.subject.now.most_steps d c.in_ok-record.end WriteFault c.note_run.new.session tt (c.in_ok-record.ensures.noted s d st).run

pub returns-in-Ok-clause-page : goal.returns-in-Ok-clause-page
returns-in-Ok-clause-page g c s d st limit =
    let kept = c.in_ok-record.record in
    let ended = c.in_ok-record.end in
    let noted = c.in_ok-record.ensures.noted s d st in
    let count : c.len-moments.result ≡ length kept.moments.items = search rules in
    let old = g.O.AnswerWriter.written c.args.writer.now in
    let new = g.O.AnswerWriter.written c.write_all.new.self in
    let text = page_text c.args.viewer.now c.args.subject.now ended kept in
    record {
      kept = kept;
      ended = ended;
      text = subst (λ failed. IsPut failed text old new) (sym c.told.ensures.works) (subst (λ text. IsPut false text old new) (c.as_slice.ensures.value ∙ c.in_ok-text.ensures) c.in-Ok.ensures.0);
      ends = noted.run.ends limit;
      has = subst (λ tried. HasRecord s d c.args.subject.now tried (end_view ended) kept) (noted.run.whole limit) (noted.has limit);
      count = count;
    }

pub returns-clause-page : goal.returns-clause-page
returns-clause-page g c s d st limit =
    let kept = c.in_ok-record.record in
    let ended = c.in_ok-record.end in
    let noted = c.in_ok-record.ensures.noted s d st in
    let count : c.len-moments.result ≡ length kept.moments.items = search rules in
    let old = g.O.AnswerWriter.written c.args.writer.now in
    let new = g.O.AnswerWriter.written c.write_all.new.self in
    let text = page_text c.args.viewer.now c.args.subject.now ended kept in
    let front = c.in-Err.ensures in
    record {
      kept = kept;
      ended = ended;
      text = subst (λ text. IsPut true text old new) (c.as_slice.ensures.value ∙ c.in_ok-text.ensures) (front.0, front.1, front.2);
      ends = noted.run.ends limit;
      has = subst (λ tried. HasRecord s d c.args.subject.now tried (end_view ended) kept) (noted.run.whole limit) (noted.has limit);
      count = count;
    }
