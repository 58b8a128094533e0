use Rattle.json_texts.proofs.Listing.{ok_appends, written_ok}
use Rattle.run_page.specs.Pages.{parts_text}
use Rattle.run_page.specs.RecordText.{record_text}
use Rattle.run_page.proofs.page.write_whole_page.Goals as goal

pub returns-clause-written : goal.returns-clause-written
returns-clause-written g c =
    let viewer = c.args.viewer.now in
    let r = c.write_pieces-2.result in
    ok_appends _ _ _ r (parts_text viewer.front.now) _ c.in_ok-write_pieces.ensures.0
    (ok_appends _ _ _ r (record_text c.args.subject.now c.args.end c.args.kept.now) (parts_text viewer.rest.now) c.in_ok-write_record.ensures.written
    (written_ok (parts_text viewer.rest.now) _ _ _ r c.write_pieces-2.ensures))
