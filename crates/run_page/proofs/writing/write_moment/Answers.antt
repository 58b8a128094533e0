use Rattle.std.proofs.Common.{◌∷◌, [], ◌∙◌, ap, codes}
use Rattle.std.specs.List.{concat}
use Rattle.std.specs.Prelude.{slice_range}
use Rattle.json_texts.proofs.Listing.{ok_appends, ok_text, written_ok}
use Rattle.run_page.specs.RecordText.{stand_text}
use Rattle.run_page.proofs.MomentTexts.{moment_parts}
use Rattle.run_page.proofs.writing.write_moment.Goals as goal

pub returns-clause-written : goal.returns-clause-written
returns-clause-written g c =
    let kept = c.args.kept.now in
    let moment = c.args.moment.now in
    let r = c.write_all.result in
    let changes = c.part_of-changes.ensures ∙ ap (λ xs. slice_range xs moment.first_change moment.end_of_changes) c.as_slice.ensures.value in
    ok_text _ _ _ _ r (moment_parts kept c.args.before moment _ _ _ changes c.as_slice-2.ensures.value c.as_slice-3.ensures.value)
    (ok_appends _ _ _ r (concat (codes "\n[" ∷ stand_text moment.stand ∷ codes "," ∷ [])) _ c.in_ok-write_stand.ensures.written
    (ok_appends _ _ _ r _ _ c.in_ok-write_changes.ensures.written
    (ok_appends _ _ _ r _ (codes "]") c.in_ok-write_calls.ensures.written (written_ok (codes "]") _ _ _ r c.write_all.ensures))))
