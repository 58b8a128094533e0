use Rattle.std.proofs.Common.{subst, codes, decimal, map}
use Rattle.std.specs.Io.KnownBytes.{Appends}
use Rattle.json_texts.specs.Json.{list_text, string_text}
use Rattle.json_texts.proofs.Listing.{ok_appends, written_ok}
use Rattle.run_page.specs.Moments.{steps_of}
use Rattle.run_page.specs.RecordText.{end_text, head_text, moment_texts, variable_text}
use Rattle.run_page.proofs.writing.write_record.Goals as goal

pub returns-clause-written : goal.returns-clause-written
returns-clause-written g c =
    let kept = c.args.kept.now in
    let r = c.write_all-5.result in
    let written = g.O.AnswerWriter.written in
    let functions = subst (λ it. Appends (written c.write_all.new.self) (written c.write_functions.new.writer) (list_text (map (λ name. string_text name.items) it))) c.as_slice.ensures.value c.in_ok-write_functions.ensures.written in
    let variables = subst (λ it. Appends (written c.write_all-2.new.self) (written c.write_variables.new.writer) (list_text (map variable_text it))) c.as_slice-2.ensures.value c.in_ok-write_variables.ensures.written in
    let steps = subst (λ it. Appends (written c.write_all-3.new.self) (written c.write_steps.new.writer) (list_text (map decimal (steps_of it)))) c.as_slice-3.ensures.value c.in_ok-write_steps.ensures.written in
    let moments = subst (λ it. Appends (written c.write_all-4.new.self) (written c.write_moments.new.writer) (list_text (moment_texts kept 0 it))) c.as_slice-4.ensures.value c.in_ok-write_moments.ensures.written in
    ok_appends _ _ _ r (head_text c.args.subject.now kept) _ c.in_ok-write_head.ensures.written
    (ok_appends _ _ _ r (end_text c.args.end) _ c.in_ok-write_end.ensures.written
    (ok_appends _ _ _ r (codes ",\n\"functions\":") _ c.in_ok-write_all.ensures.0
    (ok_appends _ _ _ r (list_text (map (λ name. string_text name.items) kept.functions.items)) _ functions
    (ok_appends _ _ _ r (codes ",\n\"variables\":") _ c.in_ok-write_all-2.ensures.0
    (ok_appends _ _ _ r (list_text (map variable_text kept.variables.items)) _ variables
    (ok_appends _ _ _ r (codes ",\n\"steps\":") _ c.in_ok-write_all-3.ensures.0
    (ok_appends _ _ _ r (list_text (map decimal (steps_of kept.moments.items))) _ steps
    (ok_appends _ _ _ r (codes ",\n\"moments\":") _ c.in_ok-write_all-4.ensures.0
    (ok_appends _ _ _ r (list_text (moment_texts kept 0 kept.moments.items)) (codes "}") moments (written_ok (codes "}") _ _ _ r c.write_all-5.ensures))))))))))
