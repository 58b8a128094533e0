use Rattle.std.proofs.Common.{ap, sym, ◌∙◌, map, string_bytes, take}
use Rattle.std.proofs.lemmas.List.{map-append}
use Rattle.adapter_session.specs.Given.{given_numbers}
use Rattle.adapter_session.specs.Requested.{delete_line}
use Rattle.adapter_session.proofs.Appending.{pushed}
use Rattle.adapter_session.proofs.StopNumbers.{numbers_with, numbers_without}
use Rattle.adapter_session.proofs.lines.delete_lines.Goals.{then-is_of+in_ok-format+in_ok-push, else-is_of}
use Rattle.adapter_session.proofs.lines.delete_lines.Goals as goal

pub loop-entry-preserved : goal.loop-entry-preserved
loop-entry-preserved c =
    let kind = c.args.kind in
    let stops = c.args.stops.now in
    let i = c.loop-entry.entry-index in
    let functions = c.args.functions.now in
    let before = given_numbers kind functions (take i stops) in
    elim c.if-is_of.branch [
      | then-is_of+in_ok-format+in_ok-push w ↦
          pushed string_bytes c.loop-entry.lines.items c.if-is_of.lines.items w.in_ok-format.field-0 _ (map delete_line before)
          (ap (λ v. v.items) w.lines-is ∙ w.in_ok-push.ensures.items) w.in_ok-format.ensures.ok c.loop-entry.invariant
          ∙ sym (map-append delete_line before _)
          ∙ sym (ap (map delete_line) (numbers_with kind functions stops i _ c.loop-entry-test.true (sym c.is_of.ensures ∙ w.if-is_of.true)))
      | else-is_of w ↦
          ap (λ v. map string_bytes v.items) w.lines-is ∙ c.loop-entry.invariant
          ∙ sym (ap (map delete_line) (numbers_without kind functions stops i _ c.loop-entry-test.true (sym c.is_of.ensures ∙ w.if-is_of.false)))
    ]
