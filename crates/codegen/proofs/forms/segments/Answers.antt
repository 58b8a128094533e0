use Rattle.std.proofs.Common.{length, rules, subst, sym, take}
use Rattle.std.proofs.lemmas.List.{length_push, take_all}
use Rattle.std.proofs.lemmas.Slice.Zip.{zip_turn, zip_end}
use Rattle.typed_tree.specs.Views.{segments_view}
use Rattle.codegen.specs.Codes.{AreSegments}
use Rattle.codegen.proofs.Labels.{segment_more}
use Rattle.codegen.proofs.Rows.{both_walked}
use Rattle.codegen.proofs.forms.segments.Goals as goal

pub loop-segment-preserved : goal.loop-segment-preserved
loop-segment-preserved c =
    let labelled = c.args.labelled.now in
    let entries = c.args.entries.now in
    let xs = c.loop-segment.yielded in
    let turn =
    zip_turn labelled entries xs c.into_iter-segment-iterator.result c.loop-segment.segment-iterator c.next.new.self c.next.result (search rules) (search rules)
    c.loop-segment.yielded_by (c.in-Some.segment, c.in-Some.entry) c.in-Some.is c.next.ensures.steps in
    subst (λ n. AreSegments c.push.new.self.items (segments_view (take n labelled)) (take n entries)) (sym (length_push xs (c.in-Some.segment, c.in-Some.entry)))
    (segment_more labelled entries (length xs) c.in-Some.segment.now c.in-Some.entry.now c.loop-segment.made.items c.push.new.self.items turn.0 turn.1 (turn.2 c.in-Some.segment.now)
    (turn.3 c.in-Some.entry.now) c.loop-segment.invariant c.in_ok-push.ensures.items)

pub returns : goal.returns
returns c =
    let labelled = c.args.labelled.now in
    let entries = c.args.entries.now in
    let xs = c.loop-segment.yielded in
    let end =
    zip_end labelled entries xs c.into_iter-segment-iterator.result c.loop-segment.segment-iterator c.next.new.self c.next.result (search rules) (search rules)
    c.loop-segment.yielded_by c.in-None.is c.next.ensures.steps in
    let walked = both_walked (length xs) (length labelled) (length entries) end (sym c.requires) in
    subst (λ es. AreSegments c.loop-segment.made.items (segments_view labelled) es) (take_all (length xs) entries walked.1)
    (subst (λ l. AreSegments c.loop-segment.made.items (segments_view l) (take (length xs) entries)) (take_all (length xs) labelled walked.0) c.loop-segment.invariant)
