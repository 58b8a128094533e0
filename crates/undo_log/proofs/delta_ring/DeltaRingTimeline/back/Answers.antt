use Rattle.std.proofs.Common.{◌≡◌, ◌≤◌, ◌<◌, ◌∷◌, ◌∙◌, ◌-◌, length, drop, take, ap, ap₂, refl, sym, subst, All, arith}
use Rattle.std.specs.Prelude.{reverse}
use Rattle.std.specs.Vec.{with_items}
use Rattle.std.proofs.lemmas.List.{length-drop, length-take, with_items_is}
use Rattle.std.proofs.lemmas.List.Elements.{All-drop, All-take}
use Rattle.undo_log.specs.History.{moment}
use Rattle.undo_log.specs.DeltaRings.{moments, taken_back}
use Rattle.undo_log.proofs.Deltas.{length-taken_back, moments_back, total_first}
use Rattle.undo_log.proofs.Newest.{newest_gone}
use Rattle.undo_log.proofs.Steps.{count_first, is_step_mark}
use Rattle.undo_log.proofs.delta_ring.DeltaRingTimeline.back.Goals as goal

pub invariant_of-self-2 : goal.invariant_of-self-2
invariant_of-self-2 c =
    let a = c.self.inside in
    let i = c.self.invariant in
    let m = c.in-Some.mark in
    let long = ap length c.write_back-written.ensures.words ∙ length-taken_back (take m.count (reverse a.changes.items)) c.as_mut_slice.result.now in
    let same : length (with_items a.words c.write_back-written.new.words).items ≡ length a.words.items =
    ap length (with_items_is a.words c.write_back-written.new.words (long ∙ c.as_mut_slice.ensures.len)) ∙ long ∙ ap length c.as_mut_slice.ensures.value in
    rw (c.in-Some.ensures.items, c.write_back-written.ensures.changes) record {
      some = i.some;
      marks = (i.marks.0, omega (arith, i.marks.1, length-drop 1 a.marks.items));
      changes = (i.changes.0, omega (arith, i.changes.1, length-take (length a.changes.items - m.count) a.changes.items, total_first m a.marks.items c.in-Some.ensures.value));
      small = All-drop (λ m. m.count ≤ a.cells) 1 a.marks.items i.small;
      in_range = subst (λ n. All (λ k. k.index < n) (take (length a.changes.items - m.count) a.changes.items)) (sym same) (All-take (λ k. k.index < length a.words.items) (length a.changes.items - m.count) a.changes.items i.in_range);
      steps = omega (arith, count_first is_step_mark m a.marks.items c.in-Some.ensures.value, i.steps, c.steps_of.ensures);
    }

pub returns-clause-answer : goal.returns-clause-answer
returns-clause-answer c =
    let a = c.self.inside in
    let i = c.self.invariant in
    let m = c.in-Some.mark in
    let first = c.in-Some.ensures.value in
    let long = ap length c.write_back-written.ensures.words ∙ length-taken_back (take m.count (reverse a.changes.items)) c.as_mut_slice.result.now in
    let items : (with_items a.words c.write_back-written.new.words).items ≡ c.write_back-written.new.words = with_items_is a.words c.write_back-written.new.words (long ∙ c.as_mut_slice.ensures.len) in
    let back_is : (with_items a.words c.write_back-written.new.words).items ≡ taken_back (take m.count (reverse a.changes.items)) a.words.items =
    items ∙ (c.write_back-written.ensures.words ∙ ap (taken_back (take m.count (reverse a.changes.items))) c.as_mut_slice.ensures.value) in
    let few : m.count ≤ length a.changes.items = omega (arith, i.changes.1, total_first m a.marks.items first) in
    rw (← c.self.view_is, c.in-Some.ensures.items, c.write_back-written.ensures.changes) (
      moments_back m a.marks.items (reverse a.changes.items) a.words.items first
          ∙ ap₂ (λ ws cs. moment m.event ws ∷ moments (drop 1 a.marks.items) cs ws) (sym back_is) (sym (newest_gone m.count a.changes.items few)),
      ap length back_is ∙ length-taken_back (take m.count (reverse a.changes.items)) a.words.items,
      refl,
      refl,
    )
