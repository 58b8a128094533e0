use Rattle.std.proofs.Common.{◌≡◌, ◌<◌, [], ◌∷◌, ◌++◌, length, map, ap, sym, ◌∙◌, get_or, slice_set, Some, slice_get, refl, arith}
use Rattle.std.proofs.lemmas.List.{length-set, length_push, get_or_read}
use Rattle.std.proofs.lemmas.List.Elements.{All-push}
use Rattle.std.specs.Prelude.{reverse}
use Rattle.circular_buffer.specs.Buffer.{keep_last}
use Rattle.undo_log.specs.declared.changes.Change.{Change}
use Rattle.undo_log.specs.Deltas.{left_of}
use Rattle.undo_log.proofs.Deltas.{left_head, some_first, none_first, total_lt, total_set, small_set, counts_set, counted_once, moments_set, length-moments, count_of, left_one_more, seen}
use Rattle.undo_log.proofs.Newest.{one_newer}
use Rattle.undo_log.proofs.Snapshots.{keep_last-all}
use Rattle.undo_log.proofs.Steps.{steps_set}
use Rattle.undo_log.proofs.delta_ring.DeltaRingTimeline.set.Goals as goal

newest : (c : goal.After-push_back) → Some c.in-Some.newest.now ≡ slice_get c.self.inside.marks.items 0
newest c = c.in-Some.ensures.value

below : (c : goal.After-push_back) → c.in-Some.newest.now.count < c.self.inside.cells
below c =
    let a = c.self.inside in
    let left : 0 < length c.args.self.now.history.past → 0 < left_of c.args.self.now.history.room c.args.self.now.counts = c.requires.room in
    let there : 0 < length a.marks.items = some_first c.in-Some.newest.now a.marks.items (newest c) in
    let h = rw (← c.self.view_is, length-moments a.marks.items (reverse a.changes.items) a.words.items) at left in
    left_head a.cells c.in-Some.newest.now a.marks.items (newest c) (h there)

within : (c : goal.After-push_back) → c.args.index < length c.self.inside.words.items
within c = let h : c.args.index < length c.args.self.now.history.words = c.requires.in_range in rw (← c.self.view_is) at h

old : (c : goal.After-push_back) → c.index-old.result.now ≡ get_or c.self.inside.words.items c.args.index 0
old c = get_or_read c.self.inside.words.items c.args.index c.index-old.result.now (within c) c.index-old.ensures 0

-- no change is dropped
all_changes : (c : goal.After-push_back) (k : Change) → keep_last c.self.inside.changes.capacity (c.self.inside.changes.items ++ k ∷ []) ≡ c.self.inside.changes.items ++ k ∷ []
all_changes c k =
    let a = c.self.inside in
    let i = c.self.invariant in
    keep_last-all a.changes.capacity (a.changes.items ++ k ∷ [])
    (omega (arith, length_push a.changes.items k, i.changes.0, i.changes.1, total_lt a.cells a.limit c.in-Some.newest.now a.marks.items (newest c) i.small i.marks.1 (below c)))

pub invariant_of-self-2 : goal.invariant_of-self-2
invariant_of-self-2 c =
    let a = c.self.inside in
    let i = c.self.invariant in
    let longer = length-set a.words.items c.args.index c.args.value in
    rw (c.push_back.ensures.items, all_changes c) record {
      some = i.some;
      marks = (i.marks.0, rw (length-set a.marks.items 0 (counted_once c.in-Some.newest.now)) i.marks.1);
      changes = (i.changes.0, length_push a.changes.items _ ∙ omega (arith, i.changes.1, total_set c.in-Some.newest.now a.marks.items (newest c)));
      small = small_set a.cells c.in-Some.newest.now a.marks.items (newest c) i.small (below c);
      in_range = rw longer (All-push (λ k. k.index < length a.words.items) a.changes.items _ i.in_range (within c));
      steps = i.steps ∙ sym (steps_set c.in-Some.newest.now a.marks.items (newest c));
    }

pub returns-clause-history : goal.returns-clause-history
returns-clause-history c =
    let a = c.self.inside in
    rw (← c.self.view_is, c.push_back.ensures.items, all_changes c, one_newer)
    (ap (seen (slice_set a.words.items c.args.index c.args.value) a.limit a.cells)
    (moments_set c.args.index c.args.value c.index-old.result.now c.in-Some.newest.now a.marks.items (reverse a.changes.items) a.words.items (old c) (newest c)))

pub returns-clause-counts : goal.returns-clause-counts
returns-clause-counts c =
    let a = c.self.inside in
    rw (← c.self.view_is) (counts_set c.in-Some.newest.now a.marks.items (newest c))

pub returns-clause-left : goal.returns-clause-left
returns-clause-left c =
    let a = c.self.inside in
    rw (← c.self.view_is, counts_set c.in-Some.newest.now a.marks.items (newest c)) (left_one_more a.cells (map count_of a.marks.items))

pub returns-in_default-clause-history : goal.returns-in_default-clause-history
returns-in_default-clause-history c =
    let a = c.self.inside in
    rw (← c.self.view_is, none_first a.marks.items c.in_default.ensures.value) refl

pub returns-in_default-clause-counts : goal.returns-in_default-clause-counts
returns-in_default-clause-counts c =
    let a = c.self.inside in
    rw (← c.self.view_is, none_first a.marks.items c.in_default.ensures.value) refl
