use Rattle.std.proofs.Common.{◌≡◌, ◌+◌, ◌<◌, ◌≤◌, ◌∙◌, [], ◌++◌, length, ap, ap₂, sym, subst, Some, slice_get, slice_set, All, arith}
use Rattle.std.specs.Prelude.{reverse}
use Rattle.std.specs.Simd.Lanes.{put_chunk}
use Rattle.std.specs.Vec.{with_items}
use Rattle.std.proofs.lemmas.List.{length-append, length-set, with_items_is}
use Rattle.std.proofs.lemmas.Simd.{length-put_chunk}
use Rattle.circular_buffer.specs.Buffer.{buffer, keep_last}
use Rattle.undo_log.specs.Deltas.{left_of}
use Rattle.undo_log.specs.DeltaRings.{moments, run_changes}
use Rattle.undo_log.proofs.Deltas.{length-moments, none_first, seen, some_first, total_fits}
use Rattle.undo_log.proofs.Runs.{counted_by, left_run, length-run, moments_run, room_run, run_in_range, small_run, steps_run, total_run}
use Rattle.undo_log.proofs.Snapshots.{keep_last-all}
use Rattle.undo_log.proofs.delta_ring.DeltaRing.exchange_run.Goals as goal

newest : (g : _) (c : goal.After-extend_from_slice g) → Some c.in-Some.latest.now ≡ slice_get c.self.inside.marks.items 0
newest g c = c.in-Some.ensures.value

within : (g : _) (c : goal.After-extend_from_slice g) → c.args.first + length c.args.values.now ≤ length c.self.inside.words.items
within g c = let h : c.args.first + length c.args.values.now ≤ length c.args.self.now.history.words = c.requires.in_range in rw (← c.self.view_is) at h

words_are : (g : _) (c : goal.After-extend_from_slice g) → (with_items c.self.inside.words c.exchange-changes.new.words).items ≡ put_chunk c.args.first c.self.inside.words.items c.args.values.now
words_are g c =
    let long = ap length c.exchange-changes.ensures.words ∙ length-put_chunk c.args.first c.as_mut_slice.result.now c.args.values.now in
    with_items_is c.self.inside.words c.exchange-changes.new.words (long ∙ c.as_mut_slice.ensures.len)
    ∙ (c.exchange-changes.ensures.words ∙ ap (λ ws. put_chunk c.args.first ws c.args.values.now) c.as_mut_slice.ensures.value)

-- there is room for so many changes more
room : (g : _) (c : goal.After-extend_from_slice g) → c.in-Some.latest.now.count + length c.args.values.now ≤ c.self.inside.cells
room g c =
    let a = c.self.inside in
    let left : 0 < length c.args.self.now.history.past → length c.args.values.now ≤ left_of c.args.self.now.history.room c.args.self.now.counts = c.requires.room in
    let there : 0 < length a.marks.items = some_first c.in-Some.latest.now a.marks.items (newest g c) in
    let h = rw (← c.self.view_is, length-moments a.marks.items (reverse a.changes.items) a.words.items) at left in
    room_run a.cells (length c.args.values.now) c.in-Some.latest.now a.marks.items (newest g c) c.self.invariant.small (h there)

-- no change is dropped
kept : (g : _) (c : goal.After-extend_from_slice g)
    → c.extend_from_slice.new.self ≡ buffer (c.self.inside.changes.items ++ run_changes c.args.first (length c.args.values.now) c.self.inside.words.items) c.self.inside.changes.capacity
kept g c =
    let a = c.self.inside in
    let i = c.self.invariant in
    let n = length c.args.values.now in
    let m = c.in-Some.latest.now in
    let run = run_changes c.args.first (length c.args.values.now) c.self.inside.words.items in
    let few = total_fits a.cells a.limit (slice_set a.marks.items 0 (counted_by n m)) (small_run a.cells n m a.marks.items (newest g c) i.small (room g c)) (rw (length-set a.marks.items 0 (counted_by n m)) i.marks.1) in
    c.extend_from_slice.ensures
    ∙ (ap (λ cs. buffer (keep_last a.changes.capacity (a.changes.items ++ cs)) a.changes.capacity) (c.exchange-changes.ensures.changes ∙ ap (run_changes c.args.first n) c.as_mut_slice.ensures.value)
    ∙ ap (λ cs. buffer cs a.changes.capacity)
    (keep_last-all a.changes.capacity (a.changes.items ++ run)
    (omega (arith, length-append a.changes.items run, length-run c.args.first n a.words.items, i.changes.0, i.changes.1, few, total_run n m a.marks.items (newest g c)))))

pub invariant_of-self-2 : goal.invariant_of-self-2
invariant_of-self-2 g c =
    let a = c.self.inside in
    let i = c.self.invariant in
    let n = length c.args.values.now in
    let m = c.in-Some.latest.now in
    let run = run_changes c.args.first (length c.args.values.now) c.self.inside.words.items in
    let long = ap length (words_are g c) ∙ length-put_chunk c.args.first a.words.items c.args.values.now in
    rw (kept g c) record {
      some = i.some;
      marks = (i.marks.0, rw (length-set a.marks.items 0 (counted_by n m)) i.marks.1);
      changes = (i.changes.0, omega (arith, length-append a.changes.items run, length-run c.args.first n a.words.items, i.changes.1, total_run n m a.marks.items (newest g c)));
      small = small_run a.cells n m a.marks.items (newest g c) i.small (room g c);
      in_range = subst (λ len. All (λ k. k.index < len) (a.changes.items ++ run)) (sym long) (run_in_range c.args.first n (length a.words.items) a.words.items a.changes.items (within g c) i.in_range);
      steps = i.steps ∙ sym (steps_run n m a.marks.items (newest g c));
    }

pub returns-clause-history : goal.returns-clause-history
returns-clause-history g c =
    let a = c.self.inside in
    let n = length c.args.values.now in
    let m = c.in-Some.latest.now in
    rw (← c.self.view_is)
    (ap₂ (λ ws past. seen ws a.limit a.cells past) (words_are g c)
    (ap₂ (λ b ws. moments (slice_set a.marks.items 0 (counted_by n m)) (reverse b.items) ws) (kept g c) (words_are g c)
    ∙ moments_run c.args.first c.args.values.now m a.marks.items a.changes.items a.words.items (within g c) (newest g c)))

pub returns-clause-left : goal.returns-clause-left
returns-clause-left g c =
    let a = c.self.inside in
    rw (← c.self.view_is) (left_run a.cells (length c.args.values.now) c.in-Some.latest.now a.marks.items (newest g c))

pub returns-in_default-clause-history : goal.returns-in_default-clause-history
returns-in_default-clause-history g c =
    let a = c.self.inside in
    let long = ap length c.exchange-changes.ensures.words ∙ length-put_chunk c.args.first c.as_mut_slice.result.now c.args.values.now in
    let words : (with_items a.words c.exchange-changes.new.words).items ≡ put_chunk c.args.first a.words.items c.args.values.now =
    with_items_is a.words c.exchange-changes.new.words (long ∙ c.as_mut_slice.ensures.len)
    ∙ (c.exchange-changes.ensures.words ∙ ap (λ ws. put_chunk c.args.first ws c.args.values.now) c.as_mut_slice.ensures.value) in
    rw (← c.self.view_is, none_first a.marks.items c.in_default.ensures.value) (ap (λ ws. seen ws a.limit a.cells []) words)

pub exchange-changes-requires : goal.exchange-changes-requires
exchange-changes-requires g c =
    let h : c.args.first + length c.args.values.now ≤ length c.args.self.now.history.words = c.requires.in_range in
    let inside = rw (← c.self.view_is) at h in
    (omega (arith, c.requires.few), (c.requires.width, (c.requires.small, omega (arith, inside, ap length c.as_mut_slice.ensures.value))))
