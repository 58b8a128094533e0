use Rattle.std.proofs.Common.{◌≡◌, ◌≤◌, ◌∙◌, ap, arith, length, sym, false, take}
use Rattle.std.specs.Prelude.{reverse}
use Rattle.std.specs.List.{list_any}
use Rattle.circular_buffer.specs.Buffer.{keep_last}
use Rattle.undo_log.proofs.Deltas.{is_between, kept_between, total_first}
use Rattle.undo_log.proofs.Newest.{any_newest, oldest_gone}
use Rattle.undo_log.proofs.delta_ring.DeltaRingTimeline.may_have_set.Goals as goal

pub returns-in-Some : goal.returns-in-Some
returns-in-Some c none =
    let a = c.self.inside in
    let m = c.in-Some.newest.now in
    let few : m.count ≤ length a.changes.items = omega (arith, c.self.invariant.changes.1, total_first m a.marks.items c.in-Some.ensures) in
    let test = is_between c.args.first c.args.end in
    let none_of : list_any test (take m.count (reverse a.changes.items)) ≡ false =
    ap (list_any test) (sym (oldest_gone m.count a.changes.items few)) ∙ (any_newest test (keep_last m.count a.changes.items) ∙ (sym c.is_any_between.ensures ∙ none)) in
    rw (← c.self.view_is) (kept_between c.args.first c.args.end m a.marks.items (reverse a.changes.items) a.words.items c.in-Some.ensures none_of)
