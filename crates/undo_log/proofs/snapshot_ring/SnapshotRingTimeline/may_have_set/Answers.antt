use Rattle.std.proofs.Common.{◌∙◌, sym, subst, length}
use Rattle.std.proofs.lemmas.Bool.{eq-eqb, false≢true}
use Rattle.undo_log.specs.History.{SameBetween}
use Rattle.undo_log.proofs.Snapshots.{kept_between}
use Rattle.undo_log.proofs.snapshot_ring.SnapshotRingTimeline.may_have_set.Goals as goal

pub returns-in-Some : goal.returns-in-Some
returns-in-Some c none =
    let a = c.self.inside in
    let before = c.in-Some.before.now in
    let same = subst (λ words. SameBetween c.args.first c.args.end before.items words) c.as_slice.ensures.value
    (subst (λ words. SameBetween c.args.first c.args.end words c.as_slice.result.now) c.as_slice-in-Some.ensures.value (c.differ_between.ensures none)) in
    rw (← c.self.view_is) (kept_between c.args.first c.args.end before a.events.items a.lists.items a.words.items
    (λ h. false≢true (sym c.if-is_empty.false ∙ c.is_empty.ensures ∙ eq-eqb (length a.events.items) 0 h)) c.in-Some.ensures same)
