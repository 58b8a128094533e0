use Rattle.std.proofs.Common.{◌≡◌, ◌≤◌, ◌<◌, ◌-◌, length, ap, sym, ◌∙◌, arith}
use Rattle.std.proofs.lemmas.List.{take-take, take_all, length-take}
use Rattle.std.specs.Prelude.{reverse}
use Rattle.undo_log.specs.History.{limited}
use Rattle.undo_log.specs.DeltaRings.{moments}
use Rattle.undo_log.proofs.Deltas.{length-moments, seen}
use Rattle.undo_log.proofs.delta_ring.DeltaRing.shrink.Goals as goal

longer : (c : goal.After-forget_oldest) → c.args.smaller < length c.loop-self.self.history.past
longer c =
    let a = c.self.inside in
    rw (← c.self.view_is, length-moments a.marks.items (reverse a.changes.items) a.words.items) (omega arith)

pub loop-self-smaller : goal.loop-self-smaller
loop-self-smaller c = let l = longer c in rw (c.forget_oldest.ensures.history, length-take) (omega arith)

pub loop-self-preserved : goal.loop-self-preserved
loop-self-preserved c =
    let h = c.loop-self.self.history in
    let i = c.loop-self.invariant in
    let l = longer c in
    let less : c.args.smaller ≤ length h.past - 1 = omega arith in
    rw (c.forget_oldest.ensures.history, c.forget_oldest.ensures.counts) record {
      history = ap (seen h.words c.args.smaller h.room) (take-take c.args.smaller (length h.past - 1) h.past less) ∙ i.history;
      counts = take-take c.args.smaller (length h.past - 1) c.loop-self.self.counts less ∙ i.counts;
      limit = i.limit;
    }

short : (c : goal.After-self-1) → length (moments c.self-2.inside.marks.items (reverse c.self-2.inside.changes.items) c.self-2.inside.words.items) ≤ c.args.smaller
short c =
    let a = c.self.inside in
    let b = c.self-2.inside in
    let same = c.self.view_is ∙ sym c.self-2.view_is in
    let lengths : length a.marks.items ≡ length (moments b.marks.items (reverse b.changes.items) b.words.items) = sym (length-moments a.marks.items (reverse a.changes.items) a.words.items) ∙ ap (λ d. length d.history.past) same in
    omega arith

pub returns-clause-history : goal.returns-clause-history
returns-clause-history c =
    let a = c.self-2.inside in
    let past = moments a.marks.items (reverse a.changes.items) a.words.items in
    ap (seen a.words.items c.args.smaller a.cells) (sym (take_all c.args.smaller past (short c))) ∙ (ap (λ d. limited c.args.smaller d.history) c.self-2.view_is ∙ c.loop-self.invariant.history)
