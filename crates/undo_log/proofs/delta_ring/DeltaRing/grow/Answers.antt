use Rattle.std.proofs.Common.{ap, sym, map, take, ◌∙◌, arith}
use Rattle.std.proofs.lemmas.List.{take_all, length-map}
use Rattle.std.specs.Prelude.{reverse}
use Rattle.undo_log.specs.Deltas.{deltas}
use Rattle.undo_log.specs.DeltaRings.{moments}
use Rattle.undo_log.proofs.Deltas.{total_fits, length-moments, count_of, seen}
use Rattle.undo_log.proofs.delta_ring.DeltaRing.grow.Goals as goal

pub resize-requires : goal.resize-requires
resize-requires c =
    let a = c.self.inside in
    let i = c.self.invariant in
    let r = c.requires.0 in
    let limit = rw (← c.self.view_is) at r in
    omega (arith, i.changes.1, total_fits a.cells c.args.larger a.marks.items i.small (omega arith))

pub returns-clause-ok : goal.returns-clause-ok
returns-clause-ok c =
    let a = c.self.inside in
    let r = c.requires.0 in
    let limit = rw (← c.self.view_is) at r in
    let past = moments a.marks.items (reverse a.changes.items) a.words.items in
    let all_moments = sym (take_all c.args.larger past (rw length-moments (omega arith))) in
    let all_counts = sym (take_all c.args.larger (map count_of a.marks.items) (rw length-map (omega arith))) in
    rw (← c.self.view_is, c.in_ok-resize.ensures.ok, c.in_ok-resize-2.ensures.ok)
    (ap (λ p. deltas (seen a.words.items c.args.larger a.cells p) (map count_of a.marks.items)) all_moments
    ∙ ap (λ n. deltas (seen a.words.items c.args.larger a.cells (take c.args.larger past)) n) all_counts)
