use Rattle.std.proofs.Common.{◌≡◌, ◌∙◌, sym, ap, subst, ℕ, ◌+◌, Bool, Some, None, [], is_some, arith}
use Rattle.gang_types.specs.Masks.{lanes_of}
use Rattle.gang_types.specs.MaskLaws.{length-lanes_of_word}
use Rattle.gang_model.specs.Running.Rounds.{Slots, slot_word}
use Rattle.foreach_lowering.specs.Grids as grids
use Rattle.foreach_lowering.specs.Views.{grid_view, slot_view, values_view}
use Rattle.foreach_lowering.specs.DomainViews.{domain_slot}
use Rattle.foreach_lowering.proofs.ByLanes.{AreBelow, AreWordsBelow, one_lane_more, no_lane_more, lanes_by_lane, one_word_more, no_word_more, words_by_lane}
use Rattle.foreach_lowering.proofs.DomainRounds.{domain_takes}
use Rattle.foreach_lowering.proofs.domain.Domain.next_round.Goals.{in-Some, in_default}
use Rattle.foreach_lowering.proofs.domain.Domain.next_round.Goals as goal

pub loop-lane-preserved : goal.loop-lane-preserved
loop-lane-preserved g c =
    let slot = domain_slot g.row.W c.args.self (grid_view c.in_ok-taken.taken.place) in
    let test : ℕ → Bool = λ k. is_some (domain_slot g.row.W c.args.self (grid_view c.in_ok-taken.taken.place) k) in
    let l = c.loop-lane in
    let n = c.loop-lane.lane in
    elim c.match-slot.branch [
      | in-Some w ↦
          let found : domain_slot g.row.W c.args.self (grid_view c.in_ok-taken.taken.place) c.loop-lane.lane ≡ Some (values_view w.in-Some.values) = sym c.slot.ensures ∙ ap slot_view w.in-Some.is in
          record {
            lanes = subst (λ lanes. AreBelow test (n + 1) (lanes_of g.row.W lanes)) (sym w.lanes-is)
                (one_lane_more (lanes_of g.row.W l.lanes) (lanes_of g.row.W w.with-lanes.result) test n (omega (arith, c.loop-lane-test.true, length-lanes_of_word g.row.W l.lanes.word))
                (ap is_some found) w.with-lanes.ensures l.invariant.lanes);
            first = one_word_more l.first c.match-slot.first 0 slot g.row.W n w.word.result c.loop-lane-test.true (w.word.ensures ∙ sym (ap (slot_word 0) found)) w.first-is l.invariant.first;
            second = one_word_more l.second c.match-slot.second 1 slot g.row.W n w.word-in-Some.result c.loop-lane-test.true (w.word-in-Some.ensures ∙ sym (ap (slot_word 1) found)) w.second-is l.invariant.second;
            third = one_word_more l.third c.match-slot.third 2 slot g.row.W n w.word-in-Some-2.result c.loop-lane-test.true (w.word-in-Some-2.ensures ∙ sym (ap (slot_word 2) found)) w.third-is l.invariant.third;
          }
      | in_default w ↦
          let none : domain_slot g.row.W c.args.self (grid_view c.in_ok-taken.taken.place) c.loop-lane.lane ≡ None = sym c.slot.ensures ∙ ap slot_view w.in_default.is in
          record {
            lanes = subst (λ lanes. AreBelow test (n + 1) (lanes_of g.row.W lanes)) (sym w.lanes-is) (no_lane_more (lanes_of g.row.W l.lanes) test n (ap is_some none) l.invariant.lanes);
            first = subst (AreWordsBelow 0 slot g.row.W (n + 1)) (sym w.first-is) (no_word_more l.first 0 slot g.row.W n none l.invariant.first);
            second = subst (AreWordsBelow 1 slot g.row.W (n + 1)) (sym w.second-is) (no_word_more l.second 1 slot g.row.W n none l.invariant.second);
            third = subst (AreWordsBelow 2 slot g.row.W (n + 1)) (sym w.third-is) (no_word_more l.third 2 slot g.row.W n none l.invariant.third);
          }
    ]

pub returns : goal.returns
returns g c =
    let left : grids.Grid = grid_view c.args.left in
    let taken : grids.Taken = record { place = grid_view c.in_ok-taken.taken.place; left = grid_view c.in_ok-taken.taken.left } in
    let takes = subst (λ all. (f : grids.Grid → Slots) → grids.TakesFirst f all (Some taken) (grids.to_come f all left)) c.grid.ensures c.in_ok-taken.ensures.first in (
      domain_takes c.args.self.order c.args.self.bounds g.row.W left taken takes (lanes_of g.row.W c.loop-lane.lanes) c.loop-lane.first c.loop-lane.second c.loop-lane.third
          (lanes_by_lane (lanes_of g.row.W c.loop-lane.lanes) (domain_slot g.row.W c.args.self (grid_view c.in_ok-taken.taken.place)) g.row.W (length-lanes_of_word g.row.W c.loop-lane.lanes.word)
          (λ k within. c.loop-lane.invariant.lanes.0 k (omega (arith, within, c.loop-lane-test.false))))
          (words_by_lane c.loop-lane.first (domain_slot g.row.W c.args.self (grid_view c.in_ok-taken.taken.place)) 0 g.row.W c.loop-lane.invariant.first.long
          (λ k within. c.loop-lane.invariant.first.below k (omega (arith, within, c.loop-lane-test.false))))
          (words_by_lane c.loop-lane.second (domain_slot g.row.W c.args.self (grid_view c.in_ok-taken.taken.place)) 1 g.row.W c.loop-lane.invariant.second.long
          (λ k within. c.loop-lane.invariant.second.below k (omega (arith, within, c.loop-lane-test.false))))
          (words_by_lane c.loop-lane.third (domain_slot g.row.W c.args.self (grid_view c.in_ok-taken.taken.place)) 2 g.row.W c.loop-lane.invariant.third.long
          (λ k within. c.loop-lane.invariant.third.below k (omega (arith, within, c.loop-lane-test.false)))),
      (takes (λ place. [])).1,
    )
