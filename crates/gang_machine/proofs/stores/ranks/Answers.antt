use Rattle.std.proofs.Common.{◌+◌, arith, ◌∙◌, sym, subst, List, ℕ}
use Rattle.gang_types.specs.Masks.{lanes_of}
use Rattle.gang_types.specs.MaskLaws.{length-lanes_of_word}
use Rattle.gang_memory.proofs.Members.{RanksTo, lane_ranked, lane_passed, all_ranked}
use Rattle.gang_machine.proofs.stores.ranks.Goals.{then-has, else-has}
use Rattle.gang_machine.proofs.stores.ranks.Goals as goal

pub loop-lane-preserved : goal.loop-lane-preserved
loop-lane-preserved g c =
    let w = g.row.W in
    let lanes = lanes_of w c.args.lanes in
    let n = c.loop-lane.lane in
    let long = length-lanes_of_word w c.args.lanes.word in
    elim c.if-has.branch [
      | then-has t ↦
          subst (λ (m : ℕ). RanksTo w lanes (n + 1) m c.if-has.ranks) (sym t.below-is)
          (subst (λ (xs : List ℕ). RanksTo w lanes (n + 1) (c.loop-lane.below + 1) xs) (sym t.ranks-is)
          (lane_ranked w lanes n c.loop-lane.below c.loop-lane.ranks long c.loop-lane-test.true c.loop-lane.invariant (sym c.has.ensures ∙ t.if-has.true)))
      | else-has t ↦
          subst (λ (m : ℕ). RanksTo w lanes (n + 1) m c.if-has.ranks) (sym t.below-is)
          (subst (λ (xs : List ℕ). RanksTo w lanes (n + 1) c.loop-lane.below xs) (sym t.ranks-is)
          (lane_passed w lanes n c.loop-lane.below c.loop-lane.ranks long c.loop-lane-test.true c.loop-lane.invariant (sym c.has.ensures ∙ t.if-has.false)))
    ]

pub returns : goal.returns
returns g c =
    all_ranked g.row.W (lanes_of g.row.W c.args.lanes) c.loop-lane.lane c.loop-lane.below c.loop-lane.ranks (length-lanes_of_word g.row.W c.args.lanes.word)
    (omega (arith, c.loop-lane-test.false, c.loop-lane.auto.lane-end)) c.loop-lane.invariant
