use Rattle.std.proofs.Common.{◌+◌, arith, ◌∙◌, sym, subst, List, ℕ}
use Rattle.gang_types.specs.Masks.{lanes_of}
use Rattle.gang_types.specs.MaskLaws.{length-lanes_of_word}
use Rattle.cross_lane.proofs.Members.{PackedTo, one_more, no_more, packed_all}
use Rattle.cross_lane.proofs.packed.packed_places.Goals.{then-has, else-has}
use Rattle.cross_lane.proofs.packed.packed_places.Goals as goal

pub loop-lane-preserved : goal.loop-lane-preserved
loop-lane-preserved g c =
    elim c.if-has.branch [
      | then-has w ↦
          subst (λ (n : ℕ). PackedTo g.row.W (lanes_of g.row.W c.args.mask) (c.loop-lane.lane + 1) n c.if-has.places) (sym w.number-is)
          (subst (λ (xs : List ℕ). PackedTo g.row.W (lanes_of g.row.W c.args.mask) (c.loop-lane.lane + 1) (c.loop-lane.number + 1) xs) (sym w.places-is)
          (one_more g.row.W (lanes_of g.row.W c.args.mask) c.loop-lane.lane c.loop-lane.number c.loop-lane.places (length-lanes_of_word g.row.W c.args.mask.word) c.loop-lane-test.true (sym c.has.ensures ∙ w.if-has.true) c.loop-lane.invariant))
      | else-has w ↦
          subst (λ (n : ℕ). PackedTo g.row.W (lanes_of g.row.W c.args.mask) (c.loop-lane.lane + 1) n c.if-has.places) (sym w.number-is)
          (subst (λ (xs : List ℕ). PackedTo g.row.W (lanes_of g.row.W c.args.mask) (c.loop-lane.lane + 1) c.loop-lane.number xs) (sym w.places-is)
          (no_more g.row.W (lanes_of g.row.W c.args.mask) c.loop-lane.lane c.loop-lane.number c.loop-lane.places (length-lanes_of_word g.row.W c.args.mask.word) c.loop-lane-test.true (sym c.has.ensures ∙ w.if-has.false) c.loop-lane.invariant))
    ]

pub returns-clause-places : goal.returns-clause-places
returns-clause-places g c =
    let whole = packed_all g.row.W (lanes_of g.row.W c.args.mask) c.loop-lane.lane c.loop-lane.number c.loop-lane.places (length-lanes_of_word g.row.W c.args.mask.word) (omega (arith, c.loop-lane-test.false, c.loop-lane.auto.lane-end)) c.loop-lane.invariant in
    whole.0

pub returns-clause-number : goal.returns-clause-number
returns-clause-number g c =
    let whole = packed_all g.row.W (lanes_of g.row.W c.args.mask) c.loop-lane.lane c.loop-lane.number c.loop-lane.places (length-lanes_of_word g.row.W c.args.mask.word) (omega (arith, c.loop-lane-test.false, c.loop-lane.auto.lane-end)) c.loop-lane.invariant in
    whole.1
