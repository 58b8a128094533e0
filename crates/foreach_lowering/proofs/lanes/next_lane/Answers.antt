use Rattle.std.proofs.Common.{◌≡◌, ◌∙◌, sym, ap, subst, replicate, slice_set, false, true, []}
use Rattle.gang_model.specs.Types.Tree.{EachLane}
use Rattle.gang_types.specs.Lanes.{lowest, without}
use Rattle.gang_types.specs.Masks.{lanes_of}
use Rattle.gang_types.specs.MaskLaws.{length-lanes_of_word}
use Rattle.foreach_lowering.specs.Kept.{Takes, lane_turn, kept_lanes}
use Rattle.foreach_lowering.proofs.NextLanes.{no_lane_left, lane_next}
use Rattle.foreach_lowering.proofs.lanes.next_lane.Goals as goal

pub returns-then-is_empty : goal.returns-then-is_empty
returns-then-is_empty g c = λ i. no_lane_left i g.row.W (lanes_of g.row.W c.args.lanes) (sym c.is_empty.ensures ∙ c.if-is_empty.true)

pub returns : goal.returns
returns g c =
    let some = sym c.is_empty.ensures ∙ c.if-is_empty.false in
    let rest : lanes_of g.row.W c.without.result ≡ without (lanes_of g.row.W c.args.lanes) (slice_set (replicate g.row.W false) (lowest (lanes_of g.row.W c.args.lanes)) true) =
    c.without.ensures g.row.W ∙ ap (without (lanes_of g.row.W c.args.lanes)) (c.only.ensures ∙ ap (λ k. slice_set (replicate g.row.W false) k true) c.lowest-lowest.ensures.value) in (
      λ i. subst (λ k. Takes (EachLane i) g.row.W (kept_lanes (lanes_of g.row.W c.args.lanes) []) (lane_turn i g.row.W k) (kept_lanes (lanes_of g.row.W c.without.result) [])) (sym c.lowest-lowest.ensures.value)
          (lane_next i g.row.W (lanes_of g.row.W c.args.lanes) (lanes_of g.row.W c.without.result) (length-lanes_of_word g.row.W c.args.lanes.word) some rest),
      c.lowest-lowest.ensures.within,
    )
