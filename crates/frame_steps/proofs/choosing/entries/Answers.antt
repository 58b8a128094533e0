use Rattle.std.proofs.Common.{◌≡◌, ◌<◌, ◌≢◌, length, arith, length-set, get_or-set_other, get_or-set_same, below_more}
use Rattle.frame_steps.proofs.choosing.entries.Goals as goal

pub loop-lane-preserved : goal.loop-lane-preserved
loop-lane-preserved g c =
    let long : length c.loop-lane.targets ≡ g.row.W = c.loop-lane.invariant.0 in
    let lt : c.loop-lane.lane < length c.loop-lane.targets = omega arith in (
      omega (arith, length-set c.loop-lane.targets c.loop-lane.lane c.entry.result),
      λ labelled entries are.
          below_more _ _
          (λ k h. let ne : k ≢ c.loop-lane.lane = omega arith in rw get_or-set_other (c.loop-lane.invariant.1 labelled entries are k h))
          (rw get_or-set_same (c.entry.ensures labelled entries are)),
    )
