use Rattle.std.proofs.Common.{sym, ◌∙◌, ap, length}
use Rattle.std.specs.Prelude.{replicate}
use Rattle.gang_types.specs.declared.types.IntType.TheVariants.{Int32}
use Rattle.gang_types.specs.Masks.{lanes_of}
use Rattle.gang_types.specs.Values.{converted}
use Rattle.gang_model.specs.Running.Lanes.{at, members}
use Rattle.gang_model.proofs.UniformValues.{at-each}
use Rattle.cross_lane.specs.EachLaws.{each_same}
use Rattle.gang_memory.proofs.Members.{count_members}
use Rattle.typed_tree.specs.Views.{result_view}
use Rattle.frame_steps.specs.Parts.{counts_of}
use Rattle.frame_steps.proofs.GivenResults.{given_alike}
use Rattle.frame_steps.proofs.SentSteps.{target_at}
use Rattle.frame_steps.proofs.Standings.{lanes_long}
use Rattle.frame_steps.proofs.packed.give_count.Goals as goal

pub returns : goal.returns
returns g c = λ f takes.
    let w = g.row.W in
    let lanes = lanes_of w c.args.active.lanes in
    let count = c.count-count.result in
    given_alike g.T.Timeline.history g.T.Timeline.left w c.args.active.frame f (result_view c.args.result_for) Int32 lanes (replicate w count) (counts_of lanes) c.args.words.now c.deliver_values.new.words
    (λ to. each_same w lanes (λ k. converted Int32 to (at (replicate w count) k)) (λ k. converted Int32 to (at (counts_of lanes) k)) (lanes_long w c.args.active.lanes)
    (λ k below there. ap (converted Int32 to) (target_at w count k below ∙ c.count-count.ensures.value ∙ count_members lanes ∙ sym (at-each lanes (λ j. length (members lanes)) k there))))
    (c.deliver_values.ensures f takes)
