use Rattle.std.proofs.Common.{◌≤◌, ◌∙◌, refl, ap, ap₂, add-one, arith}
use Rattle.std.specs.Prelude.{map}
use Rattle.gang_types.specs.Lanes.{no_lane}
use Rattle.gang_types.specs.Masks.{lanes_of}
use Rattle.gang_types.specs.MaskLaws.{gang_width-le, length-lanes_of_word}
use Rattle.mask_states.specs.Masked.{sent}
use Rattle.machine_states.specs.Regions.{FunctionOf, LanesOf, ReturnedOf, OpenOf, NumbersOf, Depth, OfHead, LevelOf, OfLevel}
use Rattle.machine_words.specs.Words.{left_of}
use Rattle.frame_steps.proofs.GangLanes.{some_of_all}
use Rattle.machine_steps.proofs.EnteredNumbers.{all_entered}
use Rattle.machine_steps.proofs.FrameHeads.{frame_begins}
use Rattle.machine_steps.proofs.WrittenRegions.{all_words, depth_long, head_long, only_word}
use Rattle.machine_steps.proofs.calls.begin_frame.Goals as goal

pub set-requires-clause-within : goal.set-requires-clause-within
set-requires-clause-within g c =
    let long = head_long g.T.Timeline.history g.row.W c.args.words.now c.requires.laid c.args.frame FunctionOf c.requires.there in omega (arith, long)

pub set-requires-2-clause-within : goal.set-requires-2-clause-within
set-requires-2-clause-within g c =
    let long = head_long g.T.Timeline.history g.row.W c.set.new.self c.set.ensures.laid c.args.frame LanesOf c.requires.there in omega (arith, long)

pub set-requires-3-clause-within : goal.set-requires-3-clause-within
set-requires-3-clause-within g c =
    let long = head_long g.T.Timeline.history g.row.W c.set-2.new.self c.set-2.ensures.laid c.args.frame ReturnedOf c.requires.there in omega (arith, long)

pub set-requires-4-clause-within : goal.set-requires-4-clause-within
set-requires-4-clause-within g c =
    let long = head_long g.T.Timeline.history g.row.W c.set-3.new.self c.set-3.ensures.laid c.args.frame OpenOf c.requires.there in omega (arith, long)

pub set_lanes-requires : goal.set_lanes-requires
set_lanes-requires g c =
    let history = g.T.Timeline.history in
    let w = g.row.W in
    let small = gang_width-le w c.requires.width in
    let few : w ≤ left_of history g.T.Timeline.left c.set-4.new.self = omega (arith, c.requires.left, c.set.ensures.few, c.set-2.ensures.few, c.set-3.ensures.few, c.set-4.ensures.few) in (
      omega (arith, small),
      (
        c.requires.width,
        (
          c.set-4.ensures.laid,
          (
            head_long history w c.set-4.new.self c.set-4.ensures.laid c.args.frame (LevelOf 0 NumbersOf) c.requires.there,
            (ap no_lane c.all.ensures ∙ some_of_all w c.requires.width, few),
          ),
        ),
      ),
    )

pub set-requires-5-clause-within : goal.set-requires-5-clause-within
set-requires-5-clause-within g c =
    let long = depth_long g.T.Timeline.history g.row.W c.set_lanes.new.self c.set_lanes.ensures.laid in omega (arith, long)

pub returns : goal.returns
returns g c f is =
    let history = g.T.Timeline.history in
    let left = g.T.Timeline.left in
    let w = g.row.W in
    let frame = c.args.frame in
    let lanes = lanes_of w c.args.lanes in
    let size = length-lanes_of_word w c.args.lanes.word in
    let numbers = c.loop-lane.numbers in
    let m0 = c.args.words.now in
    let m1 = c.set.new.self in
    let m2 = c.set-2.new.self in
    let m3 = c.set-3.new.self in
    let m4 = c.set-4.new.self in
    let m5 = c.set_lanes.new.self in
    let m6 = c.set-5.new.self in
    frame_begins history left w frame c.args.function c.word.result lanes numbers m0 m1 m2 m3 m4 m5 m6
    (only_word history left w (OfHead frame FunctionOf) m0 m1 c.args.function c.args.function (head_long history w m0 c.requires.laid frame FunctionOf c.requires.there) refl c.set.ensures)
    (only_word history left w (OfHead frame LanesOf) m1 m2 c.word.result c.word.result (head_long history w m1 c.set.ensures.laid frame LanesOf c.requires.there) refl c.set-2.ensures)
    (only_word history left w (OfHead frame ReturnedOf) m2 m3 0 0 (head_long history w m2 c.set-2.ensures.laid frame ReturnedOf c.requires.there) refl c.set-3.ensures)
    (only_word history left w (OfHead frame OpenOf) m3 m4 0 0 (head_long history w m3 c.set-3.ensures.laid frame OpenOf c.requires.there) refl c.set-4.ensures)
    (all_words history left w (OfLevel frame 0 NumbersOf) m4 m5 (lanes_of w c.all.result) numbers c.all.ensures c.loop-lane.invariant.long
    (head_long history w m4 c.set-4.ensures.laid frame (LevelOf 0 NumbersOf) c.requires.there) c.set_lanes.ensures)
    (only_word history left w Depth m5 m6 _ _ (depth_long history w m5 c.set_lanes.ensures.laid) (add-one frame) c.set-5.ensures)
    f (omega (arith, c.requires.there)) size c.word.ensures
    (all_entered lanes c.entry-entry.result c.closing-closing.result w c.loop-lane.lane numbers c.loop-lane.invariant c.loop-lane-test.false size
    ∙ ap₂ (λ entry closing. sent lanes (λ k. entry) (map (λ b. closing) lanes)) (c.entry-entry.ensures f is) (c.closing-closing.ensures f is))
