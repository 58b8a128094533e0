use Rattle.std.proofs.Common.{◌≡◌, ◌≤◌, ◌+◌, length, arith, slice_index, ◌∙◌, ap}
use Rattle.std.specs.Prelude.{pos, ◌+ℤ◌}
use Rattle.gang_types.specs.declared.types.IntType.TheVariants.{Int32}
use Rattle.gang_types.specs.Values.{value_of}
use Rattle.gang_types.specs.Masks.{lanes_of}
use Rattle.gang_types.specs.MaskLaws.{gang_width-le, length-lanes_of_word}
use Rattle.gang_model.specs.Running.Library.{value_at}
use Rattle.cross_lane.specs.Calls.{values_in}
use Rattle.cross_lane.specs.Folds.{windowed}
use Rattle.cross_lane.specs.EachLaws.{each_same, length-each}
use Rattle.cross_lane.proofs.Moves.{shifted_lane}
use Rattle.cross_lane.proofs.shuffles.shift.Goals as goal

pub returns : goal.returns
returns g c =
    let few : g.row.W ≤ 16 = gang_width-le g.row.W c.requires.width in
    let long : length (lanes_of g.row.W c.args.mask) ≡ g.row.W = length-lanes_of_word g.row.W c.args.mask.word in
    let values : length (values_in (lanes_of g.row.W c.args.mask) c.args.words) ≡ g.row.W = length-each (lanes_of g.row.W c.args.mask) (slice_index c.args.words) ∙ long in
    c.active_words.ensures
    ∙ each_same g.row.W (lanes_of g.row.W c.args.mask) (slice_index c.window.result)
    (λ k. value_at (values_in (lanes_of g.row.W c.args.mask) c.args.words) (pos k +ℤ value_of Int32 c.args.by)) long
    (λ i h e.
    c.window.ensures i h
    ∙ ap (λ xs. windowed 0 xs (i + c.min-from.result)) c.active_words-values.ensures
    ∙ ap (λ from. windowed 0 (values_in (lanes_of g.row.W c.args.mask) c.args.words) (i + from)) c.min-from.ensures
    ∙ shifted_lane (values_in (lanes_of g.row.W c.args.mask) c.args.words) c.args.by i c.ranges.by.fits (omega arith) (omega arith))
