use Rattle.std.proofs.Common.{◌≡◌, ◌+◌, ◌%◌, length, arith, slice_index, ◌∙◌, sym, ap}
use Rattle.std.specs.Prelude.{pos, ◌+ℤ◌}
use Rattle.std.proofs.Math.Nat.{add-mod-mod}
use Rattle.gang_types.specs.declared.types.IntType.TheVariants.{Int32}
use Rattle.gang_types.specs.Values.{value_of, residue}
use Rattle.gang_types.specs.Masks.{lanes_of}
use Rattle.gang_types.specs.MaskLaws.{length-lanes_of_word}
use Rattle.gang_model.specs.Running.Library.{turned}
use Rattle.cross_lane.specs.Calls.{values_in}
use Rattle.cross_lane.specs.EachLaws.{each_same}
use Rattle.cross_lane.proofs.Moves.{turned_lane}
use Rattle.cross_lane.proofs.shuffles.rotate.Goals as goal

pub returns : goal.returns
returns g c =
    let long : length (lanes_of g.row.W c.args.mask) ≡ g.row.W = length-lanes_of_word g.row.W c.args.mask.word in
    c.active_words.ensures
    ∙ each_same g.row.W (lanes_of g.row.W c.args.mask) (slice_index c.turned.result)
    (λ k. slice_index (values_in (lanes_of g.row.W c.args.mask) c.args.words) (turned (lanes_of g.row.W c.args.mask) (value_of Int32 c.args.by) k)) long
    (λ i h e.
    c.turned.ensures i h
    ∙ ap (λ xs. slice_index xs ((i + c.args.by % g.row.W) % g.row.W)) c.active_words-values.ensures
    ∙ ap (slice_index (values_in (lanes_of g.row.W c.args.mask) c.args.words))
    (add-mod-mod i c.args.by g.row.W
    ∙ sym (turned_lane g.row.W c.args.by i c.requires.width c.ranges.by.fits (omega arith))
    ∙ ap (λ w. residue w (pos i +ℤ value_of Int32 c.args.by)) (sym long)))
