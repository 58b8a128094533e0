use Rattle.std.proofs.Common.{rules, ◌<◌, ◌^◌, ℕ, slice_index, ◌∙◌}
use Rattle.std.specs.Prelude.{int_lt}
use Rattle.gang_types.specs.Masks.{lanes_of}
use Rattle.gang_types.specs.MaskLaws.{length-lanes_of_word}
use Rattle.cross_lane.specs.declared.folds.Fold.TheVariants.{Max}
use Rattle.cross_lane.proofs.Joined.{extreme, greatest_picks}
use Rattle.cross_lane.proofs.reductions.reduce_max.Goals as goal

pub returns : goal.returns
returns g c =
    let fits : (k : ℕ) → slice_index c.args.words k < 2 ^ 64 = λ k. search rules in
    c.folded_by_value.ensures
    ∙ extreme Max (λ a b. int_lt b a) c.args.ty (greatest_picks c.args.ty) g.row.W (lanes_of g.row.W c.args.mask) (slice_index c.args.words)
    (length-lanes_of_word g.row.W c.args.mask.word) c.requires.lane fits
