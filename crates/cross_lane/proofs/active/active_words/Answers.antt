use Rattle.std.proofs.Common.{◌≡◌, ◌∙◌, ◌-◌, ◌^◌, ◌≤◌, sym, length, arith, slice_index}
use Rattle.std.proofs.Math.Nat.{pow-le-pow_right}
use Rattle.gang_types.specs.Masks.{lanes_of}
use Rattle.gang_types.specs.MaskLaws.{gang_width-le, length-lanes_of_word}
use Rattle.cross_lane.specs.EachLaws.{each_is}
use Rattle.cross_lane.proofs.FullMasks.{every_word}
use Rattle.cross_lane.proofs.active.active_words.Goals as goal

pub returns : goal.returns
returns g c =
    let long : length c.filled_outside.result ≡ g.row.W = omega arith in
    each_is g.row.W (lanes_of g.row.W c.args.mask) (slice_index c.args.words) c.filled_outside.result (length-lanes_of_word g.row.W c.args.mask.word) long c.filled_outside.ensures

pub returns-then-word : goal.returns-then-word
returns-then-word g c =
    let few : 2 ^ g.row.W ≤ 2 ^ 16 = pow-le-pow_right {n = 2} (omega arith) (gang_width-le g.row.W c.requires) in
    let full : c.word.result ≡ 2 ^ g.row.W - 1 = omega (arith, c.if-word.true, few) in
    every_word g.row.W (lanes_of g.row.W c.args.mask) c.args.words (length-lanes_of_word g.row.W c.args.mask.word) (omega arith) (sym c.word.ensures ∙ full)
