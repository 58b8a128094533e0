use Rattle.std.proofs.Common.{◌≡◌, ◌<◌, ◌++◌, ◌∷◌, [], ap, sym, ◌∙◌, length, map, take, arith}
use Rattle.std.specs.List.{range_with_len}
use Rattle.std.proofs.lemmas.List.FromFn.{map-range_with_len_more}
use Rattle.gang_types.specs.Masks.{lanes_of}
use Rattle.gang_types.specs.MaskLaws.{gang_width-le, length-lanes_of_word}
use Rattle.expression_watches.specs.LaneSights.{lane_word}
use Rattle.expression_watches.proofs.LaneLists.{word_within}
use Rattle.expression_watches.proofs.lanes.lane_words.Goals as goal

pub loop-lane-preserved : goal.loop-lane-preserved
loop-lane-preserved c = record {
  long = omega (arith, c.push.ensures.len, c.loop-lane.invariant.long);
  words = λ gang.
      let found = c.args.found.now in
      let f = lane_word (lanes_of found.width found.lanes) (take found.width found.words) in
      let k = c.loop-lane.lane in
      let below : k < found.width = omega (arith, c.loop-lane-test.true, c.min-lane-end.ensures) in
      c.push.ensures.items ∙ ap (λ xs. xs ++ c.lane_word.result ∷ []) (c.loop-lane.invariant.words gang)
      ∙ ap (λ x. map f (range_with_len 0 k) ++ x ∷ []) (c.lane_word.ensures ∙ word_within found.width k found.lanes.word found.words (gang_width-le found.width gang) below)
      ∙ sym (map-range_with_len_more f 0 k k (omega arith));
}

pub returns : goal.returns
returns c gang =
    let found = c.args.found.now in
    let f = lane_word (lanes_of found.width found.lanes) (take found.width found.words) in
    let within = gang_width-le found.width gang in
    let all : c.loop-lane.lane ≡ length (lanes_of found.width found.lanes) =
    omega (arith, c.loop-lane-test.false, c.loop-lane.auto.lane-end, c.min-lane-end.ensures, within, length-lanes_of_word found.width found.lanes.word) in
    c.loop-lane.invariant.words gang ∙ ap (λ n. map f (range_with_len 0 n)) all
