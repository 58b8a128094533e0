use Rattle.std.proofs.Common.{◌≡◌, ◌+◌, ◌<◌, arith, sym, ◌≤◌, ◌∙◌, ap, subst, length}
use Rattle.gang_types.specs.Masks.{lanes_of}
use Rattle.gang_types.specs.MaskLaws.{length-lanes_of_word}
use Rattle.gang_memory.proofs.Scatters.{StoredTo, lane_stores, lane_passes, all_stored}
use Rattle.gang_memory.proofs.writing.set_words.Goals.{then-has, else-has}
use Rattle.gang_memory.proofs.writing.set_words.Goals as goal

pub loop-lane-preserved : goal.loop-lane-preserved
loop-lane-preserved g c =
    let lanes = lanes_of g.row.W c.args.mask in
    let wide = length-lanes_of_word g.row.W c.args.mask.word in
    let old = g.S.WordStore.words c.args.store.now in
    let now = g.S.WordStore.words c.loop-lane.store in
    let n = c.loop-lane.lane in
    let so_far = c.loop-lane.invariant.stored in
    let below : n < length lanes = omega (arith, wide, c.loop-lane-test.true) in
    let slots_wide : length c.args.slots ≡ length lanes = omega (arith, wide) in
    let values_wide : length c.args.values ≡ length lanes = omega (arith, wide) in
    elim c.if-has.branch [
      | then-has w ↦
          let here = sym c.has.ensures ∙ w.if-has.true in
          record {
            stored = subst (λ s. StoredTo lanes c.args.slots c.args.values (n + 1) old (g.S.WordStore.words s)) (sym w.store-is)
                (lane_stores lanes c.args.slots c.args.values n old now below slots_wide values_wide so_far (g.S.WordStore.words w.set.new.self) here
                (let inside = c.requires.within n here in omega (arith, inside, so_far.long)) w.set.ensures.words);
            left = subst (λ s. g.S.WordStore.left c.args.store.now ≤ g.S.WordStore.left s + (n + 1)) (sym w.store-is) (omega (arith, w.set.ensures.left, c.loop-lane.invariant.left));
            rest = ap g.S.WordStore.rest w.store-is ∙ w.set.ensures.rest ∙ c.loop-lane.invariant.rest;
          }
      | else-has w ↦
          record {
            stored = subst (λ s. StoredTo lanes c.args.slots c.args.values (n + 1) old (g.S.WordStore.words s)) (sym w.store-is)
                (lane_passes lanes c.args.slots c.args.values n old now below slots_wide values_wide so_far (sym c.has.ensures ∙ w.if-has.false));
            left = subst (λ s. g.S.WordStore.left c.args.store.now ≤ g.S.WordStore.left s + (n + 1)) (sym w.store-is) (omega (arith, c.loop-lane.invariant.left));
            rest = ap g.S.WordStore.rest w.store-is ∙ c.loop-lane.invariant.rest;
          }
    ]

pub returns-clause-words : goal.returns-clause-words
returns-clause-words g c =
    let wide = length-lanes_of_word g.row.W c.args.mask.word in
    all_stored g.row.W (lanes_of g.row.W c.args.mask) c.args.slots c.args.values c.loop-lane.lane (g.S.WordStore.words c.args.store.now) (g.S.WordStore.words c.loop-lane.store) wide
    (omega (arith, c.loop-lane-test.false, c.loop-lane.auto.lane-end)) c.loop-lane.invariant.stored
