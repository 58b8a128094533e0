use Rattle.std.proofs.Common.{◌≡◌, ◌∙◌, ◌<◌, ℕ, true, false, inl, inr, length, sym, ap, arith}
use Rattle.std.proofs.lemmas.Bool.{cases_lt}
use Rattle.gang_types.specs.LaneLaws.{lowest_is}
use Rattle.gang_types.specs.Lanes.{has}
use Rattle.gang_types.specs.MaskLaws.{length-lanes_of_word}
use Rattle.gang_types.specs.Masks.{lanes_of}
use Rattle.debug_texts.proofs.LaneDigits.{in_widest}
use Rattle.adapter_replies.proofs.LowestLane.{lowest_none}
use Rattle.adapter_replies.proofs.threads.lowest_of.Goals as goal

pub returns-then-has : goal.returns-then-has
returns-then-has c =
    let at = c.args.position in
    let lane = c.loop-lane.lane in
    let here : has (lanes_of at.width at.lanes) lane ≡ true = sym (c.has.ensures ∙ in_widest at.width at.lanes lane c.requires c.loop-lane-test.true) ∙ c.if-has.true in
    sym (lowest_is (lanes_of at.width at.lanes) lane here c.loop-lane.invariant)

pub loop-lane-preserved : goal.loop-lane-preserved
loop-lane-preserved c k less =
    let at = c.args.position in
    let lane = c.loop-lane.lane in
    let here : has (lanes_of at.width at.lanes) lane ≡ false = sym (c.has.ensures ∙ in_widest at.width at.lanes lane c.requires c.loop-lane-test.true) ∙ c.if-has.false in
    elim (cases_lt k lane) [
      | inl below ↦ c.loop-lane.invariant k below
      | inr past ↦ let same : k ≡ lane = omega (arith, less, past) in ap (has (lanes_of at.width at.lanes)) same ∙ here
    ]

pub returns : goal.returns
returns c =
    let at = c.args.position in
    let lanes = lanes_of at.width at.lanes in
    let count : length lanes ≡ at.width = length-lanes_of_word at.width at.lanes.word in
    let none : (k : ℕ) → k < length lanes → has lanes k ≡ false = λ k less. c.loop-lane.invariant k (omega (arith, less, count, c.loop-lane-test.false)) in
    sym (lowest_none lanes none ∙ count)
