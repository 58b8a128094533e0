use Rattle.std.proofs.Common.{◌≡◌, ◌<◌, ◌∙◌, sym, ap, true, false, codes, if◌then◌else◌, inl, inr, arith}
use Rattle.std.proofs.lemmas.Bool.{cases_lt}
use Rattle.std.proofs.lemmas.Result.{IfOk-weaker}
use Rattle.gang_types.specs.Lanes.{has, lowest}
use Rattle.gang_types.specs.Masks.{lanes_of}
use Rattle.gang_types.specs.MaskLaws.{gang_width-le, length-lanes_of_word}
use Rattle.debug_texts.proofs.LaneDigits.{in_widest}
use Rattle.adapter_replies.specs.Expressions.{lane_text}
use Rattle.adapter_replies.proofs.LaneValues.{lowest_at, none_in}
use Rattle.adapter_replies.proofs.expressions.one_text.Goals as goal

pub returns-then-has : goal.returns-then-has
returns-then-has c gang =
    let given = c.args.lanes.now in
    let lanes = lanes_of given.width given.lanes in
    let lane = c.loop-lane.lane in
    let inside : lane < given.width = omega (arith, c.loop-lane-test.true, c.min-lane-end.ensures) in
    let active : has lanes lane ≡ true = sym (in_widest given.width given.lanes lane gang inside) ∙ sym c.has.ensures ∙ c.if-has.true in
    let (some, is) = lowest_at lanes lane active (c.loop-lane.invariant gang) in
    let value = lane_text c.args.form c.args.value_type lanes given.words in
    IfOk-weaker c.lane_text.result _ _ (λ text said. said ∙ ap value (sym is) ∙ ap (λ b. if b then codes "." else value (lowest lanes)) (sym some)) (c.lane_text.ensures gang inside)

pub loop-lane-preserved : goal.loop-lane-preserved
loop-lane-preserved c gang k less =
    let given = c.args.lanes.now in
    let lane = c.loop-lane.lane in
    let lanes = lanes_of given.width given.lanes in
    let inside : lane < given.width = omega (arith, c.loop-lane-test.true, c.min-lane-end.ensures) in
    let waits : has lanes lane ≡ false = sym (in_widest given.width given.lanes lane gang inside) ∙ sym c.has.ensures ∙ c.if-has.false in
    elim (cases_lt k lane) [
      | inl below ↦ c.loop-lane.invariant gang k below
      | inr past ↦ let same : k ≡ lane = omega (arith, past, less) in ap (has lanes) same ∙ waits
    ]

pub returns : goal.returns
returns c gang =
    let given = c.args.lanes.now in
    let lanes = lanes_of given.width given.lanes in
    let wide = gang_width-le given.width gang in
    let all = length-lanes_of_word given.width given.lanes.word in
    let none = none_in lanes (λ k less. c.loop-lane.invariant gang k (omega (arith, less, all, wide, c.loop-lane-test.false, c.min-lane-end.ensures))) in
    let value = lane_text c.args.form c.args.value_type lanes given.words in
    IfOk-weaker c.from_str.result _ _ (λ text said. said ∙ ap (λ b. if b then codes "." else value (lowest lanes)) (sym none)) c.from_str.ensures.ok
