use Rattle.std.proofs.Common.{◌≡◌, ◌∷◌, [], ◌++◌, ◌<◌, ◌∙◌, sym, ap, length, take, string_bytes, append_assoc, arith}
use Rattle.std.proofs.lemmas.List.{take_all}
use Rattle.gang_types.specs.Lanes.{has}
use Rattle.gang_types.specs.Masks.{lanes_of}
use Rattle.gang_types.specs.MaskLaws.{length-lanes_of_word}
use Rattle.gang_model.specs.Texts.Text.{bits}
use Rattle.debug_texts.proofs.LaneDigits.{bits_more, in_widest}
use Rattle.adapter_replies.proofs.frames.push_lanes.Goals as goal

pub loop-lane-preserved : goal.loop-lane-preserved
loop-lane-preserved c =
    let lanes = lanes_of c.args.width c.args.lanes in
    let lane = c.loop-lane.lane in
    let old = string_bytes c.args.text.now in
    let inside : lane < length lanes = omega (arith, c.loop-lane-test.true, length-lanes_of_word c.args.width c.args.lanes.word) in
    let digit = c.lane_digit.ensures ∙ ap (λ b. bits (b ∷ [])) (c.has.ensures ∙ in_widest c.args.width c.args.lanes lane c.requires c.loop-lane-test.true) in
    c.in_ok-push_str.ensures.bytes
    ∙ ap (λ t. string_bytes c.loop-lane.text ++ t) digit
    ∙ ap (λ t. t ++ bits (has lanes lane ∷ [])) c.loop-lane.invariant
    ∙ append_assoc old (bits (take lane lanes)) (bits (has lanes lane ∷ []))
    ∙ ap (λ t. old ++ t) (sym (bits_more lanes lane inside))

pub returns : goal.returns
returns c =
    let lanes = lanes_of c.args.width c.args.lanes in
    let end : take c.loop-lane.lane lanes ≡ lanes = take_all c.loop-lane.lane lanes (omega (arith, length-lanes_of_word c.args.width c.args.lanes.word)) in
    c.loop-lane.invariant ∙ ap (λ l. string_bytes c.args.text.now ++ bits l) end
