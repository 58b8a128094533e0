use Rattle.std.proofs.Common.{◌≡◌, ◌∙◌, sym, subst, ap, true, false, length, nat_lt, IfSome}
use Rattle.std.specs.Prelude.{not, ◌&&◌}
use Rattle.gang_types.specs.Lanes.{has}
use Rattle.gang_types.specs.Masks.{IsGangWidth, lanes_of}
use Rattle.gang_types.specs.MaskLaws.{length-lanes_of_word}
use Rattle.debug_texts.proofs.LaneDigits.{in_widest}
use Rattle.adapter_replies.specs.Waiting.{position_lanes, waits}
use Rattle.adapter_replies.proofs.ActiveLanes.{is_below, is_past}
use Rattle.adapter_replies.proofs.waiting.waits.Goals as goal

pub returns-then-lane-at : goal.returns-then-lane-at
returns-then-lane-at c =
    let at = c.in-Some.at in
    let lane = c.args.lane in
    let lanes = lanes_of at.width at.lanes in
    let gang : IsGangWidth at.width = subst (λ p. IfSome p (λ at. IsGangWidth at.width)) c.in-Some.is c.requires in
    let inside : nat_lt lane (length lanes) ≡ true = ap (nat_lt lane) (length-lanes_of_word at.width at.lanes.word) ∙ is_below lane at.width c.if-lane-at.true in
    let here = c.has.ensures ∙ in_widest at.width at.lanes lane gang c.if-lane-at.true in
    ap not here
    ∙ ap (λ b. b && not (has lanes lane)) (sym inside)
    ∙ ap (λ p. waits (position_lanes p) lane) (sym c.in-Some.is)

pub returns-else-lane-at : goal.returns-else-lane-at
returns-else-lane-at c =
    let at = c.in-Some.at in
    let lane = c.args.lane in
    let lanes = lanes_of at.width at.lanes in
    let past : nat_lt lane (length lanes) ≡ false = ap (nat_lt lane) (length-lanes_of_word at.width at.lanes.word) ∙ is_past lane at.width c.if-lane-at.false in
    is_past lane at.width c.if-lane-at.false
    ∙ ap (λ b. b && not (has lanes lane)) (sym past)
    ∙ ap (λ p. waits (position_lanes p) lane) (sym c.in-Some.is)
