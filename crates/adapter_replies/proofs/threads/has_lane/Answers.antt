use Rattle.std.proofs.Common.{◌∙◌, sym, subst, ap, IfSome}
use Rattle.gang_types.specs.Lanes.{has}
use Rattle.gang_types.specs.Masks.{IsGangWidth}
use Rattle.gang_types.specs.MaskLaws.{has-lanes_of_word_past}
use Rattle.debug_texts.proofs.LaneDigits.{in_widest}
use Rattle.adapter_replies.specs.Waiting.{position_lanes}
use Rattle.adapter_replies.proofs.ActiveLanes.{is_past}
use Rattle.adapter_replies.proofs.threads.has_lane.Goals as goal

pub returns-then-lane-at : goal.returns-then-lane-at
returns-then-lane-at c =
    let at = c.in-Some.at in
    let lane = c.args.lane in
    let gang : IsGangWidth at.width = subst (λ p. IfSome p (λ at. IsGangWidth at.width)) c.in-Some.is c.requires in
    c.has.ensures ∙ in_widest at.width at.lanes lane gang c.if-lane-at.true ∙ ap (λ p. has (position_lanes p) lane) (sym c.in-Some.is)

pub returns-else-lane-at : goal.returns-else-lane-at
returns-else-lane-at c =
    let at = c.in-Some.at in
    let lane = c.args.lane in
    is_past lane at.width c.if-lane-at.false ∙ sym (has-lanes_of_word_past at.width at.lanes.word lane c.if-lane-at.false) ∙ ap (λ p. has (position_lanes p) lane) (sym c.in-Some.is)
