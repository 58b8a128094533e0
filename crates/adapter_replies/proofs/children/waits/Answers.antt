use Rattle.std.proofs.Common.{◌≡◌, ◌∙◌, sym, ap, true, length, nat_lt}
use Rattle.std.specs.Prelude.{not, ◌&&◌}
use Rattle.gang_types.specs.Lanes.{has}
use Rattle.gang_types.specs.Masks.{lanes_of}
use Rattle.gang_types.specs.MaskLaws.{length-lanes_of_word}
use Rattle.debug_texts.proofs.LaneDigits.{in_widest}
use Rattle.adapter_replies.proofs.ActiveLanes.{is_below}
use Rattle.adapter_replies.proofs.children.waits.Goals as goal

pub returns : goal.returns
returns c gang inside =
    let given = c.args.lanes.now in
    let lane = c.args.lane in
    let lanes = lanes_of given.width given.lanes in
    let there : nat_lt lane (length lanes) ≡ true = ap (nat_lt lane) (length-lanes_of_word given.width given.lanes.word) ∙ is_below lane given.width inside in
    ap not (c.has.ensures ∙ in_widest given.width given.lanes lane gang inside) ∙ ap (λ b. b && not (has lanes lane)) (sym there)
