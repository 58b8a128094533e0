use Rattle.std.proofs.Common.{◌≡◌, ◌∙◌, sym, ap, true, false, [], ◌∷◌, codes, if◌then◌else◌}
use Rattle.std.specs.Prelude.{slice_index}
use Rattle.std.proofs.lemmas.Result.{IfOk-weaker}
use Rattle.gang_types.specs.Lanes.{has}
use Rattle.gang_types.specs.Masks.{lanes_of}
use Rattle.debug_texts.proofs.LaneDigits.{in_widest}
use Rattle.adapter_replies.specs.Variables.{values}
use Rattle.adapter_replies.proofs.expressions.lane_text.Goals as goal

pub returns-then-has : goal.returns-then-has
returns-then-has c gang inside =
    let given = c.args.lanes.now in
    let lane = c.args.lane in
    let active : has (lanes_of given.width given.lanes) lane ≡ true = sym (in_widest given.width given.lanes lane gang inside) ∙ sym c.has.ensures ∙ c.if-has.true in
    IfOk-weaker c.word_text.result _ _ (λ text said. said ∙ ap (λ b. if b then values c.args.form c.args.value_type (slice_index given.words lane ∷ []) else codes ".") (sym active)) c.word_text.ensures

pub returns-else-has : goal.returns-else-has
returns-else-has c gang inside =
    let given = c.args.lanes.now in
    let lane = c.args.lane in
    let waits : has (lanes_of given.width given.lanes) lane ≡ false = sym (in_widest given.width given.lanes lane gang inside) ∙ sym c.has.ensures ∙ c.if-has.false in
    IfOk-weaker c.from_str.result _ _ (λ text said. said ∙ ap (λ b. if b then values c.args.form c.args.value_type (slice_index given.words lane ∷ []) else codes ".") (sym waits)) c.from_str.ensures.ok
