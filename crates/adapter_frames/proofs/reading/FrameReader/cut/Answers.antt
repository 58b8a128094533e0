use Rattle.std.proofs.Common.{◌≡◌, ◌-◌, length, take, drop, refl, ap, ◌∙◌, arith}
use Rattle.std.proofs.lemmas.List.{take_rest}
use Rattle.adapter_frames.specs.Reading.{kept}
use Rattle.adapter_frames.proofs.WholeHeads.{message_cut, message_pending}
use Rattle.adapter_frames.proofs.reading.FrameReader.cut.Goals as goal

pub returns-then-rest-head-clause-cut : goal.returns-then-rest-head-clause-cut
returns-then-rest-head-clause-cut g c =
    let start = c.args.head.start in
    let bytes = c.deref.result.now in
    let all : take (length bytes - start) (drop start bytes) ≡ drop start (kept c.args.self.now) = take_rest bytes start ∙ ap (drop start) c.deref.ensures.value in
    (refl, message_pending (kept c.args.self.now) start c.args.head.length c.requires (omega (arith, c.if-rest-head.true, ap length all)))

pub returns-clause-cut : goal.returns-clause-cut
returns-clause-cut g c =
    let start = c.args.head.start in
    let size = c.args.head.length in
    let bytes = c.deref.result.now in
    let all : take (length bytes - start) (drop start bytes) ≡ drop start (kept c.args.self.now) = take_rest bytes start ∙ ap (drop start) c.deref.ensures.value in
    message_cut (kept c.args.self.now) c.in_ok-message.message.items c.in_ok-kept.kept.items start size c.requires (omega (arith, c.if-rest-head.false, ap length all))
    (c.in_ok-message.ensures.items ∙ (c.split_at.ensures.front ∙ ap (take size) all)) (c.in_ok-kept.ensures.items ∙ (c.split_at.ensures.back ∙ ap (drop size) all))
