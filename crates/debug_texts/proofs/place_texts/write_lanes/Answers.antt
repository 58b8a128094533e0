use Rattle.std.proofs.Common.{◌≡◌, ◌∷◌, [], ◌<◌, ◌∙◌, sym, subst, ap, length, take, drop, ◌+◌, arith}
use Rattle.std.proofs.lemmas.List.{take_all}
use Rattle.std.proofs.lemmas.Result.{err_from_is_err_and}
use Rattle.std.proofs.KnownBytes.{Appends-trans}
use Rattle.std.specs.Io.KnownBytes.{Appends}
use Rattle.gang_types.specs.Masks.{lanes_of}
use Rattle.gang_types.specs.MaskLaws.{length-lanes_of_word}
use Rattle.gang_model.specs.Texts.Text.{bits}
use Rattle.debug_texts.proofs.LaneDigits.{bits_more, bits_at, in_widest}
use Rattle.debug_traits.proofs.Writing.{Broke, writes_err}
use Rattle.debug_texts.proofs.Writing.{broke_early, broke_late}
use Rattle.debug_texts.proofs.place_texts.write_lanes.Goals as goal

pub returns-in_err-write_all : goal.returns-in_err-write_all
returns-in_err-write_all g c =
    let (y, is, _) = err_from_is_err_and c.from_residual.result c.from_residual.ensures.1 in
    let (wrote, works) = c.loop-lane.invariant in
    let written = g.O.AnswerWriter.written in
    let lanes = lanes_of c.args.width c.args.lanes in
    let lane = c.loop-lane.lane in
    let inside : lane < length lanes = omega (arith, c.loop-lane-test.true, length-lanes_of_word c.args.width c.args.lanes.word) in
    let digit = c.lane_digit.ensures ∙ ap (λ b. bits (b ∷ [])) (c.has.ensures ∙ in_widest c.args.width c.args.lanes lane c.requires.width c.loop-lane-test.true) in
    let broke = subst (λ t. Broke t (written c.loop-lane.writer) (written c.write_all.new.self) (g.O.AnswerWriter.has_failed c.write_all.new.self)) digit c.in_err-write_all.ensures in
    let late = broke_late _ _ _ _ _ _ wrote (broke_early _ (bits (drop (lane + 1) lanes)) _ _ _ broke) in
    writes_err _ _ _ _ c.from_residual.result y is
    (subst (λ t. Broke t (written c.args.writer.now) (written c.write_all.new.self) (g.O.AnswerWriter.has_failed c.write_all.new.self)) (sym (bits_at lanes lane inside)) late)

pub loop-lane-preserved : goal.loop-lane-preserved
loop-lane-preserved g c =
    let (wrote, works) = c.loop-lane.invariant in
    let written = g.O.AnswerWriter.written in
    let lanes = lanes_of c.args.width c.args.lanes in
    let lane = c.loop-lane.lane in
    let inside : lane < length lanes = omega (arith, c.loop-lane-test.true, length-lanes_of_word c.args.width c.args.lanes.word) in
    let digit = c.lane_digit.ensures ∙ ap (λ b. bits (b ∷ [])) (c.has.ensures ∙ in_widest c.args.width c.args.lanes lane c.requires.width c.loop-lane-test.true) in
    let one = subst (λ t. Appends (written c.loop-lane.writer) (written c.write_all.new.self) t) digit c.in_ok-write_all.ensures.0 in
    let both = Appends-trans _ _ _ _ _ wrote one in
    (subst (Appends (written c.args.writer.now) (written c.write_all.new.self)) (sym (bits_more lanes lane inside)) both, c.in_ok-write_all.ensures.1)

pub returns : goal.returns
returns g c =
    let (wrote, works) = c.loop-lane.invariant in
    let written = g.O.AnswerWriter.written in
    let lanes = lanes_of c.args.width c.args.lanes in
    let end : take c.loop-lane.lane lanes ≡ lanes = take_all c.loop-lane.lane lanes (omega (arith, length-lanes_of_word c.args.width c.args.lanes.word)) in
    (subst (λ l. Appends (written c.args.writer.now) (written c.loop-lane.writer) (bits l)) end wrote, works)
