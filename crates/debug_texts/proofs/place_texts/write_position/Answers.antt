use Rattle.std.proofs.Common.{◌∙◌, sym, subst, ap}
use Rattle.std.proofs.lemmas.Result.{err_from_is_err_and}
use Rattle.gang_types.specs.Masks.{lanes_of}
use Rattle.gang_model.specs.Texts.Text.{bits}
use Rattle.debug_traits.specs.Devices.{Writes}
use Rattle.debug_traits.specs.Machines.{position_text}
use Rattle.debug_texts.specs.Wording.{place_front}
use Rattle.debug_texts.proofs.Pieces.{place_parts}
use Rattle.debug_traits.proofs.Writing.{Broke, writes_err}
use Rattle.debug_texts.proofs.Writing.{broke_early, writes_rest}
use Rattle.debug_texts.proofs.place_texts.write_position.Goals as goal

pub returns-in_err-write_front-in-Some : goal.returns-in_err-write_front-in-Some
returns-in_err-write_front-in-Some g c =
    let (y, is, _) = err_from_is_err_and c.from_residual.result c.from_residual.ensures.1 in
    let written = g.O.AnswerWriter.written in
    let p = c.in-Some.position in
    let broke = broke_early (place_front p) (bits (lanes_of p.width p.lanes)) _ _ _ c.in_err-write_front-in-Some.ensures in
    let text = ap position_text c.in-Some.is ∙ place_parts p in
    writes_err _ _ _ _ c.from_residual.result y is
    (subst (λ t. Broke t (written c.args.writer.now) (written c.write_front.new.writer) (g.O.AnswerWriter.has_failed c.write_front.new.writer)) (sym text) broke)

pub returns-in_ok-write_front-in-Some : goal.returns-in_ok-write_front-in-Some
returns-in_ok-write_front-in-Some g c =
    let written = g.O.AnswerWriter.written in
    let p = c.in-Some.position in
    let whole = writes_rest (place_front p) _ _ _ _ _ c.write_lanes.result c.in_ok-write_front-in-Some.ensures.0 c.write_lanes.ensures in
    let text = ap position_text c.in-Some.is ∙ place_parts p in
    subst (λ t. Writes t (written c.args.writer.now) (written c.write_lanes.new.writer) (g.O.AnswerWriter.has_failed c.write_lanes.new.writer) c.write_lanes.result) (sym text) whole
