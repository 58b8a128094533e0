use Rattle.std.proofs.Common.{◌-◌, subst}
use Rattle.std.proofs.lemmas.Result.{err_from_is_err_and}
use Rattle.gang_model.specs.Debugger.Debugger.{now}
use Rattle.debug_traits.specs.Devices.{Writes}
use Rattle.debug_texts.specs.Wording.{calls_text}
use Rattle.debug_texts.proofs.Frames.{frames_parts}
use Rattle.debug_texts.proofs.Writing.{breaks_first, writes_parts}
use Rattle.debug_texts.proofs.frame_texts.write_frames.Goals as goal

pub returns-in_err-write_place_line-clause-said : goal.returns-in_err-write_place_line-clause-said
returns-in_err-write_place_line-clause-said g c s d st =
    let (y, err, _) = err_from_is_err_and c.from_residual.result c.from_residual.ensures.1 in
    let at = c.position-position in
    breaks_first _ _ _ _ _ _ c.from_residual.result y err (frames_parts s.program (now s d).frames at.result (at.ensures.place s d st) (at.ensures.depth s d st)) c.in_err-write_place_line.ensures

pub returns-clause-said : goal.returns-clause-said
returns-clause-said g c s d st =
    let at = c.position-position in
    let frames = (now s d).frames in
    let rest = subst (λ n. Writes (calls_text s.program frames (n - 1)) (g.O.AnswerWriter.written c.write_place_line.new.writer) (g.O.AnswerWriter.written c.write_calls.new.writer) (g.O.AnswerWriter.has_failed c.write_calls.new.writer) c.write_calls.result) c.depth.ensures (c.write_calls.ensures.said s d st) in
    writes_parts _ _ _ _ _ _ _ c.write_calls.result (frames_parts s.program frames at.result (at.ensures.place s d st) (at.ensures.depth s d st)) c.in_ok-write_place_line.ensures.0 rest
