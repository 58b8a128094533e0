use Rattle.std.proofs.Common.{◌∷◌, [], ◌++◌, ◌-◌, ◌∙◌, sym, ap, map, append_assoc, arith}
use Rattle.gang_model.specs.Debugger.Debugger.{now}
use Rattle.adapter_replies.specs.Frames.{call_told, calls_told, frame_view}
use Rattle.adapter_replies.proofs.CallFrames.{calls_at, frames_given}
use Rattle.adapter_replies.proofs.frames.frames.Goals as goal

pub loop-depth-init : goal.loop-depth-init
loop-depth-init g c s d st =
    let at = c.in-Some.top in
    let frames = (now s d).frames in
    let first = ap (map frame_view) (c.in_ok-push.ensures.items ∙ ap (λ told. told ++ c.in_ok-frame.field-0 ∷ []) c.new-frames.ensures.items) ∙ ap (λ told. told ∷ []) c.in_ok-frame.ensures in
    frames_given s.program frames at (c.in-Some.ensures.place s d st) (c.in-Some.ensures.depth s d st)
    ∙ ap (λ told. told ++ calls_told s.program frames (at.depth - 1)) (sym first)

pub loop-depth-preserved : goal.loop-depth-preserved
loop-depth-preserved g c s d st =
    let old = map frame_view c.loop-depth.frames.items in
    let frames = (now s d).frames in
    let n = c.loop-depth.depth - 1 in
    c.loop-depth.invariant s d st
    ∙ ap (λ told. old ++ told) (calls_at s.program frames n (omega (arith, c.loop-depth-test.true)))
    ∙ sym (append_assoc old (call_told s.program n frames) (calls_told s.program frames (n - 1)))
    ∙ ap (λ told. told ++ calls_told s.program frames (n - 1)) (sym (c.in_ok-push_call.ensures s d st))
