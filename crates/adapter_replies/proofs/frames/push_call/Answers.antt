use Rattle.std.proofs.Common.{◌∷◌, [], ◌++◌, ◌∙◌, sym, ap, map, append-nil}
use Rattle.std.proofs.lemmas.List.{map-append}
use Rattle.gang_model.specs.Debugger.Debugger.{now}
use Rattle.adapter_replies.specs.Frames.{frame_view}
use Rattle.adapter_replies.proofs.CallFrames.{call_given, call_missing}
use Rattle.adapter_replies.proofs.frames.push_call.Goals as goal

pub returns-in_ok-push-in-Some : goal.returns-in_ok-push-in-Some
returns-in_ok-push-in-Some g c s d st =
    let old = map frame_view c.args.frames.now.items in
    let given = c.in_ok-frame-in-Some.field-0 in
    ap (map frame_view) c.in_ok-push-in-Some.ensures.items
    ∙ map-append frame_view c.args.frames.now.items (given ∷ [])
    ∙ ap (λ told. old ++ told ∷ []) c.in_ok-frame-in-Some.ensures
    ∙ ap (λ told. old ++ told) (sym (call_given s.program c.args.depth (now s d).frames c.in-Some.call (c.in-Some.ensures.place s d st)))

pub returns-in-None : goal.returns-in-None
returns-in-None g c s d st =
    let old = map frame_view c.args.frames.now.items in
    sym (append-nil old) ∙ ap (λ told. old ++ told) (sym (call_missing s.program c.args.depth (now s d).frames (c.in-None.ensures.place s d st)))
