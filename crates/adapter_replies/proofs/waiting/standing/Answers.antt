use Rattle.std.proofs.Common.{◌≡◌, ◌∙◌, sym, ap, true, if◌then◌else◌}
use Rattle.std.specs.Prelude.{◌==◌}
use Rattle.gang_model.specs.Debugger.Positions.{lanes_now}
use Rattle.gang_model.specs.Debugger.Debugger.{depth, now}
use Rattle.adapter_replies.specs.Waiting.{called_lanes}
use Rattle.adapter_replies.proofs.ActiveLanes.{call_lanes_given, lanes_given, other_than}
use Rattle.adapter_replies.proofs.CallFrames.{same_number}
use Rattle.adapter_replies.proofs.waiting.standing.Goals as goal

pub returns-then-depth-depth_of-clause-lanes : goal.returns-then-depth-depth_of-clause-lanes
returns-then-depth-depth_of-clause-lanes g c s d st =
    let deep = c.args.depth in
    let state = now s d in
    let top : (deep == depth state) ≡ true = ap (λ n. n == depth state) (c.if-depth-depth_of.true ∙ c.depth_of.ensures s d st) ∙ same_number (depth state) in
    sym (lanes_given s.program state c.position.result (c.position.ensures.place s d st)) ∙ ap (λ b. if b then lanes_now state else called_lanes deep state.frames) (sym top)

pub returns-else-depth-depth_of-clause-lanes : goal.returns-else-depth-depth_of-clause-lanes
returns-else-depth-depth_of-clause-lanes g c s d st =
    let deep = c.args.depth in
    let state = now s d in
    let below = other_than deep (depth state) (λ same. c.if-depth-depth_of.false (same ∙ sym (c.depth_of.ensures s d st))) in
    sym (call_lanes_given s.program deep state.frames c.call.result (c.call.ensures.place s d st)) ∙ ap (λ b. if b then lanes_now state else called_lanes deep state.frames) (sym below)
