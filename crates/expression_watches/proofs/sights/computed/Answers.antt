use Rattle.std.proofs.Common.{◌≡◌, ◌-◌, ◌+◌, suc, ◌≤◌, sym, subst, ap, ◌∙◌, length, take, arith}
use Rattle.gang_types.specs.Lanes.{and}
use Rattle.gang_types.specs.LaneLaws.{length-and}
use Rattle.gang_types.specs.Masks.{lanes_of}
use Rattle.gang_types.specs.MaskLaws.{gang_width-le, length-lanes_of_word}
use Rattle.gang_model.specs.Debugger.Debugger.{now}
use Rattle.gang_model.specs.Running.Value.{value}
use Rattle.typed_tree.specs.Views.{expr_view}
use Rattle.debug_traits.specs.Frames.{state_at}
use Rattle.debug_traits.specs.Machines.{fault_view}
use Rattle.frame_expressions.specs.Lanes.{IsValue, chosen_lanes, made_lanes}
use Rattle.expression_watches.specs.LaneSights.{lane_words, shown_in}
use Rattle.expression_watches.proofs.FewerLanes.{all_chosen, chosen_out, faulted, none_shown, valued, within_gang}
use Rattle.expression_watches.proofs.sights.computed.Goals as goal

pub loop-tried-init : goal.loop-tried-init
loop-tried-init g c s d spot written type rate stands at means within =
    let made = made_lanes c.args.depth (now s d) in
    let state = state_at c.args.depth (now s d) in
    ap (λ lanes. shown_in 16 (expr_view means.tree) lanes state) (all_chosen made c.all-left.result.word within c.all-left.ensures)

pub loop-tried-preserved : goal.loop-tried-preserved
loop-tried-preserved g c s d spot written type rate stands at means within =
    let made = made_lanes c.args.depth (now s d) in
    let state = state_at c.args.depth (now s d) in
    let e = expr_view means.tree in
    let i = c.loop-tried.tried in
    let left = c.loop-tried.left in
    let lanes = chosen_lanes left c.args.depth (now s d) in
    let fault = c.in-Err.fault in
    let faults : value e lanes state ≡ _ = subst (λ r. IsValue r lanes (value e lanes state)) c.in-Err.is (c.evaluate_for.ensures s d spot written type rate stands at means) in
    let others = lanes_of (length made) left in
    let fewer = ap (and made) (c.but_for-left.ensures (length made) within) ∙ chosen_out made others fault.lane (sym (length-lanes_of_word (length made) left.word)) in
    let more : 16 - i ≡ suc (16 - (i + 1)) = omega (arith, c.loop-tried-test.true) in
    faulted e state (16 - i) (16 - (i + 1)) lanes (chosen_lanes c.but_for-left.result c.args.depth (now s d)) (fault_view fault) more faults fewer
    ∙ c.loop-tried.invariant s d spot written type rate stands at means within

pub returns-in-Ok : goal.returns-in-Ok
returns-in-Ok g c s d spot written type rate stands at means =
    let made = made_lanes c.args.depth (now s d) in
    let state = state_at c.args.depth (now s d) in
    let e = expr_view means.tree in
    let i = c.loop-tried.tried in
    let left = c.loop-tried.left in
    let lanes = chosen_lanes left c.args.depth (now s d) in
    let found = c.in-Ok.found in
    let is = subst (λ r. IsValue r lanes (value e lanes state)) c.in-Ok.is (c.evaluate_for.ensures s d spot written type rate stands at means) in
    let long : length made ≡ length lanes = sym (length-and made (lanes_of (length made) left) (sym (length-lanes_of_word (length made) left.word))) in
    let wide : length made ≡ found.width = long ∙ ap length (sym is.0.lanes_are) ∙ length-lanes_of_word found.width found.lanes.word in
    let within : length made ≤ 16 = omega (arith, wide, gang_width-le found.width is.0.gang) in
    let more : 16 - i ≡ suc (16 - (i + 1)) = omega (arith, c.loop-tried-test.true) in
    c.lane_words.ensures is.0.gang ∙ ap (λ all. lane_words all (take found.width found.words)) is.0.lanes_are
    ∙ valued e state (16 - i) (16 - (i + 1)) lanes (take found.width found.words) more is.1
    ∙ c.loop-tried.invariant s d spot written type rate stands at means within ∙ within_gang e state made within

pub returns : goal.returns
returns g c s d spot written type rate stands at means =
    let made = made_lanes c.args.depth (now s d) in
    let state = state_at c.args.depth (now s d) in
    let e = expr_view means.tree in
    let lanes = chosen_lanes c.loop-tried.left c.args.depth (now s d) in
    let none : 16 - c.loop-tried.tried ≡ 0 = omega (arith, c.loop-tried-test.false) in
    c.new.ensures ∙ none_shown e state made
    (λ within. sym (ap (λ n. shown_in n e lanes state) none) ∙ c.loop-tried.invariant s d spot written type rate stands at means within)
