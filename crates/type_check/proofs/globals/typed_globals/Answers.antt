use Rattle.std.proofs.Common.{◌∙◌, map, Vec}
use Rattle.std.specs.Global as alloc
use Rattle.gang_model.specs.Types.Resolved.{judged_globals}
use Rattle.typed_tree.specs.declared.program.Global.{Global}
use Rattle.typed_tree.specs.Views as typed
use Rattle.type_check_functions.proofs.Collecting.{all_collected, fault_collected}
use Rattle.type_check.proofs.GlobalParts.{views, globals-step, globals-done}
use Rattle.type_check_expressions.proofs.Residuals.{answers-fault}
use Rattle.type_check.proofs.globals.typed_globals.Goals as goal

pub loop-global-preserved : goal.loop-global-preserved
loop-global-preserved c =
    globals-step c.args.globals.now c.loop-global.global-index c.len.result c.global-item.result c.loop-global.first c.global_fault.result c.least-first.result
    c.loop-global.typed.items c.push.new.self.items c.in_ok-typed_global.field-0 c.loop-global.invariant c.loop-global-test.true c.global-item.is c.global_fault.ensures c.least-first.ensures
    c.in_ok-typed_global.ensures.typed (c.len.ensures ∙ c.loop-global.typed.ok.0) c.in_ok-push.ensures.items

pub returns-in_err-refuse : goal.returns-in_err-refuse
returns-in_err-refuse c =
    let gs = c.args.globals.now in
    let made = c.loop-global.typed.items in
    answers-fault (λ (made : Vec Global alloc.Global). map typed.global_view made.items) c.in_err-refuse.field-0.0 c.from_residual-in_err-refuse.result (judged_globals 0 (views gs)) c.from_residual-in_err-refuse.ensures.1
    (fault_collected (λ (made : Vec Global alloc.Global). map typed.global_view made.items) c.loop-global.first (map typed.global_view made) (judged_globals 0 (views gs)) c.in_err-refuse.field-0.0 c.in_err-refuse.ensures
    (globals-done gs c.loop-global.global-index c.loop-global.first made c.loop-global.invariant c.loop-global-test.false))

pub returns : goal.returns
returns c =
    let gs = c.args.globals.now in
    let items = map typed.global_view c.loop-global.typed.items in
    all_collected c.loop-global.first items (judged_globals 0 (views gs)) tt c.in_ok-refuse.ensures
    (globals-done gs c.loop-global.global-index c.loop-global.first c.loop-global.typed.items c.loop-global.invariant c.loop-global-test.false)
