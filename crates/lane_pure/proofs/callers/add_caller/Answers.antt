use Rattle.std.proofs.Common.{sym, arith}
use Rattle.std.proofs.lemmas.List.{length-map}
use Rattle.lane_pure.specs.Callers.{lists}
use Rattle.lane_pure.proofs.Calling.{caller_past, caller_put}
use Rattle.lane_pure.proofs.callers.add_caller.Goals as goal

pub returns-in_ok-push : goal.returns-in_ok-push
returns-in_ok-push c =
    caller_put c.args.caller c.args.function c.args.callers.now c.index-callers-function.result c.push.new.self c.if-function-callers.true c.in_ok-push.ensures.items

pub returns-else-function-callers : goal.returns-else-function-callers
returns-else-function-callers c =
    sym (caller_past c.args.caller c.args.function (lists c.args.callers.now) (λ below. omega (arith, below, c.if-function-callers.false, length-map c.args.callers.now (λ list. list.items))))
