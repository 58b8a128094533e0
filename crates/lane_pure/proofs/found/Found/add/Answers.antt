use Rattle.std.proofs.Common.{◌<◌, true, length, sym, subst, arith}
use Rattle.std.specs.Prelude.{slice_set}
use Rattle.lane_pure.specs.Found.{IsListed, Keeps}
use Rattle.lane_pure.proofs.Spreading.{get_clear, keeps_push, listed_more}
use Rattle.lane_pure.proofs.found.Found.add.Goals as goal

pub returns-in_ok-push-clause-listed : goal.returns-in_ok-push-clause-listed
returns-in_ok-push-clause-listed c =
    let marks = c.args.self.now.marks.items in
    let below : c.args.number < length marks = omega (arith, c.if-number-len.true, c.len.ensures, c.args.self.now.marks.ok.0) in
    subst (IsListed (slice_set marks c.args.number true)) (sym c.in_ok-push.ensures.items)
    (listed_more marks c.args.self.now.order.items c.args.number c.requires (get_clear marks c.args.number c.index.result.now below c.index.ensures c.if-not-index.true))

pub returns-in_ok-push-clause-order : goal.returns-in_ok-push-clause-order
returns-in_ok-push-clause-order c =
    subst (Keeps c.args.self.now.order.items) (sym c.in_ok-push.ensures.items) (keeps_push c.args.self.now.order.items c.args.number)
