use Rattle.std.proofs.Common.{sym, subst}
use Rattle.serde_json.specs.View.{view}
use Rattle.adapter_server.specs.Hearing.{ReadsNext}
use Rattle.adapter_server.proofs.Ends.{by_end, by_fault, if_ends_before}
use Rattle.adapter_server.proofs.HeardMessages.{disconnects, more_before}
use Rattle.adapter_server.proofs.connection.Connection.await_launch.Goals as goal

pub returns-in-Launches-clause-launch : goal.returns-in-Launches-clause-launch
returns-in-Launches-clause-launch g c =
    let left = g.R.Read.remaining in
    let contents = g.O.Write.contents in
    let launches = c.in_ok-answer_before.ensures.launches c.in-Launches.is in
    record {
      told = c.loop.self;
      hears = c.loop.invariant;
      read = subst (λ after. ReadsNext left contents c.loop.self after (view c.in_ok-message.message)) (sym launches.1)
          (record { said = c.in_ok-message.ensures.said; read = c.in_ok-message.ensures.read });
      launches = launches.0;
    }

pub returns-in_err-message-clause-ends : goal.returns-in_err-message-clause-ends
returns-in_err-message-clause-ends g c =
    let left = g.R.Read.remaining in
    let after = c.next_value.new.self in
    if_ends_before left after g.O.Write.contents c.args.self.now c.from_residual.result (by_end left after c.from_residual.result _ c.from_residual.ensures.1 c.in_err-message.ensures.ends)

pub returns-in_err-answer_before-clause-ends : goal.returns-in_err-answer_before-clause-ends
returns-in_err-answer_before-clause-ends g c =
    let left = g.R.Read.remaining in
    let after = c.answer_before.new.self in
    if_ends_before left after g.O.Write.contents c.args.self.now c.from_residual-in_err-answer_before.result
    (by_fault left after c.from_residual-in_err-answer_before.result _ c.from_residual-in_err-answer_before.ensures.1)

pub returns-in-Disconnects-clause-ends : goal.returns-in-Disconnects-clause-ends
returns-in-Disconnects-clause-ends g c =
    disconnects g.O.Write.contents g.R.Read.remaining c.args.self.now c.loop.self c.next_value.new.self c.answer_before.new.self _ (view c.in_ok-message.message) c.loop.invariant
    (record { said = c.in_ok-message.ensures.said; read = c.in_ok-message.ensures.read }) c.in-Disconnects.is c.in_ok-answer_before.ensures.told

pub loop-preserved : goal.loop-preserved
loop-preserved g c =
    more_before g.O.Write.contents g.R.Read.remaining c.args.self.now c.loop.self c.next_value.new.self c.answer_before.new.self _ (view c.in_ok-message.message) c.loop.invariant
    (record { said = c.in_ok-message.ensures.said; read = c.in_ok-message.ensures.read }) c.in-Goes.is c.in_ok-answer_before.ensures.told
