use Rattle.std.proofs.Common.{length, rules, sym}
use Rattle.std.proofs.lemmas.Iterator.Adapters.{YieldsList-from_vec}
use Rattle.std.proofs.lemmas.Iterator.Consumers.{YieldsList-turn}
use Rattle.type_check_library.proofs.GivenValues.{value_more, not_all_values}
use Rattle.type_check_library.proofs.arguments.all_values.Goals as goal

pub loop-passing-preserved : goal.loop-passing-preserved
loop-passing-preserved c =
    value_more c.loop-passing.yielded c.loop-passing.values.items c.push.new.self.items c.in-Some.passing c.in-Some-value_of.argument
    c.loop-passing.invariant c.in-Some-value_of.ensures c.in_ok-push-in-Some-value_of.ensures.items

pub returns-in-None-value_of : goal.returns-in-None-value_of
returns-in-None-value_of c =
    let turn = YieldsList-turn (YieldsList-from_vec {s = c.into_iter-passing-iterator.result} c.args.given.items (search rules) (search rules))
    c.loop-passing.yielded c.loop-passing.passing-iterator c.loop-passing.yielded_by c.next.result c.next.new.self c.in-Some.passing c.in-Some.is c.next.ensures.steps in
    record { values = sym (not_all_values c.args.given.items (length c.loop-passing.yielded) c.in-Some.passing turn.0 turn.1 (sym c.in-None-value_of.ensures)) }
