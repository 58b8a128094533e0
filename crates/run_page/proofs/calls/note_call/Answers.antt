use Rattle.std.proofs.Common.{refl}
use Rattle.run_page.specs.Names.{names_view}
use Rattle.run_page.proofs.CallsKept.{one_call}
use Rattle.run_page.proofs.calls.note_call.Goals as goal

pub returns-in_ok-push-clause-calls : goal.returns-in_ok-push-clause-calls
returns-in_ok-push-clause-calls c lines are =
    one_call (names_view c.args.functions.now.items) (names_view c.function_number.new.functions.items) c.function_number.ensures.grows c.args.position c.in-Some.position c.in-Some.is c.args.calls.now.items
    c.push.new.self.items _ c.in_ok-push.ensures.items refl c.in_ok-function.ensures.number lines are
