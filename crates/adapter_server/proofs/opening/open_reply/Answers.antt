use Rattle.adapter_server.proofs.OpenedEvents.{by_place}
use Rattle.adapter_server.proofs.opening.open_reply.Goals as goal

pub returns-in-Ok-clause-events : goal.returns-in-Ok-clause-events
returns-in-Ok-clause-events g c seen hears s d last = by_place seen hears s d c.args.request.now last c.in-Ok.place c.args.reply c.with_place.result c.with_place.ensures
