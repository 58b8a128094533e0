use Rattle.std.proofs.Common.{inl, refl}
use Rattle.adapter_requests.specs.declared.request.Request.TheVariants.{Continue}
use Rattle.adapter_server.specs.Serving.{AsksHere, DoesOne, HasBegun, MayDo, run_of, setup_by}
use Rattle.adapter_server.specs.Telling.{TellsBeginning, TellsOne}
use Rattle.adapter_server.specs.Threads.{threads_of}
use Rattle.adapter_server.proofs.ToldEvents.{told_going, told_here}
use Rattle.adapter_server.proofs.ServedRequests.{begins_asking, begins_going, begins_here, on_ok_then}
use Rattle.adapter_server.proofs.connection.Connection.begin.Goals as goal

pub returns-in_err-tell_beginning-clause-done : goal.returns-in_err-tell_beginning-clause-done
returns-in_err-tell_beginning-clause-done g c =
    let stands = g.M.RecordedMachine.stands in
    let launch = c.args.launch.now in
    let beginning = c.stop_at_beginning-beginning.result in
    let old = run_of c.args.session.now c.args.terms.now in
    let middle = run_of c.args.session.now c.stop_at_beginning-beginning.new.terms in
    let asked : AsksHere stands beginning old middle = record { session = refl; asked = c.stop_at_beginning-beginning.ensures.asked; logs = c.stop_at_beginning-beginning.ensures.logs; functions = c.stop_at_beginning-beginning.ensures.functions; entry = c.stop_at_beginning-beginning.ensures.entry; asks = c.stop_at_beginning-beginning.ensures.asks; writes = c.stop_at_beginning-beginning.ensures.writes } in
    begins_asking stands (MayDo stands launch.program.now Continue) launch.stops_on_entry beginning old middle c.if-launch.false asked (inl refl)

pub returns-in-Some-clause-done : goal.returns-in-Some-clause-done
returns-in-Some-clause-done g c =
    let stands = g.M.RecordedMachine.stands in
    let launch = c.args.launch.now in
    let beginning = c.stop_at_beginning-beginning.result in
    let old = run_of c.args.session.now c.args.terms.now in
    let middle = run_of c.args.session.now c.stop_at_beginning-beginning.new.terms in
    let asked : AsksHere stands beginning old middle = record { session = refl; asked = c.stop_at_beginning-beginning.ensures.asked; logs = c.stop_at_beginning-beginning.ensures.logs; functions = c.stop_at_beginning-beginning.ensures.functions; entry = c.stop_at_beginning-beginning.ensures.entry; asks = c.stop_at_beginning-beginning.ensures.asks; writes = c.stop_at_beginning-beginning.ensures.writes } in
    begins_here stands (MayDo stands launch.program.now Continue) launch.stops_on_entry beginning c.in-Some.field-0 old middle c.if-launch.false c.in-Some.is asked

pub returns-in-Some-clause-begun : goal.returns-in-Some-clause-begun
returns-in-Some-clause-begun g c =
    let stands = g.M.RecordedMachine.stands in
    let launch = c.args.launch.now in
    let beginning = c.stop_at_beginning-beginning.result in
    let old = run_of c.args.session.now c.args.terms.now in
    let middle = run_of c.args.session.now c.stop_at_beginning-beginning.new.terms in
    let asked : AsksHere stands beginning old middle = record { session = refl; asked = c.stop_at_beginning-beginning.ensures.asked; logs = c.stop_at_beginning-beginning.ensures.logs; functions = c.stop_at_beginning-beginning.ensures.functions; entry = c.stop_at_beginning-beginning.ensures.entry; asks = c.stop_at_beginning-beginning.ensures.asks; writes = c.stop_at_beginning-beginning.ensures.writes } in
    begins_here stands (DoesOne stands launch.program.now Continue) launch.stops_on_entry beginning c.in-Some.field-0 old middle c.if-launch.false c.in-Some.is asked

pub returns-clause-done : goal.returns-clause-done
returns-clause-done g c =
    let stands = g.M.RecordedMachine.stands in
    let launch = c.args.launch.now in
    let beginning = c.stop_at_beginning-beginning.result in
    let old = run_of c.args.session.now c.args.terms.now in
    let middle = run_of c.args.session.now c.stop_at_beginning-beginning.new.terms in
    let asked : AsksHere stands beginning old middle = record { session = refl; asked = c.stop_at_beginning-beginning.ensures.asked; logs = c.stop_at_beginning-beginning.ensures.logs; functions = c.stop_at_beginning-beginning.ensures.functions; entry = c.stop_at_beginning-beginning.ensures.entry; asks = c.stop_at_beginning-beginning.ensures.asks; writes = c.stop_at_beginning-beginning.ensures.writes } in
    begins_going stands (MayDo stands launch.program.now Continue) launch.stops_on_entry beginning old middle (run_of c.run_on.new.session c.run_on.new.terms) c.if-launch.false c.in-None.is asked c.run_on.ensures.done

pub returns-clause-begun : goal.returns-clause-begun
returns-clause-begun g c =
    let stands = g.M.RecordedMachine.stands in
    let launch = c.args.launch.now in
    let beginning = c.stop_at_beginning-beginning.result in
    let old = run_of c.args.session.now c.args.terms.now in
    let middle = run_of c.args.session.now c.stop_at_beginning-beginning.new.terms in
    let new = run_of c.run_on.new.session c.run_on.new.terms in
    let asked : AsksHere stands beginning old middle = record { session = refl; asked = c.stop_at_beginning-beginning.ensures.asked; logs = c.stop_at_beginning-beginning.ensures.logs; functions = c.stop_at_beginning-beginning.ensures.functions; entry = c.stop_at_beginning-beginning.ensures.entry; asks = c.stop_at_beginning-beginning.ensures.asks; writes = c.stop_at_beginning-beginning.ensures.writes } in
    on_ok_then c.run_on.result (DoesOne stands launch.program.now Continue middle new) (HasBegun stands (setup_by launch) old new) c.run_on.ensures.gone
    (λ goes. begins_going stands (DoesOne stands launch.program.now Continue) launch.stops_on_entry beginning old middle new c.if-launch.false c.in-None.is asked goes)

pub returns-in-Some-clause-told : goal.returns-in-Some-clause-told
returns-in-Some-clause-told g c =
    let stands = g.M.RecordedMachine.stands in
    let contents = g.O.Write.contents in
    let launch = c.args.launch.now in
    let seen = threads_of launch in
    let beginning = c.stop_at_beginning-beginning.result in
    let old = run_of c.args.session.now c.args.terms.now in
    let middle = run_of c.args.session.now c.stop_at_beginning-beginning.new.terms in
    let told = c.tell_beginning.new.self in
    let asked : AsksHere stands beginning old middle = record { session = refl; asked = c.stop_at_beginning-beginning.ensures.asked; logs = c.stop_at_beginning-beginning.ensures.logs; functions = c.stop_at_beginning-beginning.ensures.functions; entry = c.stop_at_beginning-beginning.ensures.entry; asks = c.stop_at_beginning-beginning.ensures.asks; writes = c.stop_at_beginning-beginning.ensures.writes } in
    told_here stands contents seen launch.program.now launch.stops_on_entry beginning c.in-Some.field-0 c.args.self.now told old middle c.if-launch.false c.in-Some.is asked c.in_ok-tell_beginning.ensures.told

pub returns-clause-told : goal.returns-clause-told
returns-clause-told g c =
    let stands = g.M.RecordedMachine.stands in
    let contents = g.O.Write.contents in
    let launch = c.args.launch.now in
    let seen = threads_of launch in
    let beginning = c.stop_at_beginning-beginning.result in
    let old = run_of c.args.session.now c.args.terms.now in
    let middle = run_of c.args.session.now c.stop_at_beginning-beginning.new.terms in
    let told = c.tell_beginning.new.self in
    let new = run_of c.run_on.new.session c.run_on.new.terms in
    let asked : AsksHere stands beginning old middle = record { session = refl; asked = c.stop_at_beginning-beginning.ensures.asked; logs = c.stop_at_beginning-beginning.ensures.logs; functions = c.stop_at_beginning-beginning.ensures.functions; entry = c.stop_at_beginning-beginning.ensures.entry; asks = c.stop_at_beginning-beginning.ensures.asks; writes = c.stop_at_beginning-beginning.ensures.writes } in
    on_ok_then c.run_on.result (TellsOne stands contents seen launch.program.now Continue told c.run_on.new.self middle new)
    (TellsBeginning stands contents seen launch.program.now launch.stops_on_entry c.args.self.now c.run_on.new.self old new) c.run_on.ensures.told
    (λ one. told_going stands contents seen launch.program.now launch.stops_on_entry beginning c.args.self.now told c.run_on.new.self old middle new c.if-launch.false c.in-None.is asked c.in_ok-tell_beginning.ensures.told one)
