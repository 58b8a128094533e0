use Rattle.std.proofs.Common.{sym, subst, map}
use Rattle.debug_answers.specs.Meanings.{AreStops}
use Rattle.debug_session.specs.Sessions.{bare}
use Rattle.adapter_session.specs.Given.{all_numbers}
use Rattle.adapter_session.specs.Terms.{function_of}
use Rattle.adapter_session.proofs.MadeAnew.{Restoring, made_all, makes_all, makes_more, restoring}
use Rattle.adapter_session.proofs.restoring.restore_all.Goals as goal

pub loop-index-init : goal.loop-index-init
loop-index-init g c s t d e old there =
    let stands = g.M.RecordedMachine.stands in
    let functions = map function_of c.args.functions.now in
    subst (λ items. Restoring stands t functions d.stops e 1 d.stops (all_numbers items) c.args.session.now) (sym c.new-made.ensures) (restoring stands t functions d.stops e c.args.session.now there)

pub loop-index-preserved : goal.loop-index-preserved
loop-index-preserved g c s t d e old there =
    let stands = g.M.RecordedMachine.stands in
    let before = c.loop-index.invariant s t d e old there in
    let are = subst (λ stops. AreStops s stops d.stops) (sym c.stops-stops.ensures) old.stops in
    let machine = subst (λ machine. stands machine s (bare d)) (sym c.machine.ensures) old.there in
    makes_more stands t (map function_of c.args.functions.now) s c.stops-stops.result.now d.stops c.loop-index.index _ e c.loop-index.next _ (all_numbers c.loop-index.made.items) (all_numbers c.note_made.new.made.items) c.make_anew-is_made.result
    c.loop-index.session _ are c.loop-index-test.true before
    (λ entry number is. c.make_anew-is_made.ensures.there s t (bare d) before.at entry machine number is before.there)
    (λ entry number is. c.make_anew-is_made.ensures.made s t (bare d) before.at entry machine number is before.there)
    c.note_made.ensures
    c.number_behind-next.ensures

pub returns-clause-there : goal.returns-clause-there
returns-clause-there g c s t d e old there =
    let are = subst (λ stops. AreStops s stops d.stops) (sym c.stops-stops.ensures) old.stops in
    makes_all g.M.RecordedMachine.stands t (map function_of c.args.functions.now) s c.stops-stops.result.now d.stops c.loop-index.index e c.loop-index.next (all_numbers c.loop-index.made.items) c.loop-index.session are c.loop-index-test.false
    (c.loop-index.invariant s t d e old there)

pub returns-clause-made : goal.returns-clause-made
returns-clause-made g c s t d e old there =
    let are = subst (λ stops. AreStops s stops d.stops) (sym c.stops-stops.ensures) old.stops in
    made_all g.M.RecordedMachine.stands t (map function_of c.args.functions.now) s c.stops-stops.result.now d.stops c.loop-index.index e c.loop-index.next (all_numbers c.loop-index.made.items) c.loop-index.session are c.loop-index-test.false
    (c.loop-index.invariant s t d e old there)
