use Rattle.std.proofs.Common.{sym, ap, ◌∙◌, refl}
use Rattle.gang_model.specs.Debugger.Debugger.{BreaksAt, Line, break_on}
use Rattle.debug_session.specs.Sessions.{bare}
use Rattle.debug_answers.specs.declared.stops.Stop.TheVariants as stop
use Rattle.debug_session.proofs.Listing.{listed_added, listed_full, listed_so}
use Rattle.debug_session.proofs.stopping.set_breakpoint.Goals as goal

pub returns-in-None-add-clause-replied : goal.returns-in-None-add-clause-replied
returns-in-None-add-clause-replied g c s d st are next =
    let line = c.in-Some.line in
    let found = sym (c.line_from.ensures s (bare d) st) ∙ c.in-Some.is in
    listed_so s d _ _ _ _ (ap (λ line. break_on line d) found)
    (listed_full s d c.args.stops.now c.add.new.self (stop.Line line) (Line line) (λ n. BreaksAt n line) are next c.add.ensures.table (sym c.add.ensures.number ∙ c.in-None-add.is))

pub returns-in-Some-add-clause-replied : goal.returns-in-Some-add-clause-replied
returns-in-Some-add-clause-replied g c s d st are next =
    let line = c.in-Some.line in
    let found = sym (c.line_from.ensures s (bare d) st) ∙ c.in-Some.is in
    listed_so s d _ _ _ _ (ap (λ line. break_on line d) found)
    (listed_added s d c.args.stops.now c.add.new.self (stop.Line line) (Line line) (λ n. BreaksAt n line) are next c.add.ensures.table
    c.in-Some-add.number _ (sym c.add.ensures.number ∙ c.in-Some-add.is) refl (λ e. ap (λ n. BreaksAt n line) (sym e)))
