use Rattle.std.proofs.Common.{[], ap, sym, ◌∙◌, List, map, subst}
use Rattle.debug_session.specs.Sessions.{StandsFor}
use Rattle.adapter_session.specs.Given.{all_numbers}
use Rattle.adapter_session.specs.Restored.{led, restored, stop_commands, terms_anew}
use Rattle.adapter_session.specs.Terms.{FunctionStop, function_of, terms_of}
use Rattle.adapter_session.proofs.KeptNumbers.{numbers_kept}
use Rattle.adapter_session.proofs.MadeAnew.{leads_all}
use Rattle.adapter_session.proofs.TermLists.{numbers_same}
use Rattle.adapter_session.proofs.restoring.restore_stops.Goals as goal

pub returns-clause-done : goal.returns-clause-done
returns-clause-done g c s t d e old there =
    let functions = (terms_of c.args.terms.now).functions in
    let made : List FunctionStop → Type 0 = λ functions. StandsFor g.M.RecordedMachine.stands c.restore_all-made.new.session t (led t (stop_commands t functions d.stops e) e) in
    record {
      after = led t (stop_commands t functions d.stops e) e;
      leads = leads_all t (stop_commands t functions d.stops e) e;
      there = subst made (ap (map function_of) c.as_slice.ensures.value) (c.restore_all-made.ensures.there s t d e old there);
    }

pub returns-clause-terms : goal.returns-clause-terms
returns-clause-terms g c s t d e f old there new =
    let terms = terms_of c.args.terms.now in
    let made = ap all_numbers c.as_slice-2.ensures.value
    ∙ c.restore_all-made.ensures.made s t d e old there
    ∙ ap (λ (functions : List FunctionStop). restored t functions d.stops e []) (ap (map function_of) c.as_slice.ensures.value) in
    let news = ap all_numbers c.stops.ensures ∙ numbers_same t c.restore_all-made.new.session.stops.items f.stops new.stops in
    c.carried-restored.ensures
    ∙ ap (λ ns. terms_anew terms ns (all_numbers c.stops.result.now)) made
    ∙ ap (λ ns. terms_anew terms (restored t terms.functions d.stops e []) ns) news

pub returns-clause-numbers : goal.returns-clause-numbers
returns-clause-numbers g c s t d e f old there new can =
    let functions = (terms_of c.args.terms.now).functions in
    let items = c.restore_all-made.new.session.stops.items in
    let made : List FunctionStop → Type 0 = λ functions. StandsFor g.M.RecordedMachine.stands c.restore_all-made.new.session t (led t (stop_commands t functions d.stops e) e) in
    let after = subst made (ap (map function_of) c.as_slice.ensures.value) (c.restore_all-made.ensures.there s t d e old there) in
    sym (numbers_same t items f.stops new.stops)
    ∙ numbers_same t items (led t (stop_commands t functions d.stops e) e).stops after.stops
    ∙ numbers_kept t functions d.stops e can
