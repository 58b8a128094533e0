use Rattle.std.proofs.Common.{refl, ap, subst, sym, ◌∙◌, ℕ, List, Option}
use Rattle.debug_session.specs.Sessions.{bare}
use Rattle.adapter_session.specs.Changes.{Change, change_of}
use Rattle.adapter_session.specs.Given.{all_numbers}
use Rattle.adapter_session.specs.Terms.{changed_by, function_numbers, terms_of}
use Rattle.adapter_session.proofs.TermLists.{numbers_same}
use Rattle.adapter_session.proofs.answering.answer_plainly.Goals as goal

pub returns-clause-done : goal.returns-clause-done
returns-clause-done g c s d there = record {
  done = c.in_ok-told.ensures.done s d there;
  told = record {
    reply = c.in_ok-told.told;
    by_commands = c.in_ok-told.ensures.told s d there;
    at_end = λ e at. c.reply_at_end-reply.ensures s (bare e) (subst (λ machine. g.M.RecordedMachine.stands machine s (bare e)) (sym c.machine.ensures) at.there);
  };
  verdict = refl;
  silent = c.new.ensures;
  terms_are = λ e at.
      let old = terms_of c.args.terms.now in
      let stops = c.stops.result.now in
      let change = change_of s c.args.program.now (function_numbers old) d c.args.request.now in
      c.change_terms.ensures
      ∙ ap (λ (one : Option Change). changed_by one (all_numbers stops) old) (c.in_ok-change.ensures s d there ∙ ap (λ (ns : List ℕ). change_of s c.args.program.now ns d c.args.request.now) (c.as_slice.ensures.value ∙ c.function_numbers-functions.ensures))
      ∙ ap (λ ns. changed_by change ns old) (ap all_numbers c.stops.ensures ∙ numbers_same s _ e.stops at.stops);
}
