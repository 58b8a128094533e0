use Rattle.std.proofs.Common.{ap, refl, subst, sym, ◌∙◌}
use Rattle.std.specs.Prelude.{option_map, unwrap_or}
use Rattle.debug_session.specs.Sessions.{bare}
use Rattle.adapter_requests.specs.declared.request.Context.TheVariants.{Console}
use Rattle.adapter_requests.specs.declared.request.Request.TheVariants as request
use Rattle.adapter_session.specs.Typed.{IsMeantBy, typed_view}
use Rattle.adapter_session.proofs.answering.answer_read.Goals as goal

pub returns-in_ok-answered-in-None-clause-done : goal.returns-in_ok-answered-in-None-clause-done
returns-in_ok-answered-in-None-clause-done g c s d there =
    let meant = unwrap_or c.in_ok-meant-in-None.meant c.args.request.now in
    record {
      meant = meant;
      is = subst (λ t. IsMeantBy s d t c.args.request.now meant) (ap (option_map typed_view) (sym c.in-None.is) ∙ c.typed_in.ensures) c.in_ok-meant-in-None.ensures;
      does = c.in_ok-answered-in-None.ensures.done s d there;
    }

pub returns-in_ok-answered-in-Some-clause-done : goal.returns-in_ok-answered-in-Some-clause-done
returns-in_ok-answered-in-Some-clause-done g c s d there =
    let typed = c.in-Some.typed in
    let machine = subst (λ machine. g.M.RecordedMachine.stands machine s (bare d)) (sym c.machine-in-Some.ensures) there.there in
    let meant = request.Evaluate c.as_str.result typed.frame Console typed.is_hexadecimal in
    record {
      meant = meant;
      is = subst (λ t. IsMeantBy s d t c.args.request.now meant) (ap (option_map typed_view) (sym c.in-Some.is) ∙ c.typed_in.ensures)
          (record { expression = c.as_str.result; text = c.as_str.ensures.value ∙ c.in_ok-line-in-Some.ensures s (bare d) machine; is = refl });
      does = c.in_ok-answered-in-Some.ensures.done s d there;
    }
