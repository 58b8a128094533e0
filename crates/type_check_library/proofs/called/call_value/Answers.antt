use Rattle.std.proofs.Common.{◌≡◌, ◌∙◌, Some, map, ap, sym}
use Rattle.gang_model.specs.Source.Judged.{least_fault}
use Rattle.gang_model.specs.Types.Typing as typing
use Rattle.std.proofs.lemmas.Result.{err_from_is_err_and}
use Rattle.type_check_values.specs.Views.{typed_view}
use Rattle.type_check_library.specs.Arguments.{argument_view}
use Rattle.type_check_library.specs.Calls.{call_view}
use Rattle.type_check_library.proofs.CalledValues.{faults_at, fault_answers, none_found, call_refused, call_sound}
use Rattle.type_check_library.proofs.called.call_value.Goals as goal

pub returns-in_err-refuse : goal.returns-in_err-refuse
returns-in_err-refuse c =
    let values = map argument_view c.args.values.items in
    let call = call_view c.args.call in
    let found : c.rate_fault.result ≡ least_fault (faults_at call values) =
    c.rate_fault.ensures ∙ (ap (λ asks. least_fault (typing.rate_faults asks (map argument_view c.deref.result.now))) c.asked_by.ensures
    ∙ ap (λ xs. least_fault (faults_at call (map argument_view xs))) c.deref.ensures.value) in
    let p = err_from_is_err_and c.from_residual.result c.from_residual.ensures.1 in
    rw (p.1, p.2) (fault_answers typed_view c.rate_fault.result c.in_err-refuse.field-0.0 (typing.call_value c.args.place (Some call) values)
    (sym c.in_err-refuse.was ∙ c.refuse.ensures) (λ f e. call_refused c.args.place call values f (sym found ∙ e)))

pub returns : goal.returns
returns c =
    let values = map argument_view c.args.values.items in
    let call = call_view c.args.call in
    let found : c.rate_fault.result ≡ least_fault (faults_at call values) =
    c.rate_fault.ensures ∙ (ap (λ asks. least_fault (typing.rate_faults asks (map argument_view c.deref.result.now))) c.asked_by.ensures
    ∙ ap (λ xs. least_fault (faults_at call (map argument_view xs))) c.deref.ensures.value) in
    let none = none_found c.rate_fault.result (sym c.in_ok-refuse.was ∙ c.refuse.ensures) in
    call_sound typed_view c.in_ok-library_value.field-0 c.args.place call values (sym found ∙ none) c.in_ok-library_value.ensures.value
