use Rattle.std.proofs.Common.{◌≡◌, ◌∙◌, sym, subst, ap, string_bytes, Some}
use Rattle.gang_model.specs.Debugger.Debugger.{now, part_shown, shown_words}
use Rattle.gang_model.specs.Debugger.Events.{after}
use Rattle.debug_answers.specs.Meanings.{Means}
use Rattle.debug_texts.proofs.Meant.{shown_at}
use Rattle.adapter_replies.specs.Told.{shown_option, shown_values}
use Rattle.adapter_replies.specs.Variables.{values}
use Rattle.adapter_replies.proofs.evaluating.values_of.Goals as goal

pub returns-clause-values : goal.returns-clause-values
returns-clause-values g c s at d meant st same means =
    let form = c.args.form in
    let is = c.in-Shows.is in
    let place = c.in-Shows.target.at in
    let (v, are, shown, inside) = subst (λ given. Means s d given meant) is means in
    let says = c.in_ok-values.ensures s at v st (shown_at s at d v c.in-Shows.shown same shown) inside
    ∙ ap (λ events. values form v.type (part_shown place (shown_words (after s.program s.first events) v))) same
    ∙ ap (λ m. shown_values (now s d) m form) (sym are) in
    subst (λ given. Some (string_bytes c.in_ok-values.values) ≡ shown_option given (shown_values (now s d) meant form)) (sym is) (ap Some says)
