use Rattle.std.proofs.Common.{◌≡◌, ◌∙◌, refl, sym, ap, if◌then◌else◌}
use Rattle.std.specs.Prelude.{◌||◌}
use Rattle.std.specs.Str.Lossy.{utf8_lossy}
use Rattle.adapter_replies.specs.declared.places.Place.TheVariants as place
use Rattle.adapter_replies.specs.References.{place_of}
use Rattle.adapter_replies.specs.Variables.{has_parts, is_varying, type_text, whole_kind}
use Rattle.adapter_replies.proofs.ToldVariables.{made_same}
use Rattle.adapter_replies.proofs.scopes.whole.Goals as goal
use Rattle.adapter_replies.proofs.scopes.whole.Goals.{then-has_parts, else-has_parts}

pub returns : goal.returns
returns g c s d v st (named, shown) =
    let given = c.args.named.shown in
    let at = place_of c.args.reference in
    let same : c.has_parts.result ≡ has_parts v = c.has_parts.ensures ∙ ap (λ b. b || is_varying given.rate) (sym shown.is_array) ∙ ap (λ rate. v.is_array || is_varying rate) (sym shown.rate) in
    let type = c.in_ok-type_text.ensures
    ∙ ap (λ rate. type_text rate given.value_type given.is_array given.count) (sym shown.rate)
    ∙ ap (λ type. type_text v.rate type given.is_array given.count) (sym shown.type)
    ∙ ap (λ b. type_text v.rate v.type b given.count) (sym shown.is_array)
    ∙ ap (λ n. type_text v.rate v.type v.is_array n) (sym shown.count) in
    let kind = c.whole_kind.ensures ∙ ap (λ b. whole_kind b given.count) (sym shown.is_array) ∙ ap (whole_kind v.is_array) (sym shown.count) in
    let parts : place_of c.if-has_parts.result ≡ (if has_parts v then at else place.Nothing) = elim c.if-has_parts.branch [
      | then-has_parts w ↦ ap place_of w.result-is ∙ ap (λ b. if b then at else place.Nothing) (sym w.if-has_parts.true ∙ same)
      | else-has_parts w ↦ ap place_of w.result-is ∙ ap (λ b. if b then at else place.Nothing) (sym w.if-has_parts.false ∙ same)
    ] in
    made_same (c.in_ok-from_utf8_lossy.ensures.lossy ∙ ap utf8_lossy named) (c.in_ok-whole_value.ensures s d v st shown) type kind (sym shown.is_constant) refl parts
