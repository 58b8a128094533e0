use Rattle.std.proofs.Common.{◌≡◌, ◌∙◌, length, refl, ap, sym, subst, Some, None}
use Rattle.std.specs.Prelude.{option_map, slice_get}
use Rattle.std.proofs.lemmas.Option.{slice_get-map, slice_get_past, slice_get_read}
use Rattle.typed_tree.specs.Views.{function_view}
use Rattle.lane_profile.specs.Stands.{name_of}
use Rattle.lane_profile.proofs.run.name_of.Goals as goal

pub returns-in_default : goal.returns-in_default
returns-in_default c =
    let functions = c.args.program.now.functions.items in
    let n = c.args.number in
    let none : slice_get functions n ≡ None = subst (λ fs. slice_get fs n ≡ None) c.deref.ensures.value (slice_get_past c.deref.result.now n c.in_default.ensures.lookup.3) in
    sym (ap name_of (slice_get-map function_view functions n ∙ ap (option_map function_view) none))

pub returns : goal.returns
returns c =
    let functions = c.args.program.now.functions.items in
    let n = c.args.number in
    let f = c.in-Some.function.now in
    let look = c.in-Some.ensures.lookup in
    let some : slice_get functions n ≡ Some f =
    subst (λ fs. slice_get fs n ≡ Some f) c.deref.ensures.value (slice_get_read c.deref.result.now (length c.deref.result.now) n f refl look.3.0 look.1) in
    c.as_slice.ensures.value ∙ sym (ap name_of (slice_get-map function_view functions n ∙ ap (option_map function_view) some))
