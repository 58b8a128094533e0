use Rattle.std.proofs.Common.{◌≡◌, ◌∙◌, refl, sym, ap, subst, length, Some}
use Rattle.std.specs.Prelude.{option_map, slice_get}
use Rattle.std.proofs.lemmas.Option.{slice_get-map, slice_get_read}
use Rattle.gang_model.specs.Debugger.Positions.{standing_in}
use Rattle.typed_tree.specs.Views.{function_view}
use Rattle.adapter_replies.specs.Waiting.{standing_place}
use Rattle.adapter_replies.proofs.waiting.step_place.Goals as goal

pub returns-in-Some : goal.returns-in-Some
returns-in-Some c =
    let functions = c.args.program.now.functions.items in
    let n = c.args.spot.function.0 in
    let f = c.in-Some.function.now in
    let look = c.in-Some.ensures.lookup in
    let read = slice_get_read c.deref.result.now (length c.deref.result.now) n f refl look.3.0 look.1 in
    let here = subst (λ fs. slice_get fs n ≡ Some f) c.deref.ensures.value read in
    c.place_in.ensures
    ∙ ap (λ found. standing_place (standing_in found c.args.spot.number)) (sym (slice_get-map function_view functions n ∙ ap (option_map function_view) here))
