use Rattle.std.proofs.Common.{◌≡◌, ◌∙◌, refl, sym, ap, subst, length, map, Some}
use Rattle.std.specs.Prelude.{slice_get}
use Rattle.std.proofs.lemmas.Option.{slice_get_read}
use Rattle.typed_tree.specs.Views.{variable_view}
use Rattle.adapter_replies.proofs.StepPlaces.{place_known, row_place}
use Rattle.adapter_replies.proofs.waiting.place_in.Goals as goal

pub returns-in-Some : goal.returns-in-Some
returns-in-Some c =
    let f = c.args.function.now in
    let n = c.args.number in
    let row = c.in-Some.standing.now in
    let look = c.in-Some.ensures.lookup in
    let read = slice_get_read c.deref.result.now (length c.deref.result.now) n row refl look.3.0 look.1 in
    let here = subst (λ rows. slice_get rows n ≡ Some row) c.deref.ensures.value read in
    sym (place_known (map variable_view f.variables.items) f.scopes.declarations.items f.scopes.standings.items n ∙ ap row_place here)
