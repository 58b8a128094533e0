use Rattle.std.proofs.Common.{◌≡◌, refl, sym, ap, ◌∙◌, length, Some}
use Rattle.std.specs.Prelude.{option_map, slice_get}
use Rattle.std.proofs.lemmas.Bool.Decides.{Decides-eqb}
use Rattle.std.proofs.lemmas.Option.{slice_get-map, slice_get_read}
use Rattle.std.proofs.lemmas.Slice.Eq.{slice_eq-Decides}
use Rattle.run_page.specs.Names.{names_view}
use Rattle.run_page.proofs.Numbers.{names_one}
use Rattle.run_page.proofs.names.function_number.Goals as goal

pub returns-then-eq-clause-number : goal.returns-then-eq-clause-number
returns-then-eq-clause-number c =
    let all = c.deref-function-items.result.now in
    let k = c.loop-number.number in
    let function = c.function-item.result in
    let read : slice_get all k ≡ Some function = slice_get_read all (length all) k function refl c.loop-number-test.true c.function-item.is in
    let same : function.items ≡ c.args.name.now = sym c.as_slice.ensures.value ∙ (slice_eq-Decides Decides-eqb _ _ _ c.eq.ensures).0 c.if-eq.true in
    ap (λ all. slice_get (names_view all) k) (sym c.deref-function-items.ensures.value) ∙ slice_get-map (λ name. name.items) all k ∙ ap (option_map (λ name. name.items)) read ∙ ap Some same

pub returns-clause-grows : goal.returns-clause-grows
returns-clause-grows c = names_one c.args.functions.now.items c.push.new.self.items _ c.in_ok-push.ensures.items
