use Rattle.std.proofs.Common.{◌≡◌, ◌∙◌, refl, sym, ap}
use Rattle.std.specs.Prelude.{slice_get}
use Rattle.typed_tree.specs.Views.{function_view}
use Rattle.machine_states.proofs.DeclaredLists.{same_some}
use Rattle.machine_shown.proofs.Viewed.{read_at, viewed_at, viewed_within}
use Rattle.machine_shown.proofs.positions.stands_at.Goals as goal

pub returns : goal.returns
returns g c f is =
    let functions = c.args.compiled.now.program.functions.items in
    let own = c.index-function.result.now in
    let within = viewed_within function_view functions c.args.function f is in
    let same : function_view own ≡ f =
    same_some (function_view own) f
    (sym (viewed_at function_view functions c.args.function own (read_at functions functions c.args.function own refl within c.index-function.ensures)) ∙ is) in
    let read = c.in_ok-standing.ensures.lookup in
    let item = read_at own.scopes.standings.items c.deref.result.now c.args.step c.in_ok-standing.standing.now c.deref.ensures.value read.3.0 read.1 in (
      _,
      ap (λ h. slice_get h.standings c.args.step) (sym same) ∙ viewed_at _ _ c.args.step _ (viewed_at _ _ c.args.step _ item),
      refl,
      c.as_slice.ensures.value ∙ ap (λ h. h.name) same,
      refl,
      refl,
      refl,
    )
