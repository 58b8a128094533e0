use Rattle.std.proofs.Common.{◌∷◌, ap, map, subst, sym, ◌∙◌, arith}
use Rattle.debug_traits.specs.Frames.{ShowsNamedAt}
use Rattle.adapter_replies.specs.declared.places.Place.TheVariants as place
use Rattle.adapter_replies.specs.Variables.{of_scope, told_each, variable_view}
use Rattle.adapter_replies.proofs.ToldVariables.{told_last, told_next}
use Rattle.adapter_replies.proofs.scopes.of_frame.Goals as goal

pub returns : goal.returns
returns g c s d st =
    let deep = c.args.depth in
    let at = place.Parts c.args.scope deep in
    let from = of_scope c.args.scope (g.M.FramedMachine.locals_at c.args.machine.now s d deep) (g.M.FramedMachine.parameters_at c.args.machine.now s d deep) in
    told_last c.args.form s d deep at (told_each c.args.form s d deep at 0 (from 0)) (map variable_view c.loop-next.told.items) c.loop-next.number (from c.loop-next.from) (c.loop-next.invariant.0 s d st)
    (c.in_default.ensures.next s d st)
    ∙ ap (told_each c.args.form s d deep at 0) (c.in_default.ensures.all s d st)

pub loop-next-preserved : goal.loop-next-preserved
loop-next-preserved g c = (
  λ s d st.
      let deep = c.args.depth in
      let at = place.Parts c.args.scope deep in
      let from = of_scope c.args.scope (g.M.FramedMachine.locals_at c.args.machine.now s d deep) (g.M.FramedMachine.parameters_at c.args.machine.now s d deep) in
      let (v, is, shows) = c.in-Some.ensures.next s d st in
      told_next c.args.form s d deep at _ (map variable_view c.loop-next.told.items) _ c.loop-next.number (from c.loop-next.from) _ v _ (c.loop-next.invariant.0 s d st)
      (is ∙ ap (λ n. v ∷ from n) (sym c.place_after-from.ensures)) c.reference_of-reference.ensures
      (c.in_ok-push_found.ensures s d v st (subst (λ named. ShowsNamedAt s d deep v named) (sym c.variable_here-named.ensures) shows)),
  omega (arith, c.loop-next.invariant.1, c.in-Some.ensures.further, c.place_after-from.ensures),
)
