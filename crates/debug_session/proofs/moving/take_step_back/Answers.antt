use Rattle.std.proofs.Common.{◌<◌, ◌∷◌, sym, subst, ap, ◌∙◌, arith, length}
use Rattle.std.proofs.lemmas.Bool.{or_parts}
use Rattle.gang_model.specs.Debugger.Debugger.{now, taken_back}
use Rattle.debug_session.specs.Sessions.{bare}
use Rattle.debug_session.proofs.Bounds.{step_behind}
use Rattle.debug_session.proofs.Stepping.{back_by_poke, poke_of, steps_by_poke}
use Rattle.debug_session.proofs.moving.take_step_back.Goals as goal

pub loop-machine-preserved : goal.loop-machine-preserved
loop-machine-preserved g c = (
  λ s d st some.
      let (e, there, more, same, alike) = c.loop-machine.invariant.0 s d st some in
      let (event, events, kept, is, many, kind, left) = c.in-Ok-Poke.ensures.undo s (bare e) there in
      let (what, word, poke) = poke_of event (sym c.in-Ok-Poke.field-0-is ∙ kind) in
      let here = is ∙ ap (λ x. x ∷ events) poke in (
        taken_back e,
        left,
        subst (λ n. 0 < n) (sym (steps_by_poke e what word events kept here many)) more,
        back_by_poke e what word events here ∙ same,
        λ are noted none.
            let (old, new) = or_parts c.loop-machine.may_change c.may_change_watch-may_change-in-Ok-Poke.result none in
            alike are noted old ∙ sym (c.may_change_watch-may_change-in-Ok-Poke.ensures new s (taken_back e) (now s d) d.stops left are noted),
      ),
  λ some.
      let (more, before) = c.loop-machine.invariant.1 some in
      let past = c.in-Ok-Poke.ensures.words.0 in
      let fewer = ap length past in (
        step_behind _ _ _ _ past c.in-Ok-Poke.field-0-is more,
        omega (arith, before, fewer, c.in-Ok-Poke.ensures.moves),
      ),
)

pub loop-machine-smaller : goal.loop-machine-smaller
loop-machine-smaller g c =
    let fewer = ap length c.in-Ok-Poke.ensures.words.0 in
    omega (arith, fewer)
