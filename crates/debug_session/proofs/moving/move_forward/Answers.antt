use Rattle.std.proofs.Common.{◌≡◌, ◌-◌, ◌+◌, ℕ, suc, refl, sym, subst, ap, ◌∙◌, arith}
use Rattle.gang_model.specs.Debugger.Events.{Step}
use Rattle.gang_model.specs.Debugger.Debugger.{forward, moved}
use Rattle.debug_answers.specs.Meanings.{AreStops}
use Rattle.debug_session.specs.Goals.{goal_view}
use Rattle.debug_session.proofs.Moves.{done_on, done_so, follows_on}
use Rattle.debug_session.proofs.moving.move_forward.Goals as goal

pub loop-done-init : goal.loop-done-init
loop-done-init g c =
    let none : c.args.most_steps ≡ c.args.most_steps - 0 = omega arith in (
      λ s d st are. (d, record { there = st; stops = refl; next = refl }, c.note_words.ensures s d d.stops st are, ap (λ n. forward n s (goal_view c.args.goal) d) none),
      omega arith,
    )

pub returns-in-Ends-clause-replied : goal.returns-in-Ends-clause-replied
returns-in-Ends-clause-replied g c s d st are =
    let (e, follows, first, same) = c.loop-done.invariant.0 s d st are in
    let k : ℕ = c.args.most_steps - (c.loop-done._done + 1) in
    let now : c.args.most_steps - c.loop-done._done ≡ suc (c.args.most_steps - (c.loop-done._done + 1)) = omega arith in
    let stops = subst (AreStops s c.args.stops.now.items) (sym follows.stops) are in
    done_on g.M.RecordedMachine.stands s d e c.loop-done.machine _ _ _ c.in-Ends.answer
    (same ∙ ap (λ n. forward n s (goal_view c.loop-done.left) e) now) follows (c.in-Ends.ensures.moved s e k follows.there stops first)

pub returns-clause-replied : goal.returns-clause-replied
returns-clause-replied g c s d st are =
    let (e, follows, first, same) = c.loop-done.invariant.0 s d st are in
    let none : c.args.most_steps - c.loop-done._done ≡ 0 = omega (arith, c.loop-done-test.false) in
    done_so g.M.RecordedMachine.stands s d _ _ _ _ (same ∙ ap (λ n. forward n s (goal_view c.loop-done.left) e) none) (record { follows = follows; means = refl })

pub loop-done-preserved : goal.loop-done-preserved
loop-done-preserved g c =
    let k : ℕ = c.args.most_steps - (c.loop-done._done + 1) in
    let now : c.args.most_steps - c.loop-done._done ≡ suc (c.args.most_steps - (c.loop-done._done + 1)) = omega arith in (
      λ s d st are.
          let (e, follows, first, same) = c.loop-done.invariant.0 s d st are in
          let stops = subst (AreStops s c.args.stops.now.items) (sym follows.stops) are in
          let (next, goes) = c.in-GoesOn.ensures.moved s e k follows.there stops first in (
            moved Step e,
            follows_on g.M.RecordedMachine.stands s d e (moved Step e) c.loop-done.machine _ follows next,
            c.in-GoesOn.ensures.noted s e follows.there stops first,
            same ∙ ap (λ n. forward n s (goal_view c.loop-done.left) e) now ∙ goes,
          ),
      omega (arith, c.loop-done.invariant.1, c.in-GoesOn.ensures.moves),
    )
