use Rattle.std.proofs.Common.{◌≡◌, ◌-◌, ◌+◌, ℕ, suc, refl, sym, subst, ap, ◌∙◌, arith}
use Rattle.gang_model.specs.Debugger.Debugger.{backward, stepped_back}
use Rattle.debug_answers.specs.Meanings.{AreStops}
use Rattle.debug_session.specs.Goals.{goal_view}
use Rattle.debug_session.specs.Sessions.{bare}
use Rattle.debug_session.proofs.Moves.{done_on, done_so, follows_on}
use Rattle.debug_session.proofs.moving.move_backward.Goals as goal

pub loop-done-init : goal.loop-done-init
loop-done-init g c =
    let none : c.kept-done-end.result ≡ c.kept-done-end.result - 0 = omega arith in (
      λ s d st are some. (d, record { there = st; stops = refl; next = refl }, some, c.note_words.ensures s d d.stops st are, ap (λ n. backward n s (goal_view c.args.goal) d) none),
      λ some. (some, refl),
    )

pub returns-in-Ends-clause-replied : goal.returns-in-Ends-clause-replied
returns-in-Ends-clause-replied g c s d st are some =
    let (e, follows, more, first, same) = c.loop-done.invariant.0 s d st are some in
    let kept = c.kept-done-end.result in
    let k : ℕ = kept - (c.loop-done._done + 1) in
    let now : kept - c.loop-done._done ≡ suc (kept - (c.loop-done._done + 1)) = omega (arith, c.loop-done-test.true) in
    let stops = subst (AreStops s c.args.stops.now.items) (sym follows.stops) are in
    done_on g.M.RecordedMachine.stands s d e c.loop-done.machine _ _ _ c.in-Ends.answer
    (sym (ap (λ n. backward n s (goal_view c.args.goal) d) (c.kept-done-end.ensures.debugger s (bare d) st)) ∙ same ∙ ap (λ n. backward n s (goal_view c.loop-done.left) e) now)
    follows (c.in-Ends.ensures.moved s e k follows.there stops more first)

pub returns-clause-replied : goal.returns-clause-replied
returns-clause-replied g c s d st are some =
    let (e, follows, more, first, same) = c.loop-done.invariant.0 s d st are some in
    let none : c.kept-done-end.result - c.loop-done._done ≡ 0 = omega (arith, c.loop-done-test.false) in
    done_so g.M.RecordedMachine.stands s d _ _ _ _
    (sym (ap (λ n. backward n s (goal_view c.args.goal) d) (c.kept-done-end.ensures.debugger s (bare d) st)) ∙ same ∙ ap (λ n. backward n s (goal_view c.loop-done.left) e) none)
    (record { follows = follows; means = refl })

pub loop-done-preserved : goal.loop-done-preserved
loop-done-preserved g c =
    let kept = c.kept-done-end.result in
    let k : ℕ = kept - (c.loop-done._done + 1) in
    let now : kept - c.loop-done._done ≡ suc (kept - (c.loop-done._done + 1)) = omega (arith, c.loop-done-test.true) in (
      λ s d st are some.
          let (e, follows, more, first, same) = c.loop-done.invariant.0 s d st are some in
          let stops = subst (AreStops s c.args.stops.now.items) (sym follows.stops) are in
          let (next, goes) = c.in-GoesOn.ensures.moved s e k follows.there stops more first in (
            stepped_back e,
            follows_on g.M.RecordedMachine.stands s d e (stepped_back e) c.loop-done.machine _ follows next,
            c.in-GoesOn.ensures.more s e follows.there more,
            c.in-GoesOn.ensures.noted s e follows.there stops more first,
            same ∙ ap (λ n. backward n s (goal_view c.loop-done.left) e) now ∙ goes,
          ),
      λ some.
          let (more, before) = c.loop-done.invariant.1 some in
          (c.in-GoesOn.ensures.kept, c.in-GoesOn.ensures.moves more ∙ before),
    )
