use Rattle.std.proofs.Common.{◌≡◌, ◌≤◌, drop, length, min, subst, sym, take, ap, arith, ◌∙◌}
use Rattle.std.proofs.lemmas.List.{drop_min, take-append-drop, take_rest}
use Rattle.debug_traits.specs.Beginnings.{StandsAt, with_events}
use Rattle.whole_runs.specs.Notes.{AreNoted, HaveGone, noted, steps_first, steps_on}
use Rattle.whole_runs.proofs.DoneAgain.{are_rest, kept_on, noted_append}
use Rattle.whole_runs.specs.Costs.{steps_left}
use Rattle.whole_runs.proofs.redoing.redo_from.Goals as goal

pub returns-clause-redone : goal.returns-clause-redone
returns-clause-redone g c s d older inside less copy are gone =
    let stands = g.M.RecordedMachine.stands in
    let all = c.args.notes.now.pokes.items in
    let steps = c.args.notes.now.steps in
    let p = c.args.pokes in
    let place : c.min.result ≡ p = omega (arith, c.min.ensures, c.len.ensures, inside) in
    let middle = noted older (take p all) in
    let both = take-append-drop p all in
    let same : noted older all ≡ noted middle (drop p all) = ap (noted older) (sym both) ∙ noted_append older (take p all) (drop p all) in
    let rest = are_rest s older (take p all) (drop p all) (subst (λ pokes. AreNoted s older pokes) (sym both) are) in
    let left = subst (λ events. HaveGone s steps events) same gone in
    let begun = c.begin_again.ensures.moment s (with_events (steps_on c.args.done middle) 0 0 d) copy in
    let value = take_rest c.deref.result.now c.min.result ∙ ap (drop c.min.result) c.deref.ensures.value ∙ ap (λ n. drop n all) place in
    let on = c.redo_rest.ensures.redone s d middle (subst (λ pokes. c.args.done ≤ steps_first pokes steps) (sym value) less) begun
    (subst (λ pokes. AreNoted s middle pokes) (sym value) rest) (subst (λ pokes. HaveGone s steps (noted middle pokes)) (sym value) left) in
    let machine = c.redo_rest.new.machine in
    subst (λ events. StandsAt stands machine s d (steps_on steps events)) (sym same)
    (subst (λ pokes. StandsAt stands machine s d (steps_on steps (noted middle pokes))) value on)

pub returns-clause-copies : goal.returns-clause-copies
returns-clause-copies g c = kept_on g.M.BeginsAgain.can_have g.M.BeginsAgain.copies _ _ _ (
  λ words h. g.met.M.BeginsAgain.can_have_so _ _ words c.begin_again.ensures.run h,
  λ words s d h. g.met.M.BeginsAgain.copies_so _ _ words s d c.begin_again.ensures.run h,
) c.redo_rest.ensures.copies

pub returns-clause-cost : goal.returns-clause-cost
returns-clause-cost g c =
    let all = c.args.notes.now.pokes.items in
    let p = c.args.pokes in
    let place : c.min.result ≡ min p (length all) = omega (arith, c.min.ensures, c.len.ensures) in
    let value = take_rest c.deref.result.now c.min.result ∙ ap (drop c.min.result) c.deref.ensures.value ∙ ap (λ n. drop n all) place ∙ drop_min p all in
    let is = ap (λ pokes. steps_left pokes c.args.notes.now.steps c.args.done) value in
    let moved = c.redo_rest.ensures.cost in
    let begun = c.begin_again.ensures.moves in
    omega (arith, is, moved, begun)
