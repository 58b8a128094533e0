use Rattle.std.proofs.Common.{◌≡◌, ◌<◌, ◌≤◌, ◌+◌, true, false, length, sym, subst, ◌∙◌, arith}
use Rattle.prompt_lines.specs.Conditions.{is_if}
use Rattle.prompt_lines.proofs.Places.{if_inside, passed, reached}
use Rattle.prompt_lines.proofs.conditions.first_if.Goals as goal

pub returns-then-is_if-clause-place : goal.returns-then-is_if-clause-place
returns-then-is_if-clause-place c =
    let text = c.args.text.now in
    let l = c.loop-place in
    let inside : l.place < length text = omega (arith, c.loop-place-test.true) in
    let here : is_if text l.place ≡ true = sym c.is_if.ensures ∙ c.if-is_if.true in
    sym (l.invariant ∙ reached (is_if text) (length text) l.place inside here)

pub returns-then-is_if-clause-within : goal.returns-then-is_if-clause-within
returns-then-is_if-clause-within c place found =
    let text = c.args.text.now in
    let l = c.loop-place in
    let here : is_if text l.place ≡ true = sym c.is_if.ensures ∙ c.if-is_if.true in
    let same : l.place ≡ place = cc found in
    subst (λ p. p + 2 ≤ length text) same (if_inside text l.place here)

pub loop-place-preserved : goal.loop-place-preserved
loop-place-preserved c =
    let text = c.args.text.now in
    let l = c.loop-place in
    let inside : l.place < length text = omega (arith, c.loop-place-test.true) in
    let none : is_if text l.place ≡ false = sym c.is_if.ensures ∙ c.if-is_if.false in
    l.invariant ∙ passed (is_if text) (length text) l.place inside none
