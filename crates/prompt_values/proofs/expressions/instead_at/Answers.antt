use Rattle.std.proofs.Common.{None, refl, sym, subst}
use Rattle.debug_traits.specs.Frames.{FindsAt}
use Rattle.prompt_values.specs.Instead.{IsInstead}
use Rattle.prompt_values.proofs.expressions.instead_at.Goals as goal

pub returns-in-Some : goal.returns-in-Some
returns-in-Some g c s d st =
    let a = c.args in
    let (v, is, shown) = subst (λ found. FindsAt s d a.depth a.name.now found) c.in-Some.is (c.find_at.ensures s d st) in
    subst (λ found. IsInstead found a.written.now s d a.depth None) (sym is) refl

pub returns-in-None : goal.returns-in-None
returns-in-None g c s d st =
    let a = c.args in
    let is = subst (λ found. FindsAt s d a.depth a.name.now found) c.in-None.is (c.find_at.ensures s d st) in
    subst (λ found. IsInstead found a.written.now s d a.depth c.value_or_none.result) (sym is) (c.value_or_none.ensures s d st)
