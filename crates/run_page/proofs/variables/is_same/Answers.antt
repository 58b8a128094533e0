use Rattle.std.proofs.Common.{◌≡◌, subst}
use Rattle.std.specs.Bool.{Decides}
use Rattle.std.proofs.lemmas.Bool.Decides.{Decides-eqb}
use Rattle.std.proofs.lemmas.Slice.Eq.{slice_eq-Decides}
use Rattle.run_page.proofs.Numbers.{same_sight}
use Rattle.run_page.proofs.variables.is_same.Goals as goal

pub returns : goal.returns
returns c =
    let named : Decides c.eq.result (c.as_slice.result.now ≡ c.args.named.name.now) = slice_eq-Decides Decides-eqb _ _ _ c.eq.ensures in
    same_sight c.args.variable.now c.args.depth c.args.named c.eq.result c.if-variable-depth.false (c.is_same_shown.ensures.0 c.if-not-is_same_shown.false)
    (subst (λ name. Decides c.eq.result (name ≡ c.args.named.name.now)) c.as_slice.ensures.value named)
