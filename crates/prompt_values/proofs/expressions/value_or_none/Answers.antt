use Rattle.std.proofs.Common.{subst}
use Rattle.std.specs.Prelude.{IfErr, IfOk}
use Rattle.frame_values.specs.Values.{HasNoValue, IsValueOf}
use Rattle.prompt_values.proofs.expressions.value_or_none.Goals as goal

pub returns-in-Ok : goal.returns-in-Ok
returns-in-Ok g c s d st =
    let a = c.args in
    subst (λ r. IfOk r (IsValueOf a.written.now s d a.depth)) c.in-Ok.is (c.value_of_expression.ensures.value s d st)

pub returns-in-Err : goal.returns-in-Err
returns-in-Err g c s d st =
    let a = c.args in
    (_, subst (λ r. IfErr r (HasNoValue a.written.now s d a.depth)) c.in-Err.is (c.value_of_expression.ensures.none s d st))
