use Rattle.std.proofs.Common.{inl, inr, subst}
use Rattle.std.specs.Prelude.{IfOk}
use Rattle.prompt_values.specs.Returned.{IsTold}
use Rattle.prompt_values.proofs.returned.tell_result.Goals as goal

pub returns-in-Ok : goal.returns-in-Ok
returns-in-Ok g c s d st deep =
    let a = c.args in
    let told = subst (λ r. IfOk r (IsTold s d a.depth a.awaited a.scene.layout)) c.in-Ok.is (c.told_result.ensures s d st) in
    inr (c.in-Ok.told, subst (λ n. IsTold s d n a.awaited a.scene.layout c.in-Ok.told) deep told, c.put_if_told.ensures)

pub returns-in-Err : goal.returns-in-Err
returns-in-Err g c s d st deep = inl c.put.ensures
