use Rattle.std.proofs.Common.{◌≡◌, Bool, true, false, not, refl, sym, ap, true≢false, Option, Some, None, is_some}
use Rattle.std.specs.Prelude.{is_none}
use Rattle.type_check_expressions.proofs.TwoFaults.{two-faults}
use Rattle.type_check_expressions.proofs.casts.cast_fault.Goals as goal

none_by : {A : Type 0} (asked : Option A) (r : Bool) → is_some asked ≡ not r → r ≡ is_none asked
none_by (Some x) true e = absurd (true≢false e)
none_by (Some x) false e = refl
none_by None true e = refl
none_by None false e = absurd (true≢false (sym e))

pub returns : goal.returns
returns c =
    two-faults _ _ _ _ _ c.fault_if-to_void.result _ _ _ _ _ c.fault_if-to_uniform.result c.least.result
    c.fault_if-to_void.ensures (none_by c.args.value_type c.is_none.result c.is_none.ensures) refl c.fault_if-to_uniform.ensures (ap not c.may_become.ensures) refl c.least.ensures
