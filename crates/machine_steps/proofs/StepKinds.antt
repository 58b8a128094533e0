-- Which kind of step a code is that is none of the others.
use Rattle.std.proofs.Common.{◌≡◌, refl, ℕ, Vec, Global}
use Rattle.gang_types.specs.declared.places.VarId.{VarId}
use Rattle.typed_tree.specs.declared.expressions.Var.{Var}
use Rattle.typed_tree.specs.declared.statements.ResultFor.{ResultFor}
use Rattle.codegen.specs.declared.code.ArgCode.{ArgCode}
use Rattle.codegen.specs.declared.code.Change.{Change}
use Rattle.codegen.specs.declared.code.FormCode.{FormCode}
use Rattle.codegen.specs.declared.code.IndexCode.{IndexCode}
use Rattle.codegen.specs.declared.code.SegmentCode.{SegmentCode}
use Rattle.codegen.specs.declared.code.StepCode.{StepCode}
use Rattle.codegen.specs.declared.code.StepCode.TheVariants as code
use Rattle.machine_steps.specs.Stepping.{IsPacked, IsWrite}

-- what no test, move, form or call is writes
pub writes_else : (step : StepCode)
    → ((test : _) (next : ℕ) → step ≡ code.Check test next → ⊥)
    → ((value : _) (next : ℕ) → step ≡ code.Return value next → ⊥)
    → ((next : ℕ) → step ≡ code.Go next → ⊥)
    → ((test : _) (yes' : ℕ) (no' : ℕ) → step ≡ code.Branch test yes' no' → ⊥)
    → ((selector : _) (segments : Vec SegmentCode Global) (next : ℕ) → step ≡ code.Choose selector segments next → ⊥)
    → ((form : FormCode) (rounds : ℕ) (next : ℕ) → step ≡ code.Begin form rounds next → ⊥)
    → ((form : IndexCode) (body : ℕ) → step ≡ code.Round form body → ⊥)
    → ((function : ℕ) (args : Vec ArgCode Global) (result_for : ResultFor) (next : ℕ) → step ≡ code.Enter function args result_for next → ⊥)
    → IsWrite step
writes_else (code.Check test next) h _ _ _ _ _ _ _ = absurd (h test next refl)
writes_else (code.Return value next) _ h _ _ _ _ _ _ = absurd (h value next refl)
writes_else (code.Go next) _ _ h _ _ _ _ _ = absurd (h next refl)
writes_else (code.Branch test yes' no') _ _ _ h _ _ _ _ = absurd (h test yes' no' refl)
writes_else (code.Choose selector segments next) _ _ _ _ h _ _ _ = absurd (h selector segments next refl)
writes_else (code.Begin form rounds next) _ _ _ _ _ h _ _ = absurd (h form rounds next refl)
writes_else (code.Round form body) _ _ _ _ _ _ h _ = absurd (h form body refl)
writes_else (code.Enter function args result_for next) _ _ _ _ _ _ _ h = absurd (h function args result_for next refl)
writes_else (code.Declare variable value next) _ _ _ _ _ _ _ _ = tt
writes_else (code.Assign variable value next) _ _ _ _ _ _ _ _ = tt
writes_else (code.Change variable change value next) _ _ _ _ _ _ _ _ = tt
writes_else (code.AssignElement array index value next) _ _ _ _ _ _ _ _ = tt
writes_else (code.ChangeElement array index change value next) _ _ _ _ _ _ _ _ = tt
writes_else (code.PackedStore array from value result_for next) _ _ _ _ _ _ _ _ = tt
writes_else (code.PackedLoad array from into result_for next) _ _ _ _ _ _ _ _ = tt

-- what writes and is none of these is packed
pub packed_else : (step : StepCode) → IsWrite step
    → ((variable : Var) (value : _) (next : ℕ) → step ≡ code.Declare variable value next → ⊥)
    → ((variable : Var) (value : _) (next : ℕ) → step ≡ code.Assign variable value next → ⊥)
    → ((variable : Var) (change : Change) (value : _) (next : ℕ) → step ≡ code.Change variable change value next → ⊥)
    → ((array : VarId) (index : _) (value : _) (next : ℕ) → step ≡ code.AssignElement array index value next → ⊥)
    → ((array : VarId) (index : _) (change : Change) (value : _) (next : ℕ) → step ≡ code.ChangeElement array index change value next → ⊥)
    → IsPacked step
packed_else (code.Declare variable value next) writes h _ _ _ _ = absurd (h variable value next refl)
packed_else (code.Assign variable value next) writes _ h _ _ _ = absurd (h variable value next refl)
packed_else (code.Change variable change value next) writes _ _ h _ _ = absurd (h variable change value next refl)
packed_else (code.AssignElement array index value next) writes _ _ _ h _ = absurd (h array index value next refl)
packed_else (code.ChangeElement array index change value next) writes _ _ _ _ h = absurd (h array index change value next refl)
packed_else (code.PackedStore array from value result_for next) writes _ _ _ _ _ = tt
packed_else (code.PackedLoad array from into result_for next) writes _ _ _ _ _ = tt
packed_else (code.Check test next) writes _ _ _ _ _ = absurd writes
packed_else (code.Return value next) writes _ _ _ _ _ = absurd writes
packed_else (code.Go next) writes _ _ _ _ _ = absurd writes
packed_else (code.Branch test yes' no') writes _ _ _ _ _ = absurd writes
packed_else (code.Choose selector segments next) writes _ _ _ _ _ = absurd writes
packed_else (code.Begin form rounds next) writes _ _ _ _ _ = absurd writes
packed_else (code.Round form body) writes _ _ _ _ _ = absurd writes
packed_else (code.Enter function args result_for next) writes _ _ _ _ _ = absurd writes

-- no packed step is none of the two
pub no_other : (step : StepCode) → IsPacked step
    → ((array : VarId) (from : _) (value : _) (result_for : ResultFor) (next : ℕ) → step ≡ code.PackedStore array from value result_for next → ⊥)
    → ((array : VarId) (from : _) (into : Var) (result_for : ResultFor) (next : ℕ) → step ≡ code.PackedLoad array from into result_for next → ⊥)
    → ⊥
no_other (code.PackedStore array from value result_for next) packed h _ = absurd (h array from value result_for next refl)
no_other (code.PackedLoad array from into result_for next) packed _ h = absurd (h array from into result_for next refl)
no_other (code.Declare variable value next) packed _ _ = absurd packed
no_other (code.Assign variable value next) packed _ _ = absurd packed
no_other (code.Change variable change value next) packed _ _ = absurd packed
no_other (code.AssignElement array index value next) packed _ _ = absurd packed
no_other (code.ChangeElement array index change value next) packed _ _ = absurd packed
no_other (code.Check test next) packed _ _ = absurd packed
no_other (code.Return value next) packed _ _ = absurd packed
no_other (code.Go next) packed _ _ = absurd packed
no_other (code.Branch test yes' no') packed _ _ = absurd packed
no_other (code.Choose selector segments next) packed _ _ = absurd packed
no_other (code.Begin form rounds next) packed _ _ = absurd packed
no_other (code.Round form body) packed _ _ = absurd packed
no_other (code.Enter function args result_for next) packed _ _ = absurd packed
