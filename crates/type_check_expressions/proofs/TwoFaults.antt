-- The least of two faults that are looked for one after the other.
use Rattle.std.proofs.Common.{◌≡◌, Bool, ◌++◌, ap, ◌∙◌}
use Rattle.std.specs.Prelude.{Option}
use Rattle.gang_types.specs.declared.places.Place.{Place}
use Rattle.gang_model.specs.declared.refusals.RefusalNumber.{RefusalNumber}
use Rattle.gang_model.specs.declared.refusals.SourceRefusal.{SourceRefusal}
use Rattle.gang_model.specs.Source.Judged.{fault_if, least_fault, merged}
use Rattle.gang_model.proofs.JudgedLaws.{in_pair}

-- a fault that is looked for in another writing
pub one-fault : (b b' : Bool) (n : RefusalNumber) (p p' : Place) (f : Option SourceRefusal)
    → f ≡ least_fault (fault_if b n p) → b ≡ b' → p ≡ p' → f ≡ least_fault (fault_if b' n p')
one-fault b b' n p p' f h e i = h ∙ (ap (λ x. least_fault (fault_if x n p)) e ∙ ap (λ x. least_fault (fault_if b' n x)) i)

pub two-faults : (b b' : Bool) (n : RefusalNumber) (p p' : Place) (f : Option SourceRefusal) (d d' : Bool) (m : RefusalNumber) (q q' : Place) (g r : Option SourceRefusal)
    → f ≡ least_fault (fault_if b n p) → b ≡ b' → p ≡ p' → g ≡ least_fault (fault_if d m q) → d ≡ d' → q ≡ q' → r ≡ merged f g
    → r ≡ least_fault (fault_if b' n p' ++ fault_if d' m q')
two-faults b b' n p p' f d d' m q q' g r h e i k s j whole =
    in_pair (fault_if b' n p') (fault_if d' m q') f g r (one-fault b b' n p p' f h e i) (one-fault d d' m q q' g k s j) whole
