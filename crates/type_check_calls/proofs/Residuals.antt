-- Answers where a `?` passes a fault on.
use Rattle.std.proofs.Common.{◌≡◌, ap}
use Rattle.std.specs.Prelude.{Err}
use Rattle.gang_types.specs.declared.places.Place.{Place}
use Rattle.gang_model.specs.declared.refusals.RefusalNumber.{RefusalNumber}
use Rattle.gang_model.specs.Source.Judged.{Judged, refused, answer_of}
use Rattle.source_answers.specs.declared.fault.SourceFault.{SourceFault}
use Rattle.source_answers.specs.declared.fault.SourceFault.TheVariants.{Refused}
use Rattle.source_answers.specs.Answers.{Answers}
use Rattle.source_answers.proofs.Answered.{answers-same}

-- a refusal
pub one-refused : {A B : Type 0} (g : A → B) (number : RefusalNumber) (p : Place) (fault : SourceFault) (j : Judged B)
    → fault ≡ Refused (record { number = number; place = p }) → j ≡ refused number p → Answers g (Err fault) j
one-refused g number p fault j e h = answers-same g (Err fault) (Err (Refused (record { number = number; place = p }))) j (ap Err e) (ap answer_of h)
