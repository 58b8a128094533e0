-- What is answered for a value that is returned where there is no result.
use Rattle.std.specs.Prelude.{Result, Ok, Err}
use Rattle.gang_types.specs.declared.places.Place.{Place}
use Rattle.gang_model.specs.declared.refusals.RefusalNumber.TheVariants.{S8}
use Rattle.source_answers.specs.declared.fault.SourceFault.{SourceFault}
use Rattle.source_answers.specs.declared.fault.SourceFault.TheVariants.{Refused}

-- S8 at the value, unless it has a fault of its own
abbrev pub in_void : {A : Type 0} → Place → Result A SourceFault → Result A SourceFault
in_void p (Ok a) = Err (Refused (record { number = S8; place = p }))
in_void p (Err fault) = Err fault
