-- Answers for parts of a tree where out of memory is set apart.
use Rattle.std.specs.Prelude.{Result, Ok, Err, alloc_error}
use Rattle.std.specs.declared.alloc.AllocError.{AllocError}
use Rattle.gang_model.specs.declared.refusals.SourceRefusal.{SourceRefusal}
use Rattle.source_answers.specs.declared.fault.SourceFault.{SourceFault}
use Rattle.source_answers.specs.declared.fault.SourceFault.TheVariants.{Memory, Refused}

-- out of memory, set apart from the answer
abbrev pub apart : {A : Type 0} → Result A SourceFault → Result (Result A SourceRefusal) AllocError
apart (Ok a) = Ok (Ok a)
apart (Err Memory) = Err alloc_error
apart (Err (Refused fault)) = Ok (Err fault)

-- an answer as a result with out of memory among its errors
abbrev pub joined : {A : Type 0} → Result A SourceRefusal → Result A SourceFault
joined (Ok a) = Ok a
joined (Err fault) = Err (Refused fault)

-- an answer, seen through a view
abbrev pub seen : {A B : Type 0} → (A → B) → Result A SourceRefusal → Result B SourceRefusal
seen view (Ok a) = Ok (view a)
seen view (Err fault) = Err fault

-- what both parts stand for, or the fault of the first of them that has one
abbrev pub in_order : {A B : Type 0} → Result A SourceRefusal → Result B SourceRefusal → Result (A × B) SourceRefusal
in_order (Ok a) (Ok b) = Ok (a, b)
in_order (Ok a) (Err fault) = Err fault
in_order (Err fault) b = Err fault
