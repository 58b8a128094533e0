-- Typed functions, collected one after another.
use Rattle.std.specs.Prelude.{◌≡◌, List, [], ◌∷◌, ◌++◌, Option, Some, None, Result, Ok, Err}
use Rattle.gang_model.specs.declared.refusals.SourceRefusal.{SourceRefusal}
use Rattle.gang_model.specs.Source.Judged.{merged}
use Rattle.source_answers.specs.declared.fault.SourceFault.{SourceFault}
use Rattle.source_answers.specs.declared.fault.SourceFault.TheVariants.{Memory, Refused}
use Rattle.typed_tree.specs.declared.program.Function.{Function}

-- one more function comes after the others, or its fault is merged with theirs; it is not out of memory
abbrev pub Adds : Result Function SourceFault → (before after : List Function) → (fault more : Option SourceRefusal) → Type 0
Adds (Ok f) before after fault more = (after ≡ before ++ f ∷ []) × (more ≡ fault)
Adds (Err Memory) before after fault more = ⊥
Adds (Err (Refused refusal)) before after fault more = (after ≡ before) × (more ≡ merged fault (Some refusal))

-- what is made, unless there is a fault
abbrev pub unless_fault : {A : Type 0} → Option SourceRefusal → A → Result A SourceFault
unless_fault None made = Ok made
unless_fault (Some fault) made = Err (Refused fault)
