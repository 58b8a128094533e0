-- What a function answers for a statement that is judged, and the variables that it declares.
use Rattle.std.specs.Prelude.{◌≡◌, ◌++◌, List, Result, Ok, Err}
use Rattle.gang_model.specs.Types.Tree.{Stmt, Variable}
use Rattle.gang_model.specs.Source.Judged.{Judged, Sound, answer_of}
use Rattle.gang_model.specs.Types.Statements.{Made, made}
use Rattle.source_answers.specs.declared.fault.SourceFault.{SourceFault}
use Rattle.source_answers.specs.declared.fault.SourceFault.TheVariants.{Memory, Refused}

-- The typed statement, with the variables that the function has then beside those before; or the least fault.
abbrev pub Makes : {A : Type 0} → (A → Stmt) → Result A SourceFault → (before after : List Variable) → Judged Made → Type 0
Makes view (Ok s) before after judged = (declared : List Variable) × (after ≡ before ++ declared) × (judged ≡ Sound (made (view s) declared))
Makes view (Err Memory) before after judged = Unit {0}
Makes view (Err (Refused fault)) before after judged = answer_of judged ≡ Err fault

-- what holds unless out of memory
abbrev pub IfAnswered : {A : Type 0} → Result A SourceFault → Type 0 → Type 0
IfAnswered (Ok a) holds = holds
IfAnswered (Err Memory) holds = Unit {0}
IfAnswered (Err (Refused fault)) holds = holds
