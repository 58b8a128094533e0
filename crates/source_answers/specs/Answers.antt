-- What a function answers for a part of a tree that is judged: what the part stands for, its least fault, or out of memory.
use Rattle.std.specs.Prelude.{◌≡◌, Option, Some, None, Result, Ok, Err}
use Rattle.gang_model.specs.declared.refusals.SourceRefusal.{SourceRefusal}
use Rattle.gang_model.specs.Source.Judged.{Judged, Sound, answer_of, lesser}
use Rattle.source_answers.specs.declared.fault.SourceFault.{SourceFault}
use Rattle.source_answers.specs.declared.fault.SourceFault.TheVariants.{Memory, Refused}

abbrev pub Answers : {A B : Type 0} → (A → B) → Result A SourceFault → Judged B → Type 0
Answers view (Ok a) judged = judged ≡ Sound (view a)
Answers view (Err Memory) judged = Unit {0}
Answers view (Err (Refused fault)) judged = answer_of judged ≡ Err fault

-- both answers, or the lesser fault; out of memory hides every fault
abbrev pub both_answers : {A B : Type 0} → Result A SourceFault → Result B SourceFault → Result (A × B) SourceFault
both_answers (Ok a) (Ok b) = Ok (a, b)
both_answers (Ok a) (Err fault) = Err fault
both_answers (Err fault) (Ok b) = Err fault
both_answers (Err Memory) (Err fault) = Err Memory
both_answers (Err (Refused first)) (Err Memory) = Err Memory
both_answers (Err (Refused first)) (Err (Refused second)) = Err (Refused (lesser first second))

-- a fault, if there is one
abbrev pub refusal_of : Option SourceRefusal → Result (Unit {0}) SourceFault
refusal_of None = Ok (record {})
refusal_of (Some fault) = Err (Refused fault)

-- two views of two parts
abbrev pub pair_view : {A B C D : Type 0} → (A → C) → (B → D) → A × B → C × D
pair_view f g p = (f p.0, g p.1)
