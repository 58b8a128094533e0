-- What is known of an answer where out of memory is set apart.
use Rattle.std.proofs.Common.{◌≡◌, sym, ap, ◌∙◌}
use Rattle.std.specs.Prelude.{Result, Ok, Err}
use Rattle.gang_model.specs.declared.refusals.SourceRefusal.{SourceRefusal}
use Rattle.gang_model.specs.Source.Judged.{Judged, answer_of}
use Rattle.source_answers.specs.declared.fault.SourceFault.{SourceFault}
use Rattle.source_answers.specs.declared.fault.SourceFault.TheVariants.{Memory, Refused}
use Rattle.source_answers.specs.Answers.{Answers}
use Rattle.source_answers.specs.Apart.{apart, seen}

-- what is left of an answer where out of memory is set apart
pub answers-apart : {A B : Type 0} (view : A → B) (result : Result A SourceFault) (answer : Result A SourceRefusal) (j : Judged B)
    → Answers view result j → Ok answer ≡ apart result → answer_of j ≡ seen view answer
answers-apart view (Ok a) answer j h e =
    let same : answer ≡ Ok a = cc in
    ap answer_of h ∙ ap (seen view) (sym same)
answers-apart view (Err Memory) answer j h e =
    let none : ⊥ = cc in
    absurd none
answers-apart view (Err (Refused fault)) answer j h e =
    let same : answer ≡ Err fault = cc in
    h ∙ sym (ap (seen view) same)
