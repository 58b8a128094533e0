-- Statements in the forms in which they lie in memory, and those of one step.
use Rattle.std.proofs.Common.{◌≡◌, ℕ, ◌+◌, List, [], length, refl, sym, ap, subst, ◌∙◌, append-nil}
use Rattle.std.specs.Prelude.{Result, Ok, Err, IfOk, OnOk}
use Rattle.std.specs.declared.alloc.AllocError.{AllocError}
use Rattle.std.proofs.lemmas.Result.{IfOk-weaker, on_ok_weaker}
use Rattle.gang_model.specs.declared.refusals.SourceRefusal.{SourceRefusal}
use Rattle.gang_model.specs.Types.Tree as tree
use Rattle.gang_model.specs.Types.Tree.{Variable}
use Rattle.gang_model.specs.Source.Parsed.{ParsedStmt}
use Rattle.gang_model.specs.Running.Numbering.{steps_in}
use Rattle.gang_model.specs.Names.Scope.{locals_in}
use Rattle.gang_model.specs.Types.Calls.{Context}
use Rattle.gang_model.specs.Types.Typing.{Scope}
use Rattle.gang_model.specs.Source.Judged.{Judged, ◌>>=◌, answer_of}
use Rattle.gang_model.specs.Source.Judged as definitions
use Rattle.gang_model.proofs.JudgedLaws as laws
use Rattle.gang_model.specs.Types.Statements.{Made, made, alone, statement}
use Rattle.source_answers.specs.declared.fault.SourceFault.{SourceFault}
use Rattle.source_answers.specs.declared.fault.SourceFault.TheVariants.{Memory, Refused}
use Rattle.typed_tree.specs.Boxes.{BoxedStmt, boxed_stmt_view}
use Rattle.source_answers.specs.Answers.{Answers}
use Rattle.type_check_parts.specs.Makes.{IfAnswered}
use Rattle.source_answers.specs.Apart.{apart, seen}
use Rattle.type_check_parts.specs.Typed.{IsTyped}
use Rattle.type_check_parts.proofs.Judging.{answers-apart}

-- the same statement, said in another way
pub typed-as : (answer : Result BoxedStmt SourceRefusal) (s t : ParsedStmt) (context : Context) (entries : Scope) (k step : ℕ) (before after : List Variable) → s ≡ t
    → IsTyped boxed_stmt_view answer (statement t context entries k step) before after (locals_in t) → IsTyped boxed_stmt_view answer (statement s context entries k step) before after (locals_in s)
typed-as answer s t context entries k step before after e h = subst (λ x. IsTyped boxed_stmt_view answer (statement x context entries k step) before after (locals_in x)) (sym e) h

pub typed-form : {E : Type 0} (result : Result (Result BoxedStmt SourceRefusal) E) (s t : ParsedStmt) (context : Context) (entries : Scope) (k step : ℕ) (before after : List Variable) → s ≡ t
    → IfOk result (λ answer. IsTyped boxed_stmt_view answer (statement t context entries k step) before after (locals_in t))
    → IfOk result (λ answer. IsTyped boxed_stmt_view answer (statement s context entries k step) before after (locals_in s))
typed-form result s t context entries k step before after e h = IfOk-weaker result _ _ (λ answer x. typed-as answer s t context entries k step before after e x) h

pub steps-form : {A E : Type 0} (result : Result A E) (s t : ParsedStmt) (step step' : ℕ) → s ≡ t → OnOk result (step' ≡ step + steps_in t) → OnOk result (step' ≡ step + steps_in s)
steps-form result s t step step' e h = on_ok_weaker result (λ x. x ∙ sym (ap (λ y. step + steps_in y) e)) h

-- the same number of variables, said in another way
pub counted-as : (answer : Result BoxedStmt SourceRefusal) (j : Judged Made) (before after : List Variable) (m n : ℕ) → m ≡ n → IsTyped boxed_stmt_view answer j before after m → IsTyped boxed_stmt_view answer j before after n
counted-as answer j before after m n e h = subst (λ x. IsTyped boxed_stmt_view answer j before after x) e h

-- the same variables, said in another way
pub ends-at : (answer : Result BoxedStmt SourceRefusal) (j : Judged Made) (before after after' : List Variable) (n : ℕ) → after' ≡ after → IsTyped boxed_stmt_view answer j before after n → IsTyped boxed_stmt_view answer j before after' n
ends-at answer j before after after' n e h = subst (λ l. IsTyped boxed_stmt_view answer j before l n) (sym e) h

-- what holds whatever is answered
pub in-any-case : {A E P : Type 0} (result : Result A E) → P → OnOk result P
in-any-case (Ok a) p = p
in-any-case (Err e) p = tt

-- what holds unless out of memory
pub unless-memory : {A P : Type 0} (result : Result A SourceFault) → P → IfAnswered result P
unless-memory (Ok a) p = p
unless-memory (Err Memory) p = tt
unless-memory (Err (Refused fault)) p = p

alone_seen : {A : Type 0} (view : A → tree.Stmt) (answer : Result A SourceRefusal)
    → definitions.then_answer (seen view answer) (λ s. answer_of (alone s)) ≡ seen (λ s. made (view s) []) answer
alone_seen view (Ok a) = refl
alone_seen view (Err fault) = refl

-- a statement of one step that declares nothing
pub typed-alone : {A : Type 0} (view : A → tree.Stmt) (result : Result A SourceFault) (answer : Result A SourceRefusal) (j : Judged tree.Stmt) (before : List Variable)
    → Answers view result j → Ok answer ≡ apart result → IsTyped view answer (j >>= (λ s. alone s)) before before 0
typed-alone view result answer j before h e = record {
  declared = [];
  variables = sym (append-nil before);
  counted = refl;
  answered = laws.answer_of-then j (λ s. alone s) ∙ (ap (λ x. definitions.then_answer x (λ s. answer_of (alone s))) (answers-apart view result answer j h e) ∙ alone_seen view answer);
}

-- a statement of one step
pub single-step : (result : Result (Result BoxedStmt SourceRefusal) AllocError) (part : Result BoxedStmt SourceFault) (j : Judged tree.Stmt) (s t : ParsedStmt) (context : Context) (entries : Scope)
    (before : List Variable) (step : ℕ)
    → s ≡ t → (j >>= (λ x. alone x)) ≡ statement t context entries (length before) step → locals_in t ≡ 0 → Answers boxed_stmt_view part j → OnOk result (result ≡ apart part)
    → IfOk result (λ answer. IsTyped boxed_stmt_view answer (statement s context entries (length before) step) before before (locals_in s))
single-step (Ok answer) part j s t context entries before step e is none a r =
    typed-as answer s t context entries (length before) step before before e
    (subst (λ x. IsTyped boxed_stmt_view answer x before before (locals_in t)) is (subst (λ n. IsTyped boxed_stmt_view answer (j >>= (λ x. alone x)) before before n) (sym none) (typed-alone boxed_stmt_view part answer j before a r)))
single-step (Err fault) part j s t context entries before step e is none a r = tt
