-- A declaration, whose name and value are judged each by itself.
use Rattle.std.proofs.Common.{◌≡◌, ℕ, Bool, true, false, not, List, [], ◌∷◌, ◌++◌, length, refl, sym, ap, subst, ◌∙◌}
use Rattle.std.specs.Prelude.{Option, Result, Ok, Err, is_some}
use Rattle.gang_types.specs.declared.places.Place.{Place}
use Rattle.gang_types.specs.declared.places.VarId.TheVariants.{Local}
use Rattle.gang_model.specs.declared.forms.Spec.{Spec}
use Rattle.gang_model.specs.declared.refusals.RefusalNumber.TheVariants.{S8}
use Rattle.gang_model.specs.declared.refusals.SourceRefusal.{SourceRefusal}
use Rattle.gang_model.specs.Types.Tree as tree
use Rattle.gang_model.specs.Types.Tree.{Variable}
use Rattle.gang_model.specs.Source.Parsed.{Name, ParsedExpr, ParsedDeclare}
use Rattle.gang_model.specs.Source.Judged.{Judged, Sound, both, ◌>>=◌, answer_of, unless, fault_if, least_fault}
use Rattle.gang_model.specs.Types.Calls.{Context}
use Rattle.gang_model.specs.Types.Typing.{Entry, Scope, declared, var_of}
use Rattle.gang_model.specs.Types.TypeFaults.{variable_faults}
use Rattle.gang_model.specs.Types.Statements.{made, declaration, statement}
use Rattle.gang_model.specs.Source.Judged as definitions
use Rattle.gang_model.proofs.JudgedLaws as laws
use Rattle.source_answers.specs.declared.fault.SourceFault.{SourceFault}
use Rattle.source_answers.specs.declared.fault.SourceFault.TheVariants.{Memory, Refused}
use Rattle.typed_tree.specs.declared.expressions.Var.{Var}
use Rattle.typed_tree.specs.Boxes.{BoxedStmt, boxed_stmt_view}
use Rattle.typed_tree.specs.Views.{var_view}
use Rattle.source_answers.specs.Answers.{Answers, both_answers, refusal_of, pair_view}
use Rattle.type_check_scopes.specs.declared.entries.Declared.{Declared}
use Rattle.type_check_scopes.specs.Entries.{declared_view}
use Rattle.source_answers.proofs.Answered.{answers-both, answers-refusal}
use Rattle.source_answers.specs.Apart.{apart, seen}
use Rattle.type_check_parts.specs.Typed.{IsTyped}
use Rattle.type_check_parts.specs.Beside.{second_part}
use Rattle.type_check_parts.proofs.Named.{declared-named}

-- a statement beside what it declares
second_seen : (n : Entry) (parts : Result (Unit {0} × BoxedStmt) SourceFault) (answer : Result BoxedStmt SourceRefusal) (j : Judged (Entry × tree.Stmt)) (variables : List Variable)
    → Answers (pair_view (λ (none : Unit {0}). n) boxed_stmt_view) parts j → Ok answer ≡ apart (second_part parts)
    → answer_of (j >>= (λ both. Sound (made both.1 variables))) ≡ seen (λ s. made (boxed_stmt_view s) variables) answer
second_seen n (Ok parts) answer j variables h e =
    let same : answer ≡ Ok parts.1 = cc in
    ap (λ x. answer_of (x >>= (λ both. Sound (made both.1 variables)))) h ∙ ap (seen (λ s. made (boxed_stmt_view s) variables)) (sym same)
second_seen n (Err Memory) answer j variables h e =
    let none : ⊥ = cc in
    absurd none
second_seen n (Err (Refused fault)) answer j variables h e =
    let same : answer ≡ Err fault = cc in
    laws.answer_of-then j (λ both. Sound (made both.1 variables))
    ∙ (ap (λ x. definitions.then_answer x (λ both. answer_of (Sound (made both.1 variables)))) h ∙ ap (seen (λ s. made (boxed_stmt_view s) variables)) (sym same))

-- whether there is no type, from whether there is one
missing : (is_there is_missing : Bool) → is_there ≡ not is_missing → is_missing ≡ not is_there
missing is_there true e = sym (ap not e)
missing is_there false e = sym (ap not e)

-- what is declared under its name, as the function's next variable
pub declared-next_variable : (name : Name) (d : Declared) (spec : Spec) (number : ℕ) (before : List Variable)
    → declared_view [] d ≡ declared [] (Local number) spec false false → number ≡ length before
    → declared_view name d ≡ declared name (Local (length before)) spec false false
declared-next_variable name d spec number before h k = declared-named name d (Local number) spec false false h ∙ ap (λ i. declared name (Local i) spec false false) k

pub declared-typed : (name : Name) (p at : Place) (spec : Spec) (e : Option ParsedExpr) (context : Context) (entries : Scope) (before after : List Variable) (step : ℕ)
    (d : Declared) (number : ℕ) (v : Var) (is_missing : Bool) (found : Option SourceRefusal) (in_name : Result (Unit {0}) SourceFault) (stmt whole : Result BoxedStmt SourceFault) (answer : Result BoxedStmt SourceRefusal)
    → declared_view [] d ≡ declared [] (Local number) spec false false → number ≡ length before
    → is_some spec.value_type ≡ not is_missing → found ≡ least_fault (fault_if is_missing S8 at) → in_name ≡ refusal_of found
    → var_view v ≡ var_of (declared_view [] d).variable → Answers boxed_stmt_view stmt (declaration context entries (var_view v) e step)
    → whole ≡ second_part (both_answers in_name stmt) → Ok answer ≡ apart whole → after ≡ before ++ (declared_view name d).variable ∷ []
    → IsTyped boxed_stmt_view answer (statement (ParsedDeclare p spec at name e) context entries (length before) step) before after 1
declared-typed name p at spec e context entries before after step d number v is_missing found in_name stmt whole answer h k m f r vh a w o l =
    let n = declared name (Local (length before)) spec false false in
    let is : declared_view name d ≡ n = declared-next_variable name d spec number before h k in
    let faults = variable_faults at spec in
    let named = answers-refusal found in_name faults n r (f ∙ ap (λ b. least_fault (fault_if b S8 at)) (missing (is_some spec.value_type) is_missing m)) in
    let valued = subst (λ x. Answers boxed_stmt_view stmt (declaration context entries x e step)) (vh ∙ ap (λ (y : Entry). var_of y.variable) is) a in
    let value_of = declaration context entries (var_of n.variable) e step in
    record {
      declared = n.variable ∷ [];
      variables = l ∙ ap (λ (y : Entry). before ++ y.variable ∷ []) is;
      counted = refl;
      answered = second_seen n (both_answers in_name stmt) answer (both (unless faults n) value_of) (n.variable ∷ [])
          (answers-both (λ (none : Unit {0}). n) boxed_stmt_view in_name stmt (unless faults n) value_of named valued) (o ∙ ap apart w);
    }
