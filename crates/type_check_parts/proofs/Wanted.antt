-- A target and the value for it, which are judged each by itself.
use Rattle.std.proofs.Common.{◌≡◌, sym, ap, subst}
use Rattle.std.specs.Prelude.{Result, Ok, Err}
use Rattle.std.specs.Result.{IsErrAnd}
use Rattle.gang_types.specs.declared.types.IntType.{IntType}
use Rattle.gang_types.specs.declared.types.Rate.{Rate}
use Rattle.gang_model.specs.Types.Tree as tree
use Rattle.gang_model.specs.Source.Judged.{Judged, Sound, Faulty, both, ◌>>=◌}
use Rattle.gang_model.specs.Types.Statements as model
use Rattle.gang_model.specs.Types.Statements.{assigned_type, rate_of, variable_of}
use Rattle.source_answers.specs.declared.fault.SourceFault.{SourceFault}
use Rattle.source_answers.specs.declared.fault.SourceFault.TheVariants.{Memory, Refused}
use Rattle.typed_tree.specs.declared.expressions.Var.{Var}
use Rattle.typed_tree.specs.Views.{var_view}
use Rattle.source_answers.specs.Answers.{Answers, both_answers, pair_view}
use Rattle.source_answers.proofs.Answered.{answers-both, answers-refused, answers-same, answers-then}
use Rattle.type_check_parts.specs.declared.targets.Aimed.{Aimed}
use Rattle.type_check_parts.specs.Beside.{second_part}
use Rattle.type_check_parts.specs.Typed.{aimed_view}
use Rattle.type_check_parts.specs.Changes.{wanted, wanted_variable}
use Rattle.type_check_expressions.proofs.Residuals.{inside-refused}

pub wanted-both : {A B : Type 0} (view : A → B) (target : Result Aimed SourceFault) (j : Judged model.Aimed) (value : Result A SourceFault) (asked : IntType × Rate) (k : IntType → Rate → Judged B)
    → Answers aimed_view target j → asked ≡ wanted target → Answers view value (k asked.0 asked.1)
    → Answers (pair_view aimed_view view) (both_answers target value) (both j (k (assigned_type j) (rate_of j)))
wanted-both view (Ok a) j value asked k h e v =
    answers-both aimed_view view (Ok a) value j (k (assigned_type j) (rate_of j)) h
    (subst (λ x. Answers view value (k (assigned_type x) (rate_of x))) (sym h) (subst (λ (p : IntType × Rate). Answers view value (k p.0 p.1)) e v))
wanted-both view (Err Memory) j (Ok b) asked k h e v = tt
wanted-both view (Err Memory) j (Err later) asked k h e v = tt
wanted-both view (Err (Refused fault)) (Sound x) value asked k h e v = let none : ⊥ = cc in absurd none
wanted-both view (Err (Refused fault)) (Faulty first others) value asked k h e v =
    answers-both aimed_view view (Err (Refused fault)) value (Faulty first others) (k (assigned_type (Faulty first others)) (rate_of (Faulty first others))) h
    (subst (λ (p : IntType × Rate). Answers view value (k p.0 p.1)) e v)

-- a fault in the target or in the value
pub wanted-refused : {A B C D : Type 0} (view : A → B) (v : C → D) (target : Result Aimed SourceFault) (j : Judged model.Aimed) (value : Result A SourceFault) (asked : IntType × Rate)
    (k : IntType → Rate → Judged B) (next : model.Aimed × B → Judged D) (fault : SourceFault) (result : Result C SourceFault)
    → IsErrAnd result (λ y. y ≡ fault) → Err fault ≡ both_answers target value → Answers aimed_view target j → asked ≡ wanted target → Answers view value (k asked.0 asked.1)
    → Answers v result (both j (k (assigned_type j) (rate_of j)) >>= next)
wanted-refused view v target j value asked k next fault result e h a w b =
    inside-refused (pair_view aimed_view view) v fault result (both j (k (assigned_type j) (rate_of j))) next e
    (answers-same (pair_view aimed_view view) (Err fault) (both_answers target value) (both j (k (assigned_type j) (rate_of j))) h (wanted-both view target j value asked k a w b))

-- a sound target with a sound value
pub wanted-sound : {A B C D : Type 0} (view : A → B) (v : C → D) (target : Result Aimed SourceFault) (j : Judged model.Aimed) (value : Result A SourceFault) (asked : IntType × Rate)
    (k : IntType → Rate → Judged B) (next : model.Aimed × B → Judged D) (x : Aimed) (y : A) (result : Result C SourceFault)
    → Ok (x, y) ≡ both_answers target value → Answers aimed_view target j → asked ≡ wanted target → Answers view value (k asked.0 asked.1)
    → Answers v result (next (aimed_view x, view y))
    → Answers v result (both j (k (assigned_type j) (rate_of j)) >>= next)
wanted-sound view v target j value asked k next x y result h a w b i =
    answers-then v result (both j (k (assigned_type j) (rate_of j))) (aimed_view x, view y) next
    (answers-same (pair_view aimed_view view) (Ok (x, y)) (both_answers target value) (both j (k (assigned_type j) (rate_of j))) h (wanted-both view target j value asked k a w b)) i

-- what a sound target with a sound value stands for
pub wanted-stands : {A B D : Type 0} (view : A → B) (target : Result Aimed SourceFault) (j : Judged model.Aimed) (value : Result A SourceFault) (asked : IntType × Rate)
    (k : IntType → Rate → Judged B) (next : model.Aimed × B → Judged D) (x : Aimed) (y : A)
    → Ok (x, y) ≡ both_answers target value → Answers aimed_view target j → asked ≡ wanted target → Answers view value (k asked.0 asked.1)
    → (both j (k (assigned_type j) (rate_of j)) >>= next) ≡ next (aimed_view x, view y)
wanted-stands view target j value asked k next x y h a w b =
    ap (λ parts. parts >>= next)
    (answers-same (pair_view aimed_view view) (Ok (x, y)) (both_answers target value) (both j (k (assigned_type j) (rate_of j))) h (wanted-both view target j value asked k a w b))

pub variable-both : {A B : Type 0} (view : A → B) (target : Result Var SourceFault) (j : Judged tree.Var) (value : Result A SourceFault) (given_to : Var) (k : tree.Var → Judged B)
    → Answers var_view target j → given_to ≡ wanted_variable target → Answers view value (k (var_view given_to))
    → Answers (pair_view var_view view) (both_answers target value) (both j (k (variable_of j)))
variable-both view (Ok a) j value given_to k h e v =
    answers-both var_view view (Ok a) value j (k (variable_of j)) h
    (subst (λ x. Answers view value (k (variable_of x))) (sym h) (subst (λ p. Answers view value (k (var_view p))) e v))
variable-both view (Err Memory) j (Ok b) given_to k h e v = tt
variable-both view (Err Memory) j (Err later) given_to k h e v = tt
variable-both view (Err (Refused fault)) (Sound x) value given_to k h e v = let none : ⊥ = cc in absurd none
variable-both view (Err (Refused fault)) (Faulty first others) value given_to k h e v =
    answers-both var_view view (Err (Refused fault)) value (Faulty first others) (k (variable_of (Faulty first others))) h
    (subst (λ p. Answers view value (k (var_view p))) e v)

-- the second of two parts that are judged each by itself
pub second-answers : {A B C D : Type 0} (f : A → C) (g : B → D) (parts : Result (A × B) SourceFault) (result : Result B SourceFault) (j : Judged (C × D))
    → result ≡ second_part parts → Answers (pair_view f g) parts j → Answers g result (j >>= (λ p. Sound p.1))
second-answers f g (Ok p) result j e h = answers-same g result (Ok p.1) (j >>= (λ q. Sound q.1)) e (ap (λ x. x >>= (λ q. Sound q.1)) h)
second-answers f g (Err fault) result j e h = answers-same g result (Err fault) (j >>= (λ q. Sound q.1)) e (answers-refused (pair_view f g) g fault j (λ q. Sound q.1) h)
