-- How the answers for the parts of a tree make up the answer for what the parts are put together to.
use Rattle.std.proofs.Common.{◌≡◌, refl, sym, ap, subst, ◌∙◌, List, [], ◌∷◌}
use Rattle.std.specs.Prelude.{Option, Result, Ok, Err, IfOk, IfErr}
use Rattle.gang_model.specs.declared.refusals.SourceRefusal.{SourceRefusal}
use Rattle.gang_model.specs.Source.Judged.{Judged, Sound, unless, both, ◌>>=◌, least_fault, answer_of}
use Rattle.gang_model.specs.Source.Judged as definitions
use Rattle.gang_model.proofs.JudgedLaws as laws
use Rattle.source_answers.specs.declared.fault.SourceFault.{SourceFault}
use Rattle.source_answers.specs.declared.fault.SourceFault.TheVariants.{Memory, Refused}
use Rattle.source_answers.specs.Answers.{Answers, both_answers, refusal_of, pair_view}

-- an answer for a value that is written in another way
pub answers-same : {A B : Type 0} (view : A → B) (result other : Result A SourceFault) (j : Judged B) → result ≡ other → Answers view other j → Answers view result j
answers-same view result other j e h = subst (λ r. Answers view r j) (sym e) h

-- an answer for another writing of the same judgement
pub answers-at : {A B : Type 0} (view : A → B) (result : Result A SourceFault) (j k : Judged B) → Answers view result j → j ≡ k → Answers view result k
answers-at view result j k h e = subst (Answers view result) e h

-- two parts that are judged each by itself
pub answers-both : {A B C D : Type 0} (f : A → C) (g : B → D) (left : Result A SourceFault) (right : Result B SourceFault) (j : Judged C) (k : Judged D)
    → Answers f left j → Answers g right k → Answers (pair_view f g) (both_answers left right) (both j k)
answers-both f g (Ok a) (Ok b) j k h i = ap (λ x. both x k) h ∙ ap (both (Sound (f a))) i
answers-both f g (Ok a) (Err Memory) j k h i = tt
answers-both f g (Ok a) (Err (Refused later)) j k h i = laws.answer_of-both j k ∙ (ap (λ x. definitions.both_answers (answer_of x) (answer_of k)) h ∙ ap (definitions.both_answers (Ok (f a))) i)
answers-both f g (Err Memory) (Ok b) j k h i = tt
answers-both f g (Err Memory) (Err later) j k h i = tt
answers-both f g (Err (Refused fault)) (Ok b) j k h i =
    laws.answer_of-both j k ∙ (ap (λ x. definitions.both_answers x (answer_of k)) h ∙ ap (λ x. definitions.both_answers (Err fault) (answer_of x)) i)
answers-both f g (Err (Refused fault)) (Err Memory) j k h i = tt
answers-both f g (Err (Refused fault)) (Err (Refused later)) j k h i =
    laws.answer_of-both j k ∙ (ap (λ x. definitions.both_answers x (answer_of k)) h ∙ ap (definitions.both_answers (Err fault)) i)

-- the same of a result that is equal to the two answers
pub answers-pair : {A B C D : Type 0} (f : A → C) (g : B → D) (left : Result A SourceFault) (right : Result B SourceFault) (result : Result (A × B) SourceFault)
    (j : Judged C) (k : Judged D) → result ≡ both_answers left right → Answers f left j → Answers g right k → Answers (pair_view f g) result (both j k)
answers-pair f g left right result j k e h i = answers-same (pair_view f g) result (both_answers left right) (both j k) e (answers-both f g left right j k h i)

-- where the part inside is refused, so is the whole
pub answers-refused : {A B C D : Type 0} (f : A → C) (g : B → D) (fault : SourceFault) (j : Judged C) (next : C → Judged D)
    → Answers f (Err fault) j → Answers g (Err fault) (j >>= next)
answers-refused f g Memory j next h = tt
answers-refused f g (Refused fault) j next h = laws.answer_of-then j next ∙ ap (λ x. definitions.then_answer x (λ a. answer_of (next a))) h

-- where the part inside stands for something, the whole is what is judged of that
pub answers-then : {A C D : Type 0} (g : A → D) (result : Result A SourceFault) (j : Judged C) (c : C) (next : C → Judged D)
    → j ≡ Sound c → Answers g result (next c) → Answers g result (j >>= next)
answers-then g result j c next h i = subst (λ x. Answers g result (x >>= next)) (sym h) i

-- a part inside, and what is judged only where it has no fault
pub answers-bind : {A B C D : Type 0} (f : A → C) (g : B → D) (inside : Result A SourceFault) (result : Result B SourceFault) (j : Judged C) (next : C → Judged D)
    → Answers f inside j → ((a : A) → inside ≡ Ok a → Answers g result (next (f a))) → ((fault : SourceFault) → inside ≡ Err fault → result ≡ Err fault)
    → Answers g result (j >>= next)
answers-bind f g (Ok a) result j next h on_ok on_err = answers-then g result j (f a) next h (on_ok a refl)
answers-bind f g (Err fault) result j next h on_ok on_err =
    answers-same g result (Err fault) (j >>= next) (on_err fault refl) (answers-refused f g fault j next h)

-- what `refuse` answers for the least of a part's own faults
pub answers-refusal : {C : Type 0} (fault : Option SourceRefusal) (result : Result (Unit {0}) SourceFault) (faults : List SourceRefusal) (c : C)
    → result ≡ refusal_of fault → fault ≡ least_fault faults → Answers (λ none. c) result (unless faults c)
answers-refusal fault result faults c e f =
    answers-same (λ none. c) result (refusal_of (least_fault faults)) (unless faults c) (e ∙ ap refusal_of f) (by faults)
  where
    by : (xs : List SourceRefusal) → Answers (λ none. c) (refusal_of (least_fault xs)) (unless xs c)
    by [] = refl
    by (first ∷ others) = refl

-- where `refuse` stops at the least of a part's own faults, the part is refused, whatever it would stand for
pub answers-refuse : {A C : Type 0} (g : A → C) (fault : Option SourceRefusal) (stopped : SourceFault) (faults : List SourceRefusal) (c : C)
    → Err stopped ≡ refusal_of fault → fault ≡ least_fault faults → Answers g (Err stopped) (unless faults c)
answers-refuse g fault Memory faults c e f = tt
answers-refuse g fault (Refused found) faults c e f = answers-refusal fault (Err (Refused found)) faults c e f

-- where `refuse` goes on, the part stands for its value
pub sound-refuse : {C : Type 0} (fault : Option SourceRefusal) (gone_on : Unit {0}) (faults : List SourceRefusal) (c : C)
    → Ok gone_on ≡ refusal_of fault → fault ≡ least_fault faults → unless faults c ≡ Sound c
sound-refuse fault gone_on faults c e f = answers-refusal fault (Ok gone_on) faults c e f

-- what fails for out of memory alone, and then stands for this value
pub answers-memory : {A B : Type 0} (view : A → B) (result : Result A SourceFault) (b : B)
    → IfOk result (λ a. view a ≡ b) → IfErr result (λ fault. fault ≡ Memory) → Answers view result (Sound b)
answers-memory view (Ok a) b h i = ap Sound (sym h)
answers-memory view (Err fault) b h i = subst (λ x. Answers view (Err x) (Sound b)) (sym i) tt

-- a fault passed on through another type
pub answers-passed : {A B C : Type 0} (f : A → C) (g : B → C) (fault : SourceFault) (j : Judged C) → Answers f (Err fault) j → Answers g (Err fault) j
answers-passed f g Memory j h = tt
answers-passed f g (Refused fault) j h = h
