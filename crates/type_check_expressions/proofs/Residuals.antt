-- Answers where a `?` passes a fault on.
use Rattle.std.proofs.Common.{◌≡◌, List, sym, ap, ◌∙◌}
use Rattle.std.specs.Prelude.{Option, Result, Ok, Err}
use Rattle.std.specs.Result.{IsErrAnd}
use Rattle.std.proofs.lemmas.Result.{err_from_is_err_and}
use Rattle.gang_model.specs.declared.refusals.SourceRefusal.{SourceRefusal}
use Rattle.gang_model.specs.Source.Judged.{Judged, Sound, unless, both, ◌>>=◌, least_fault}
use Rattle.source_answers.specs.declared.fault.SourceFault.{SourceFault}
use Rattle.source_answers.specs.declared.fault.SourceFault.TheVariants.{Memory}
use Rattle.source_answers.specs.Answers.{Answers, both_answers, refusal_of, pair_view}
use Rattle.source_answers.proofs.Answered.{answers-same, answers-at, answers-refused, answers-then, answers-pair, answers-refuse, sound-refuse}

-- a result that is this fault answers what the fault answers
pub answers-fault : {A B : Type 0} (g : A → B) (fault : SourceFault) (result : Result A SourceFault) (j : Judged B)
    → IsErrAnd result (λ y. y ≡ fault) → Answers g (Err fault) j → Answers g result j
answers-fault g fault result j e h = let p = err_from_is_err_and result e in answers-same g result (Err fault) j (p.1 ∙ ap Err p.2) h

-- a fault inside
pub inside-refused : {A B C D : Type 0} (f : A → C) (g : B → D) (fault : SourceFault) (result : Result B SourceFault) (j : Judged C) (next : C → Judged D)
    → IsErrAnd result (λ y. y ≡ fault) → Answers f (Err fault) j → Answers g result (j >>= next)
inside-refused f g fault result j next e h = answers-fault g fault result (j >>= next) e (answers-refused f g fault j next h)

-- out of memory
pub inside-memory : {A B : Type 0} (g : A → B) (fault : SourceFault) (result : Result A SourceFault) (j : Judged B)
    → IsErrAnd result (λ y. y ≡ fault) → fault ≡ Memory → Answers g result j
inside-memory g fault result j e h = answers-fault g fault result j e (answers-same g (Err fault) (Err Memory) j (ap Err h) tt)

-- a fault of the part's own
pub own-refused : {A C : Type 0} (g : A → C) (found : Option SourceRefusal) (fault : SourceFault) (result : Result A SourceFault) (faults : List SourceRefusal) (c : C)
    → IsErrAnd result (λ y. y ≡ fault) → Err fault ≡ refusal_of found → found ≡ least_fault faults → Answers g result (unless faults c)
own-refused g found fault result faults c e h i = answers-fault g fault result (unless faults c) e (answers-refuse g found fault faults c h i)

-- no fault of the part's own
pub own-sound : {A C : Type 0} (g : A → C) (found : Option SourceRefusal) (none : Unit {0}) (result : Result A SourceFault) (faults : List SourceRefusal) (c : C)
    → Ok none ≡ refusal_of found → found ≡ least_fault faults → Answers g result (Sound c) → Answers g result (unless faults c)
own-sound g found none result faults c h i a = answers-at g result (Sound c) (unless faults c) a (sym (sound-refuse found none faults c h i))

-- a fault in one of two parts
pub pair-refused : {A B C D E F : Type 0} (f : A → C) (g : B → D) (v : E → F) (left : Result A SourceFault) (right : Result B SourceFault) (j : Judged C) (k : Judged D)
    (next : C × D → Judged F) (fault : SourceFault) (result : Result E SourceFault)
    → IsErrAnd result (λ y. y ≡ fault) → Err fault ≡ both_answers left right → Answers f left j → Answers g right k → Answers v result (both j k >>= next)
pair-refused f g v left right j k next fault result e h a b =
    inside-refused (pair_view f g) v fault result (both j k) next e (answers-pair f g left right (Err fault) j k h a b)

-- two sound parts
pub pair-sound : {A B C D E F : Type 0} (f : A → C) (g : B → D) (v : E → F) (left : Result A SourceFault) (right : Result B SourceFault) (j : Judged C) (k : Judged D)
    (next : C × D → Judged F) (x : A) (y : B) (result : Result E SourceFault)
    → Ok (x, y) ≡ both_answers left right → Answers f left j → Answers g right k → Answers v result (next (f x, g y)) → Answers v result (both j k >>= next)
pair-sound f g v left right j k next x y result h a b i =
    answers-then v result (both j k) (f x, g y) next (answers-pair f g left right (Ok (x, y)) j k h a b) i

-- what two sound parts stand for
pub pair-stands : {A B C D F : Type 0} (f : A → C) (g : B → D) (left : Result A SourceFault) (right : Result B SourceFault) (j : Judged C) (k : Judged D)
    (next : C × D → Judged F) (x : A) (y : B)
    → Ok (x, y) ≡ both_answers left right → Answers f left j → Answers g right k → (both j k >>= next) ≡ next (f x, g y)
pair-stands f g left right j k next x y h a b = ap (λ parts. parts >>= next) (answers-pair f g left right (Ok (x, y)) j k h a b)
