-- Parts that are judged each by itself, collected one after another: what they stand for, and their least fault.
use Rattle.std.proofs.Common.{◌≡◌, refl, sym, ap, subst, ◌∙◌, List, [], ◌∷◌, ◌++◌, append_assoc}
use Rattle.std.specs.Prelude.{Option, Some, None, Result, Ok, Err, IfOk}
use Rattle.gang_model.specs.declared.refusals.SourceRefusal.{SourceRefusal}
use Rattle.gang_model.specs.Source.Judged.{Judged, Sound, Faulty, both, ◌>>=◌, answer_of, merged, both_answers, then_answer}
use Rattle.gang_model.proofs.JudgedLaws.{answer_unless, answer_of-both, answer_of-then, merged-none}
use Rattle.source_answers.specs.declared.fault.SourceFault.{SourceFault}
use Rattle.source_answers.specs.declared.fault.SourceFault.TheVariants.{Memory, Refused}
use Rattle.source_answers.specs.Answers.{Answers, refusal_of}
use Rattle.source_answers.proofs.Answered.{answers-same}
use Rattle.type_check_functions.specs.Collected.{unless_fault}

-- the parts together
abbrev pub all_of : {A : Type 0} → List (Judged A) → Judged (List A)
all_of [] = Sound []
all_of (j ∷ js) = do
  parts ← both j (all_of js)
  Sound (parts.0 ∷ parts.1)

-- one more part after others
abbrev with_last : {A : Type 0} → Judged (List A) → Judged A → Judged (List A)
with_last x j = do
  parts ← both x j
  Sound (parts.0 ++ parts.1 ∷ [])

-- one more part before others
abbrev with_first : {A : Type 0} → Judged A → Judged (List A) → Judged (List A)
with_first j x = do
  parts ← both j x
  Sound (parts.0 ∷ parts.1)

between : {A : Type 0} (k : Judged A) (x : Judged (List A)) (j : Judged A) → with_first k (with_last x j) ≡ with_last (with_first k x) j
between (Sound a) (Sound xs) (Sound b) = refl
between (Sound a) (Sound xs) (Faulty f fs) = refl
between (Sound a) (Faulty g gs) (Sound b) = refl
between (Sound a) (Faulty g gs) (Faulty f fs) = refl
between (Faulty h hs) (Sound xs) (Sound b) = refl
between (Faulty h hs) (Sound xs) (Faulty f fs) = refl
between (Faulty h hs) (Faulty g gs) (Sound b) = refl
between (Faulty h hs) (Faulty g gs) (Faulty f fs) = ap (Faulty h) (sym (append_assoc hs (g ∷ gs) (f ∷ fs)))

alone_last : {A : Type 0} (j : Judged A) → with_first j (Sound []) ≡ with_last (Sound []) j
alone_last (Sound a) = refl
alone_last (Faulty f fs) = refl

all_of-last : {A : Type 0} (js : List (Judged A)) (j : Judged A) → all_of (js ++ j ∷ []) ≡ with_last (all_of js) j
all_of-last [] j = alone_last j
all_of-last (k ∷ js) j = ap (with_first k) (all_of-last js j) ∙ between k (all_of js) j

-- what is told of a list with one more part
abbrev told_with : {A : Type 0} → Option SourceRefusal → List A → Result A SourceRefusal → Result (List A) SourceRefusal
told_with fault items r = then_answer (both_answers (answer_unless fault items) r) (λ parts. Ok (parts.0 ++ parts.1 ∷ []))

-- what is collected so far
abbrev pub Collects : {A : Type 0} → Option SourceRefusal → List A → Judged (List A) → Type 0
Collects fault items x = answer_of x ≡ answer_unless fault items

last_told : {A : Type 0} (fault : Option SourceRefusal) (items : List A) (js : List (Judged A)) (j : Judged A) (r : Result A SourceRefusal)
    → Collects fault items (all_of js) → answer_of j ≡ r → answer_of (all_of (js ++ j ∷ [])) ≡ told_with fault items r
last_told {A} fault items js j r h i =
    ap answer_of (all_of-last js j)
    ∙ (answer_of-then (both (all_of js) j) (λ parts. Sound (parts.0 ++ parts.1 ∷ []))
    ∙ ap (λ (t : Result (List A × A) SourceRefusal). then_answer t (λ parts. Ok (parts.0 ++ parts.1 ∷ [])))
    (answer_of-both (all_of js) j ∙ (ap (λ t. both_answers t (answer_of j)) h ∙ ap (both_answers (answer_unless fault items)) i)))

told_unless : {A : Type 0} (fault g : Option SourceRefusal) (items : List A) (a : A) → told_with fault items (answer_unless g a) ≡ answer_unless (merged fault g) (items ++ a ∷ [])
told_unless None None items a = refl
told_unless None (Some g) items a = refl
told_unless (Some f) None items a = refl
told_unless (Some f) (Some g) items a = refl

told_fault : {A : Type 0} (fault : Option SourceRefusal) (g : SourceRefusal) (items others : List A) → told_with fault items (Err g) ≡ answer_unless (merged fault (Some g)) others
told_fault None g items others = refl
told_fault (Some f) g items others = refl

-- one more part, with this fault or without one
pub collects-more : {A : Type 0} (fault g : Option SourceRefusal) (items : List A) (a : A) (js : List (Judged A)) (j : Judged A)
    → Collects fault items (all_of js) → answer_of j ≡ answer_unless g a → Collects (merged fault g) (items ++ a ∷ []) (all_of (js ++ j ∷ []))
collects-more fault g items a js j h i = last_told fault items js j (answer_unless g a) h i ∙ told_unless fault g items a

-- one more part that stands for something
pub collects-sound : {A : Type 0} (fault : Option SourceRefusal) (items : List A) (a : A) (js : List (Judged A)) (j : Judged A)
    → Collects fault items (all_of js) → j ≡ Sound a → Collects fault (items ++ a ∷ []) (all_of (js ++ j ∷ []))
collects-sound fault items a js j h e =
    collects-more fault None items a js j h (ap answer_of e) ∙ ap (λ f. answer_unless f (items ++ a ∷ [])) (merged-none fault)

-- one more part with a fault
pub collects-fault : {A : Type 0} (fault : Option SourceRefusal) (g : SourceRefusal) (items : List A) (js : List (Judged A)) (j : Judged A)
    → Collects fault items (all_of js) → answer_of j ≡ Err g → Collects (merged fault (Some g)) items (all_of (js ++ j ∷ []))
collects-fault fault g items js j h i = last_told fault items js j (Err g) h i ∙ told_fault fault g items items

-- ---- at the end

sound_told : {A : Type 0} (j : Judged A) (a : A) → answer_of j ≡ Ok a → j ≡ Sound a
sound_told (Sound b) a e = ap Sound cc
sound_told (Faulty first others) a e = cc

-- no part has a fault
pub all_collected : {A : Type 0} (fault : Option SourceRefusal) (items : List A) (x : Judged (List A)) (gone_on : Unit {0})
    → Ok gone_on ≡ refusal_of fault → Collects fault items x → x ≡ Sound items
all_collected None items x gone_on e h = sound_told x items h
all_collected (Some f) items x gone_on e h = cc

-- some part has a fault
pub fault_collected : {A B : Type 0} (view : B → List A) (fault : Option SourceRefusal) (items : List A) (x : Judged (List A)) (stopped : SourceFault)
    → Err stopped ≡ refusal_of fault → Collects fault items x → Answers view (Err stopped) x
fault_collected view fault items x Memory e h = tt
fault_collected view None items x (Refused f) e h = cc
fault_collected view (Some g) items x (Refused f) e h = h ∙ ap Err cc

-- a fault was found
pub one_found : (fault : Option SourceRefusal) (g : SourceRefusal) → merged fault (Some g) ≡ None → ⊥
one_found None g e = cc
one_found (Some f) g e = cc

-- all that was collected, unless there is a fault
pub collected-answers : {A B : Type 0} (view : B → List A) (fault : Option SourceRefusal) (made : B) (x : Judged (List A)) (result : Result B SourceFault)
    → result ≡ unless_fault fault made → Collects fault (view made) x → Answers view result x
collected-answers view None made x result e h = answers-same view result (Ok made) x e (sound_told x (view made) h)
collected-answers view (Some f) made x result e h = answers-same view result (Err (Refused f)) x e h

pub collected-ok : {B : Type 0} (fault : Option SourceRefusal) (made : B) (result : Result B SourceFault) (holds : B → Type 0)
    → result ≡ unless_fault fault made → (fault ≡ None → holds made) → IfOk result holds
collected-ok None made result holds e h = subst (λ r. IfOk r holds) (sym e) (h refl)
collected-ok (Some f) made result holds e h = subst (λ r. IfOk r holds) (sym e) tt
