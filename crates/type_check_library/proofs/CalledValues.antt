-- What is answered for a call, from its parts.
use Rattle.std.proofs.Common.{◌≡◌, List, [], ◌∷◌, refl, sym, ap, ◌∙◌}
use Rattle.std.specs.Prelude.{Option, Some, None, Ok, Err}
use Rattle.gang_types.specs.declared.places.Place.{Place}
use Rattle.gang_model.specs.declared.refusals.SourceRefusal.{SourceRefusal}
use Rattle.gang_model.specs.Types.Conversions as model
use Rattle.gang_model.specs.Source.Judged.{Judged, Sound, unless, ◌>>=◌, least_fault, answer_of}
use Rattle.gang_model.specs.Types.LibraryTable as table
use Rattle.gang_model.specs.Types.Typing as typing
use Rattle.source_answers.specs.declared.fault.SourceFault.{SourceFault}
use Rattle.source_answers.specs.declared.fault.SourceFault.TheVariants.{Memory, Refused}
use Rattle.source_answers.specs.Answers.{Answers, refusal_of}

abbrev Value : Type 0
Value = Place × model.Typed

-- the faults of the rates of a call's arguments
abbrev pub faults_at : table.LibraryCall → List Value → List SourceRefusal
faults_at call values = typing.rate_faults (table.asked_by call) values

refused_then : {A B : Type 0} (faults : List SourceRefusal) (a : A) (next : A → Judged B) (fault : SourceRefusal)
    → least_fault faults ≡ Some fault → answer_of (unless faults a >>= next) ≡ Err fault
refused_then [] a next fault h = cc
refused_then (first ∷ others) a next fault h = cc

sound_then : {A B : Type 0} (faults : List SourceRefusal) (a : A) (next : A → Judged B) → least_fault faults ≡ None → (unless faults a >>= next) ≡ next a
sound_then [] a next h = refl
sound_then (first ∷ others) a next h = cc

-- a fault that goes on is the answer
pub fault_answers : {A B : Type 0} (view : A → B) (found : Option SourceRefusal) (fault : SourceFault) (judged : Judged B)
    → Err fault ≡ refusal_of found → ((f : SourceRefusal) → found ≡ Some f → answer_of judged ≡ Err f) → Answers view (Err fault) judged
fault_answers view None fault judged h is = cc
fault_answers view (Some f) Memory judged h is = cc
fault_answers view (Some f) (Refused g) judged h is = let same : f ≡ g = cc in is f refl ∙ ap Err same

-- no fault was found where it goes on
pub none_found : {t : Unit {0}} (found : Option SourceRefusal) → Ok t ≡ refusal_of found → found ≡ None
none_found None h = refl
none_found (Some f) h = cc

-- S7 at an argument
pub call_refused : (p : Place) (call : table.LibraryCall) (values : List Value) (f : SourceRefusal)
    → least_fault (faults_at call values) ≡ Some f → answer_of (typing.call_value p (Some call) values) ≡ Err f
call_refused p call values f h = refused_then (faults_at call values) values (λ _. typing.typed_or_refused p (table.library_value call (typing.second_parts values))) f h

-- the value of a call without faults
pub call_sound : {A : Type 0} (view : A → model.Typed) (a : A) (p : Place) (call : table.LibraryCall) (values : List Value)
    → least_fault (faults_at call values) ≡ None → Some (view a) ≡ table.library_value call (typing.second_parts values)
    → typing.call_value p (Some call) values ≡ Sound (view a)
call_sound view a p call values h k =
    sound_then (faults_at call values) values (λ _. typing.typed_or_refused p (table.library_value call (typing.second_parts values))) h
    ∙ ap (typing.typed_or_refused p) (sym k)
