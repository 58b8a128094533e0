-- What a check of a part of the tree finds: what the part stands for, or its faults; and the least of some faults
-- (a choice of this project: the fault with the first place is named, at one place the one with the least number).
use Rattle.std.specs.Prelude.{ℕ, Bool, ◌&&◌, ◌||◌, ◌==◌, nat_lt, List, [], ◌∷◌, ◌++◌, Option, Some, None, Result, Ok, Err, if◌then◌else◌}
use Rattle.gang_types.specs.declared.places.Place.{Place}
use Rattle.gang_model.specs.declared.refusals.RefusalNumber.{RefusalNumber}
use Rattle.gang_model.specs.declared.refusals.RefusalNumber.TheVariants.{S1, S2, S3, S4, S5, S6, S7, S8, S9, S10, S11, S12, S13}
use Rattle.gang_model.specs.declared.refusals.SourceRefusal.{SourceRefusal}

-- a part of the tree without faults and what it stands for, or a part with at least one fault
pub data Judged (A : Type 0) : Type 0 where
  Sound : A → Judged A
  Faulty : (first : SourceRefusal) → (others : List SourceRefusal) → Judged A

-- the faults of a part, in the order of the tree
abbrev pub faults_of : {A : Type 0} → Judged A → List SourceRefusal
faults_of (Sound a) = []
faults_of (Faulty first others) = first ∷ others

-- what a part stands for, if it has no fault
abbrev pub sound_part : {A : Type 0} → Judged A → Option A
sound_part (Sound a) = Some a
sound_part (Faulty first others) = None

-- a part with faults of its own, or what it stands for if there are none
abbrev pub unless : {A : Type 0} → List SourceRefusal → A → Judged A
unless [] a = Sound a
unless (first ∷ others) a = Faulty first others

-- two parts that are judged each by itself: the faults of both, or what both stand for
abbrev pub both : {A B : Type 0} → Judged A → Judged B → Judged (A × B)
both (Sound a) (Sound b) = Sound (a, b)
both (Sound a) (Faulty first others) = Faulty first others
both (Faulty first others) (Sound b) = Faulty first others
both (Faulty first others) (Faulty second more) = Faulty first (others ++ second ∷ more)

-- what is judged only where the part inside it has no fault
infixl 10 ◌>>=◌
abbrev pub ◌>>=◌ : {A B : Type 0} → Judged A → (A → Judged B) → Judged B
Sound a >>= next = next a
Faulty first others >>= next = Faulty first others

-- one fault, if it is there
abbrev pub fault_if : Bool → RefusalNumber → Place → List SourceRefusal
fault_if b number place = if b then record { number = number; place = place } ∷ [] else []

-- the faults inside a part, or the part's own where there are none inside
abbrev pub or_own : (inside own : List SourceRefusal) → List SourceRefusal
or_own [] own = own
or_own (first ∷ others) own = first ∷ others

-- a part with one fault of its own
abbrev pub refused : {A : Type 0} → RefusalNumber → Place → Judged A
refused number place = Faulty (record { number = number; place = place }) []

-- a fault's number in the order of the numbers
abbrev pub rank : RefusalNumber → ℕ
rank S1 = 1
rank S2 = 2
rank S3 = 3
rank S4 = 4
rank S5 = 5
rank S6 = 6
rank S7 = 7
rank S8 = 8
rank S9 = 9
rank S10 = 10
rank S11 = 11
rank S12 = 12
rank S13 = 13

-- whether a place stands before another
abbrev pub stands_before : Place → Place → Bool
stands_before p q = nat_lt p.line q.line || ((p.line == q.line) && nat_lt p.col q.col)

-- whether a fault is named rather than another: its place is before the other's, or is the same and its number is less
abbrev pub is_less : SourceRefusal → SourceRefusal → Bool
is_less a b = stands_before a.place b.place
    || (((a.place.line == b.place.line) && (a.place.col == b.place.col)) && nat_lt (rank a.number) (rank b.number))

-- the lesser of two faults
abbrev pub lesser : SourceRefusal → SourceRefusal → SourceRefusal
lesser a b = if is_less b a then b else a

-- the least of a fault and others
abbrev pub least_of : SourceRefusal → List SourceRefusal → SourceRefusal
least_of a [] = a
least_of a (b ∷ others) = least_of (lesser a b) others

-- the least of some faults, if there are any
abbrev pub least_fault : List SourceRefusal → Option SourceRefusal
least_fault [] = None
least_fault (a ∷ others) = Some (least_of a others)

-- what a check answers for a part: what it stands for, or its least fault
abbrev pub answer_of : {A : Type 0} → Judged A → Result A SourceRefusal
answer_of (Sound a) = Ok a
answer_of (Faulty first others) = Err (least_of first others)

-- the lesser of two faults, where each may be there or not
abbrev pub merged : Option SourceRefusal → Option SourceRefusal → Option SourceRefusal
merged None later = later
merged (Some a) None = Some a
merged (Some a) (Some b) = Some (lesser a b)

-- the least of a part's own faults, where there are none inside
abbrev pub or_later : Option SourceRefusal → Option SourceRefusal → Option SourceRefusal
or_later None own = own
or_later (Some a) own = Some a

-- the answers for two parts together
abbrev pub both_answers : {A B : Type 0} → Result A SourceRefusal → Result B SourceRefusal → Result (A × B) SourceRefusal
both_answers (Ok a) (Ok b) = Ok (a, b)
both_answers (Ok a) (Err f) = Err f
both_answers (Err f) (Ok b) = Err f
both_answers (Err f) (Err g) = Err (lesser f g)

-- an answer, and what is asked only where it is no fault
abbrev pub then_answer : {A B : Type 0} → Result A SourceRefusal → (A → Result B SourceRefusal) → Result B SourceRefusal
then_answer (Ok a) next = next a
then_answer (Err f) next = Err f
