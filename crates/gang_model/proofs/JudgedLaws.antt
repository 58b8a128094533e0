-- What follows from the definitions of `Judged`: the least of two lists of faults is the lesser of their least faults, so that
-- a check may keep the least fault alone.
use Rattle.std.proofs.Common.{ℕ, Bool, true≢false, append-nil, true, false, ◌&&◌, ◌||◌, ◌==◌, List, [], ◌∷◌, ◌++◌, ◌≡◌, refl, sym, ◌∙◌, ap, arith, not}
use Rattle.std.proofs.lemmas.Bool.Decides.{nat_tests}
use Rattle.std.specs.Prelude.{nat_lt, is_some, Option, Some, None, Result, Ok, Err, if◌then◌else◌}
use Rattle.gang_model.specs.declared.refusals.RefusalNumber.{RefusalNumber}
use Rattle.gang_types.specs.declared.places.Place.{Place}
use Rattle.gang_model.specs.declared.refusals.SourceRefusal.{SourceRefusal}
use Rattle.gang_model.specs.Source.Judged.{Judged, Sound, Faulty, faults_of, unless, both, ◌>>=◌, or_own, rank, is_less, lesser, least_of, least_fault, answer_of, fault_if, merged, or_later, both_answers, then_answer}

-- the order on a line, a column and a number
abbrev pub below : (l c n l' c' n' : ℕ) → Bool
below l c n l' c' n' = nat_lt l l' || ((l == l') && nat_lt c c') || (((l == l') && (c == c')) && nat_lt n n')

not_below_trans : (l c n l' c' n' l'' c'' n'' : ℕ) → below l c n l' c' n' ≡ false → below l' c' n' l'' c'' n'' ≡ false → below l c n l'' c'' n'' ≡ false
not_below_trans l c n l' c' n' l'' c'' n'' h k = grind (arith, nat_tests)

below_asym : (l c n l' c' n' : ℕ) → below l c n l' c' n' ≡ true → below l' c' n' l c n ≡ false
below_asym l c n l' c' n' h = grind (arith, nat_tests)

-- one fault is less than another by their places and numbers
abbrev less : SourceRefusal → SourceRefusal → Bool
less a b = below a.place.line a.place.col (rank a.number) b.place.line b.place.col (rank b.number)

same_less : (a b : SourceRefusal) → is_less a b ≡ less a b
same_less a b = refl

-- what stands neither before nor after is no less
not_less_trans : (a b c : SourceRefusal) → is_less a b ≡ false → is_less b c ≡ false → is_less a c ≡ false
not_less_trans a b c h k = not_below_trans a.place.line a.place.col (rank a.number) b.place.line b.place.col (rank b.number) c.place.line c.place.col (rank c.number) h k

less_asym : (a b : SourceRefusal) → is_less a b ≡ true → is_less b a ≡ false
less_asym a b h = below_asym a.place.line a.place.col (rank a.number) b.place.line b.place.col (rank b.number) h

less_trans : (a b c : SourceRefusal) → is_less a b ≡ true → is_less b c ≡ true → is_less a c ≡ true
less_trans a b c h k = by (is_less a c) refl
  where
    by : (r : Bool) → is_less a c ≡ r → is_less a c ≡ true
    by true e = e
    by false e = absurd (true≢false (sym h ∙ not_less_trans a c b e (less_asym b c k)))

if_true : {A : Type 0} (t : Bool) (a b : A) → t ≡ true → (if t then a else b) ≡ a
if_true true a b e = refl
if_true false a b e = absurd (true≢false (sym e))

if_false : {A : Type 0} (t : Bool) (a b : A) → t ≡ false → (if t then a else b) ≡ b
if_false true a b e = absurd (true≢false e)
if_false false a b e = refl

-- the lesser of three faults does not depend on the order of choosing
pub lesser-assoc : (a b c : SourceRefusal) → lesser (lesser a b) c ≡ lesser a (lesser b c)
lesser-assoc a b c = by (is_less b a) refl (is_less c b) refl
  where
    by : (p : Bool) → is_less b a ≡ p → (q : Bool) → is_less c b ≡ q → lesser (lesser a b) c ≡ lesser a (lesser b c)
    by true p true q =
        let left : lesser a b ≡ b = if_true (is_less b a) b a p in
        let right : lesser b c ≡ c = if_true (is_less c b) c b q in
        let right' : lesser a c ≡ c = if_true (is_less c a) c a (less_trans c b a q p) in
        ap (λ x. lesser x c) left ∙ (right ∙ sym (ap (lesser a) right ∙ right'))
    by true p false q =
        let left : lesser a b ≡ b = if_true (is_less b a) b a p in
        let right : lesser b c ≡ b = if_false (is_less c b) c b q in
        ap (λ x. lesser x c) left ∙ (right ∙ sym (ap (lesser a) right ∙ left))
    by false p true q =
        let left : lesser a b ≡ a = if_false (is_less b a) b a p in
        let right : lesser b c ≡ c = if_true (is_less c b) c b q in
        ap (λ x. lesser x c) left ∙ sym (ap (lesser a) right)
    by false p false q =
        let left : lesser a b ≡ a = if_false (is_less b a) b a p in
        let right : lesser b c ≡ b = if_false (is_less c b) c b q in
        let right' : lesser a c ≡ a = if_false (is_less c a) c a (not_less_trans c b a q p) in
        ap (λ x. lesser x c) left ∙ (right' ∙ sym (ap (lesser a) right ∙ left))

pub least_of-cons : (a b : SourceRefusal) (others : List SourceRefusal) → least_of (lesser a b) others ≡ lesser a (least_of b others)
least_of-cons a b [] = refl
least_of-cons a b (c ∷ others) = ap (λ x. least_of x others) (lesser-assoc a b c) ∙ least_of-cons a (lesser b c) others

-- the least of two lists, neither empty, is the lesser of their least faults
pub least_of-append : (a : SourceRefusal) (others : List SourceRefusal) (b : SourceRefusal) (more : List SourceRefusal)
    → least_of a (others ++ b ∷ more) ≡ lesser (least_of a others) (least_of b more)
least_of-append a [] b more = least_of-cons a b more
least_of-append a (c ∷ others) b more = least_of-append (lesser a c) others b more

-- the least of two lists together
pub least_fault-append : (faults more : List SourceRefusal) → least_fault (faults ++ more) ≡ merged (least_fault faults) (least_fault more)
least_fault-append [] more = refl
least_fault-append (a ∷ others) [] = ap (λ xs. Some (least_of a xs)) (append-nil others)
least_fault-append (a ∷ others) (b ∷ more) = ap Some (least_of-append a others b more)

-- the lesser of two faults, where each may be there or not
pub merged-none : (a : Option SourceRefusal) → merged a None ≡ a
merged-none None = refl
merged-none (Some a) = refl

pub merged-assoc : (a b c : Option SourceRefusal) → merged (merged a b) c ≡ merged a (merged b c)
merged-assoc None b c = refl
merged-assoc (Some a) None c = refl
merged-assoc (Some a) (Some b) None = refl
merged-assoc (Some a) (Some b) (Some c) = ap Some (lesser-assoc a b c)

-- the least fault of two lists, from that of each
pub in_pair : (xs ys : List SourceRefusal) (a b r : Option SourceRefusal) → a ≡ least_fault xs → b ≡ least_fault ys → r ≡ merged a b → r ≡ least_fault (xs ++ ys)
in_pair xs ys a b r left right whole =
    whole ∙ (ap (λ x. merged x b) left ∙ (ap (merged (least_fault xs)) right ∙ sym (least_fault-append xs ys)))

pub least_fault-or_own : (inside own : List SourceRefusal) → least_fault (or_own inside own) ≡ or_later (least_fault inside) (least_fault own)
least_fault-or_own [] own = refl
least_fault-or_own (a ∷ others) own = refl

-- ---- answers

pub answer_of-both : {A B : Type 0} (a : Judged A) (b : Judged B) → answer_of (both a b) ≡ both_answers (answer_of a) (answer_of b)
answer_of-both (Sound a) (Sound b) = refl
answer_of-both (Sound a) (Faulty first others) = refl
answer_of-both (Faulty first others) (Sound b) = refl
answer_of-both (Faulty first others) (Faulty second more) = ap Err (least_of-append first others second more)

pub answer_of-then : {A B : Type 0} (a : Judged A) (next : A → Judged B) → answer_of (a >>= next) ≡ then_answer (answer_of a) (λ x. answer_of (next x))
answer_of-then (Sound a) next = refl
answer_of-then (Faulty first others) next = refl

-- the answer for a part with these faults of its own
abbrev pub answer_unless : {A : Type 0} → Option SourceRefusal → A → Result A SourceRefusal
answer_unless None a = Ok a
answer_unless (Some f) a = Err f

pub answer_of-unless : {A : Type 0} (faults : List SourceRefusal) (a : A) → answer_of (unless faults a) ≡ answer_unless (least_fault faults) a
answer_of-unless [] a = refl
answer_of-unless (first ∷ others) a = refl

-- a part without faults stands for something
pub sound_without_faults : {A : Type 0} (a : Judged A) → least_fault (faults_of a) ≡ None → (x : A) × (a ≡ Sound x)
sound_without_faults (Sound a) e = (a, refl)
sound_without_faults (Faulty first others) e = absurd (true≢false (ap is_some e))

-- ---- what holds of sound parts

-- what holds of what a part stands for, where it has no fault
abbrev pub OnSound : {A : Type 0} → Judged A → (A → Type 0) → Type 0
OnSound (Sound a) P = P a
OnSound (Faulty first others) P = Unit {0}

pub on_any : {A : Type 0} (j : Judged A) → OnSound j (λ a. Unit {0})
on_any (Sound a) = tt
on_any (Faulty first others) = tt

pub on_then : {A B : Type 0} (j : Judged A) (next : A → Judged B) (P : A → Type 0) (Q : B → Type 0)
    → OnSound j P → ((a : A) → P a → OnSound (next a) Q) → OnSound (j >>= next) Q
on_then (Sound a) next P Q p q = q a p
on_then (Faulty first others) next P Q p q = tt

pub on_both : {A B : Type 0} (a : Judged A) (b : Judged B) (P : A → Type 0) (Q : B → Type 0)
    → OnSound a P → OnSound b Q → OnSound (both a b) (λ parts. P parts.0 × Q parts.1)
on_both (Sound a) (Sound b) P Q p q = (p, q)
on_both (Sound a) (Faulty first others) P Q p q = tt
on_both (Faulty first others) (Sound b) P Q p q = tt
on_both (Faulty first others) (Faulty second more) P Q p q = tt

pub on_unless : {A : Type 0} (faults : List SourceRefusal) (a : A) (P : A → Type 0) → P a → OnSound (unless faults a) P
on_unless [] a P p = p
on_unless (first ∷ others) a P p = tt

-- two parts judged together, and what follows from both
pub on_pair : {A B C : Type 0} (a : Judged A) (b : Judged B) (next : A × B → Judged C) (P : A → Type 0) (Q : B → Type 0) (R : C → Type 0)
    → OnSound a P → OnSound b Q → ((x : A) (y : B) → P x → Q y → OnSound (next (x, y)) R) → OnSound (both a b >>= next) R
on_pair (Sound a) (Sound b) next P Q R p q r = r a b p q
on_pair (Sound a) (Faulty first others) next P Q R p q r = tt
on_pair (Faulty first others) (Sound b) next P Q R p q r = tt
on_pair (Faulty first others) (Faulty second more) next P Q R p q r = tt

pub on_if : {A : Type 0} (b : Bool) (j k : Judged A) (P : A → Type 0) → OnSound j P → OnSound k P → OnSound (if b then j else k) P
on_if true j k P p q = p
on_if false j k P p q = q

-- ---- what holds of a part without some fault

pub on_fault_if : {A : Type 0} (b : Bool) (number : RefusalNumber) (p : Place) (a : A) (P : A → Type 0) → (b ≡ false → P a) → OnSound (unless (fault_if b number p) a) P
on_fault_if true number p a P h = tt
on_fault_if false number p a P h = h refl

-- the first of several faults
pub on_first : {A : Type 0} (b : Bool) (number : RefusalNumber) (p : Place) (more : List SourceRefusal) (a : A) (P : A → Type 0) → (b ≡ false → P a)
    → OnSound (unless (fault_if b number p ++ more) a) P
on_first true number p more a P h = tt
on_first false number p more a P h = on_unless more a P (h refl)

-- the last of several faults, where something is not allowed
pub on_allowed : {A : Type 0} (faults : List SourceRefusal) (b : Bool) (number : RefusalNumber) (p : Place) (a : A) (P : A → Type 0) → (b ≡ true → P a)
    → OnSound (unless (faults ++ fault_if (not b) number p) a) P
on_allowed [] true number p a P h = h refl
on_allowed [] false number p a P h = tt
on_allowed (f ∷ faults) b number p a P h = tt

pub or_false : (a b : Bool) → (a || b) ≡ false → (a ≡ false) × (b ≡ false)
or_false true b e = absurd (true≢false e)
or_false false b e = (refl, e)

pub not_false : (a : Bool) → not a ≡ false → a ≡ true
not_false true e = refl
not_false false e = absurd (true≢false e)

pub and_true : (a b : Bool) → (a && b) ≡ true → (a ≡ true) × (b ≡ true)
and_true true b e = (refl, e)
and_true false b e = absurd (true≢false (sym e))

pub not_true : (a : Bool) → not a ≡ true → a ≡ false
not_true true e = absurd (true≢false (sym e))
not_true false e = refl
