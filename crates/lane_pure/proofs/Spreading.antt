-- Marks with the list of those that are set, and the marks of what leads to them.
use Rattle.std.proofs.Common.{◌≡◌, refl, sym, ap, ◌∙◌, subst, ℕ, zero, suc, ◌+◌, ◌<◌, ◌≤◌, Bool, true, false, List, [], ◌∷◌, ◌++◌, length, get_or, Some, None, inl, inr, arith}
use Rattle.std.specs.Prelude.{◌⊎◌, Contains, replicate, slice_get, slice_set}
use Rattle.std.proofs.lemmas.List.{length_push}
use Rattle.std.proofs.lemmas.List.Elements.{Contains-append_left, Contains-push}
use Rattle.lane_pure.specs.Found.{set_marks, IsListed, Keeps, with_all, Leads, is_marked, by_call, IsSpread}

pub none_some : {A : Type 0} {x : A} → None ≡ Some x → ⊥
none_some q = cc

pub some_same : {A : Type 0} {x y : A} → Some x ≡ Some y → x ≡ y
some_same q = cc

pub either : {A B C : Type 0} → A ⊎ B → (A → C) → (B → C) → C
either (inl a) f g = f a
either (inr b) f g = g b

-- ---- one mark

pub set_length : (marks : List Bool) (n : ℕ) → length (slice_set marks n true) ≡ length marks
set_length [] n = refl
set_length (x ∷ marks) zero = refl
set_length (x ∷ marks) (suc n) = ap suc (set_length marks n)

pub set_same : (marks : List Bool) (n : ℕ) → n < length marks → slice_get (slice_set marks n true) n ≡ Some true
set_same [] n h = absurd (omega (arith, h))
set_same (x ∷ marks) zero h = refl
set_same (x ∷ marks) (suc n) h = set_same marks n (omega (arith, h))

-- a mark that is set is kept
pub set_keeps : (marks : List Bool) (n m : ℕ) → slice_get marks m ≡ Some true → slice_get (slice_set marks n true) m ≡ Some true
set_keeps [] n m h = h
set_keeps (x ∷ marks) zero zero h = refl
set_keeps (x ∷ marks) zero (suc m) h = h
set_keeps (x ∷ marks) (suc n) zero h = h
set_keeps (x ∷ marks) (suc n) (suc m) h = set_keeps marks n m h

-- a mark that is set was set before, or is the new one
pub set_from : (marks : List Bool) (n m : ℕ) → slice_get (slice_set marks n true) m ≡ Some true → (slice_get marks m ≡ Some true) ⊎ (m ≡ n)
set_from [] n m h = inl h
set_from (x ∷ marks) zero zero h = inr refl
set_from (x ∷ marks) zero (suc m) h = inl h
set_from (x ∷ marks) (suc n) zero h = inl h
set_from (x ∷ marks) (suc n) (suc m) h = either (set_from marks n m h) (λ old. inl old) (λ is. inr (ap suc is))

count_more : (marks : List Bool) (n : ℕ) → slice_get marks n ≡ Some false → set_marks (slice_set marks n true) ≡ suc (set_marks marks)
count_more [] n h = absurd (none_some h)
count_more (true ∷ marks) zero h = absurd (cc)
count_more (false ∷ marks) zero h = refl
count_more (true ∷ marks) (suc n) h = ap suc (count_more marks n h)
count_more (false ∷ marks) (suc n) h = count_more marks n h

count_most : (marks : List Bool) → set_marks marks < suc (length marks)
count_most [] = omega arith
count_most (true ∷ marks) = let h : set_marks marks < suc (length marks) = count_most marks in omega (arith, h)
count_most (false ∷ marks) = let h : set_marks marks < suc (length marks) = count_most marks in omega (arith, h)

pub get_below : {A : Type 0} (xs : List A) (n : ℕ) (x : A) → slice_get xs n ≡ Some x → n < length xs
get_below [] n x h = absurd (none_some h)
get_below (y ∷ xs) zero x h = omega arith
get_below (y ∷ xs) (suc n) x h = let less : n < length xs = get_below xs n x h in omega (arith, less)

-- a mark that was read, and is not set
pub get_clear : (marks : List Bool) (n : ℕ) (mark : Bool) → n < length marks → mark ≡ get_or marks n mark → mark ≡ false → slice_get marks n ≡ Some false
get_clear [] n mark below is clear = absurd (omega (arith, below))
get_clear (x ∷ marks) zero mark below is clear = ap Some (sym is ∙ clear)
get_clear (x ∷ marks) (suc n) mark below is clear = get_clear marks n mark (omega (arith, below)) is clear

-- ---- the list of what is marked

pub none_marked : (count n : ℕ) → slice_get (replicate count false) n ≡ Some true → ⊥
none_marked zero n h = none_some h
none_marked (suc count) zero h = cc
none_marked (suc count) (suc n) h = none_marked count n h

none_counted : (count : ℕ) → set_marks (replicate count false) ≡ 0
none_counted zero = refl
none_counted (suc count) = none_counted count

pub listed_none : (count : ℕ) (marks : List Bool) → marks ≡ replicate count false → IsListed marks []
listed_none count marks is = subst (λ xs. IsListed xs []) (sym is) (record {
  sound = λ k n h. absurd (none_some h);
  complete = λ n h. absurd (none_marked count n h);
  once = sym (none_counted count);
})

get_push : (xs : List ℕ) (x k y : ℕ) → slice_get (xs ++ x ∷ []) k ≡ Some y → (slice_get xs k ≡ Some y) ⊎ (y ≡ x)
get_push [] x zero y h = inr (some_same (sym h))
get_push [] x (suc k) y h = inl h
get_push (z ∷ xs) x zero y h = inl h
get_push (z ∷ xs) x (suc k) y h = get_push xs x k y h

pub keeps_push : (xs : List ℕ) (x : ℕ) → Keeps xs (xs ++ x ∷ [])
keeps_push [] x k n h = absurd (none_some h)
keeps_push (y ∷ xs) x zero n h = h
keeps_push (y ∷ xs) x (suc k) n h = keeps_push xs x k n h

pub listed_more : (marks : List Bool) (order : List ℕ) (n : ℕ) → IsListed marks order → slice_get marks n ≡ Some false → IsListed (slice_set marks n true) (order ++ n ∷ [])
listed_more marks order n listed open_one = record {
  sound = λ k m h. either (get_push order n k m h)
      (λ old. set_keeps marks n m (listed.sound k m old))
      (λ same. subst (λ i. slice_get (slice_set marks n true) i ≡ Some true) (sym same) (set_same marks n (get_below marks n false open_one)));
  complete = λ m h. either (set_from marks n m h)
      (λ old. Contains-append_left order (n ∷ []) m (listed.complete m old))
      (λ same. subst (Contains (order ++ n ∷ [])) (sym same) (Contains-push order n));
  once = length_push order n ∙ ap (λ l. l + 1) listed.once ∙ omega arith ∙ sym (count_more marks n open_one);
}

-- no more are listed than there are
pub listed_few : (marks : List Bool) (order : List ℕ) → IsListed marks order → length order ≤ length marks
listed_few marks order listed = omega (arith, listed.once, count_most marks)

-- what is listed is marked, so there is such a function
pub listed_below : (marks : List Bool) (order : List ℕ) (k n : ℕ) → IsListed marks order → slice_get order k ≡ Some n → n < length marks
listed_below marks order k n listed at = get_below marks n true (listed.sound k n at)

-- ---- some marks more

all_length : (numbers : List ℕ) (marks : List Bool) → length (with_all numbers marks) ≡ length marks
all_length [] marks = refl
all_length (n ∷ numbers) marks = all_length numbers (slice_set marks n true) ∙ set_length marks n

all_keeps : (numbers : List ℕ) (marks : List Bool) (m : ℕ) → slice_get marks m ≡ Some true → slice_get (with_all numbers marks) m ≡ Some true
all_keeps [] marks m h = h
all_keeps (n ∷ numbers) marks m h = all_keeps numbers (slice_set marks n true) m (set_keeps marks n m h)

first_or_later : (x : ℕ) (xs : List ℕ) (n : ℕ) → Contains (x ∷ xs) n → (n ≡ x) ⊎ Contains xs n
first_or_later x xs n (zero, less, is) = inl (sym is)
first_or_later x xs n (suc k, less, is) = inr (k, omega (arith, less), is)

contains_later : (x : ℕ) (xs : List ℕ) (n : ℕ) → Contains xs n → Contains (x ∷ xs) n
contains_later x xs n c = (suc c.0, omega (arith, c.1), c.2)

all_there : (numbers : List ℕ) (marks : List Bool) (n : ℕ) → Contains numbers n → n < length marks → slice_get (with_all numbers marks) n ≡ Some true
all_there [] marks n c h = let none = c.1 in absurd (omega (arith, none))
all_there (x ∷ numbers) marks n c h = either (first_or_later x numbers n c)
    (λ same. all_keeps numbers (slice_set marks x true) n (subst (λ i. slice_get (slice_set marks x true) i ≡ Some true) (sym same) (set_same marks x (subst (λ i. i < length marks) same h))))
    (λ later. all_there numbers (slice_set marks x true) n later (subst (λ l. n < l) (sym (set_length marks x)) h))

all_from : (numbers : List ℕ) (marks : List Bool) (m : ℕ) → slice_get (with_all numbers marks) m ≡ Some true → (slice_get marks m ≡ Some true) ⊎ Contains numbers m
all_from [] marks m h = inl h
all_from (x ∷ numbers) marks m h = either (all_from numbers (slice_set marks x true) m h)
    (λ k. either (set_from marks x m k) (λ old. inl old) (λ same. inr (0, omega arith, sym same)))
    (λ later. inr (contains_later x numbers m later))

-- ---- what leads to what is marked

-- so many of those that are listed have their callers marked
pub record IsSpreading (callers : List (List ℕ)) (old new : List Bool) (order : List ℕ) (turn : ℕ) : Type 0 where
  pub all : length new ≡ length old
  pub keeps : (n : ℕ) → slice_get old n ≡ Some true → slice_get new n ≡ Some true
  pub sound : (n : ℕ) → slice_get new n ≡ Some true → Leads callers old n
  pub done : (k m : ℕ) → k < turn → slice_get order k ≡ Some m → (n : ℕ) → Contains (get_or callers m []) n → n < length new → slice_get new n ≡ Some true

pub spreading_begins : (callers : List (List ℕ)) (marks : List Bool) (order : List ℕ) → IsSpreading callers marks marks order 0
spreading_begins callers marks order = record { all = refl; keeps = λ n h. h; sound = λ n h. is_marked h; done = λ k m less. absurd (omega (arith, less)) }

below_or_same : (k t : ℕ) → k < t + 1 → (k < t) ⊎ (k ≡ t)
below_or_same zero zero h = inr refl
below_or_same zero (suc t) h = inl (omega arith)
below_or_same (suc k) zero h = absurd (omega (arith, h))
below_or_same (suc k) (suc t) h = either (below_or_same k t (omega (arith, h))) (λ less. inl (omega (arith, less))) (λ same. inr (ap suc same))

get_some : (xs : List ℕ) (k : ℕ) → k < length xs → (x : ℕ) × (slice_get xs k ≡ Some x)
get_some [] k h = absurd (omega (arith, h))
get_some (x ∷ xs) zero h = (x, refl)
get_some (x ∷ xs) (suc k) h = get_some xs k (omega (arith, h))

-- what stands in the longer list stands in its front
from_front : (old new : List ℕ) (k m : ℕ) → Keeps old new → k < length old → slice_get new k ≡ Some m → slice_get old k ≡ Some m
from_front old new k m keeps less is =
    let (x, at) = get_some old k less in
    subst (λ y. slice_get old k ≡ Some y) (some_same (sym (keeps k x at) ∙ is)) at

module _ (callers : List (List ℕ)) (old marks : List Bool) (order : List ℕ) (turn : ℕ) (before : IsSpreading callers old marks order turn) (listed : IsListed marks order) where
  pub spreading_more : (m : ℕ) (numbers : List ℕ) (new : List Bool) (longer : List ℕ) → slice_get order turn ≡ Some m → numbers ≡ get_or callers m [] → new ≡ with_all numbers marks → Keeps order longer
      → IsSpreading callers old new longer (turn + 1)
  spreading_more m numbers new longer at are is keeps = subst (λ xs. IsSpreading callers old xs longer (turn + 1)) (sym is) (record {
    all = all_length numbers marks ∙ before.all;
    keeps = λ n h. all_keeps numbers marks n (before.keeps n h);
    sound = λ n h. either (all_from numbers marks n h) (λ known. before.sound n known) (λ c. by_call (subst (λ xs. Contains xs n) are c) (before.sound m (listed.sound turn m at)));
    done = λ k other less there n c below.
        let within : turn < length order = get_below order turn m at in
        let was : slice_get order k ≡ Some other = from_front order longer k other keeps (omega (arith, less, within)) there in
        let few : n < length marks = subst (λ l. n < l) (all_length numbers marks) below in
        either (below_or_same k turn less)
        (λ earlier. all_keeps numbers marks n (before.done k other earlier was n c few))
        (λ same. all_there numbers marks n
        (subst (λ xs. Contains xs n) (ap (λ i. get_or callers i []) (some_same (sym was ∙ ap (slice_get order) same ∙ at)) ∙ sym are) c) few);
  })

  -- where all that is listed has its callers marked, nothing more leads to it
  pub spreading_ends : (turn < length order → ⊥) → IsSpread callers old marks
  spreading_ends ended = record {
    all = before.all;
    keeps = before.keeps;
    sound = before.sound;
    closed = λ n m c h below.
        let (k, less, at) = listed.complete m h in
        before.done k m (not_below k less) (get_at order k m less at) n c below;
  }
    where
      get_at : (xs : List ℕ) (k m : ℕ) → k < length xs → get_or xs k m ≡ m → slice_get xs k ≡ Some m
      get_at [] k m less is = absurd (omega (arith, less))
      get_at (x ∷ xs) zero m less is = ap Some is
      get_at (x ∷ xs) (suc k) m less is = get_at xs k m (omega (arith, less)) is

      not_below : (k : ℕ) → k < length order → k < turn
      not_below k less = omega (arith, less, ended)
