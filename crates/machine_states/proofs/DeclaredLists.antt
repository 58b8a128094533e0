-- Lists of numbers within one another, and what is declared before each step of a statement, and stands round it.
use Rattle.std.proofs.Common.{◌≡◌, refl, subst, ℕ, ◌+◌, ◌≤◌, Bool, true, false, ◌||◌, List, [], ◌∷◌, ◌++◌, append_assoc, length, length-append, Some, inl, inr, arith}
use Rattle.std.specs.Prelude.{slice_index_or, if◌then◌else◌}
use Rattle.std.proofs.lemmas.List.{get_or_past}
use Rattle.std.proofs.Math.Seq.{get_or-append_seam}
use Rattle.gang_model.specs.Types.Tree.{StepNumber, Stmt, Empty, Then, Declare, Assign, Change, If, Loop, BodyFirst, Break, Continue, Return, Switch, Segment, ForEach, Call, Check, PackedStore, PackedLoad, Function}
use Rattle.gang_model.specs.Running.Step.{steps_of, round_number}
use Rattle.mask_states.specs.Points.{closing_number}
use Rattle.machine_states.specs.Variables.{Variables}
use Rattle.machine_states.specs.RoundNumbers.{NumberedForm, numbered_form, numbered_round}
use Rattle.machine_states.specs.Declared.{IsAmong, declared_by_form, declared_by, may_return, declared_before_return, declared_at, scalar_parameters, declared_for, declared_at_end, declared_before}

-- ---- small facts

pub same_some : {A : Type 0} (x y : A) → Some x ≡ Some y → x ≡ y
same_some x y e = cc

pub same_first : {A : Type 0} (x y : A) (xs ys : List A) → x ∷ xs ≡ y ∷ ys → x ≡ y
same_first x y xs ys e = cc

pub or_front : (b c : Bool) → b ≡ true → (b || c) ≡ true
or_front true c e = refl
or_front false c e = absurd cc

pub or_back : (b c : Bool) → c ≡ true → (b || c) ≡ true
or_back true c e = refl
or_back false c e = e

-- ---- lists within one another

abbrev pub IsWithin : List ℕ → List ℕ → Type 0
IsWithin xs ys = (k : ℕ) → IsAmong k xs → IsAmong k ys

pub within_itself : (xs : List ℕ) → IsWithin xs xs
within_itself xs k h = h

pub within_all : (xs : List ℕ) → IsWithin [] xs
within_all xs k h = absurd h

pub within_front : (xs ys : List ℕ) → IsWithin xs (xs ++ ys)
within_front [] ys k h = absurd h
within_front (x ∷ xs) ys k (inl e) = inl e
within_front (x ∷ xs) ys k (inr h) = inr (within_front xs ys k h)

pub within_back : (xs ys : List ℕ) → IsWithin ys (xs ++ ys)
within_back [] ys k h = h
within_back (x ∷ xs) ys k h = inr (within_back xs ys k h)

pub within_both : (xs ys zs : List ℕ) → IsWithin xs zs → IsWithin ys zs → IsWithin (xs ++ ys) zs
within_both [] ys zs f g k h = g k h
within_both (x ∷ xs) ys zs f g k (inl e) = f k (inl e)
within_both (x ∷ xs) ys zs f g k (inr h) = within_both xs ys zs (λ j a. f j (inr a)) g k h

pub within_then : (xs ys zs : List ℕ) → IsWithin xs ys → IsWithin ys zs → IsWithin xs zs
within_then xs ys zs f g k h = g k (f k h)

-- one is replaced in front, or behind
pub within_behind : (ws xs ys zs : List ℕ) → IsWithin ws (xs ++ ys) → IsWithin ys zs → IsWithin ws (xs ++ zs)
within_behind ws xs ys zs f g = within_then ws (xs ++ ys) (xs ++ zs) f
    (within_both xs ys (xs ++ zs) (within_front xs zs) (within_then ys zs (xs ++ zs) g (within_back xs zs)))

pub within_grouped : (ws xs ys zs : List ℕ) → IsWithin ws ((xs ++ ys) ++ zs) → IsWithin ws (xs ++ (ys ++ zs))
within_grouped ws xs ys zs h = subst (IsWithin ws) (append_assoc xs ys zs) h

-- ---- what is declared before each step

-- what stands before steps, from a number on
abbrev pub AreBefore : {A : Type 0} → (before : StepNumber → A) → ℕ → List A → Type 0
AreBefore before n [] = Unit {0}
AreBefore before n (d ∷ ds) = (before n ≡ d) × AreBefore before (n + 1) ds

pub length-declared_at : (s : Stmt) (d : List ℕ) → length (declared_at d s) ≡ steps_of s
length-declared_at Empty d = refl
length-declared_at (Then first rest) d =
    omega (arith, length-append (declared_at d first) (declared_at (declared_by first ++ d) rest), length-declared_at first d, length-declared_at rest (declared_by first ++ d))
length-declared_at (Declare number v e) d = omega arith
length-declared_at (Assign number target e) d = omega arith
length-declared_at (Change number target type op in_type e) d = omega arith
length-declared_at (If number test first other) d =
    omega (arith, length-append (declared_at d first) (declared_at d other), length-declared_at first d, length-declared_at other d)
length-declared_at (Loop number test update body) d =
    omega (arith, length-append (declared_at d body) (declared_at d update ++ d ∷ []), length-append (declared_at d update) (d ∷ []), length-declared_at body d, length-declared_at update d)
length-declared_at (BodyFirst number test body) d = omega (arith, length-append (declared_at d body) (d ∷ []), length-declared_at body d)
length-declared_at (Break number) d = omega arith
length-declared_at (Continue number) d = omega arith
length-declared_at (Return number e) d = omega arith
length-declared_at (Switch number e segments) d = omega (arith, length-declared_at segments d)
length-declared_at (Segment label body rest) d =
    omega (arith, length-append (declared_at d body) (declared_at d rest), length-declared_at body d, length-declared_at rest d)
length-declared_at (ForEach number form body) d =
    omega (arith, length-append (declared_at (declared_by_form form ++ d) body) (d ∷ []), length-declared_at body (declared_by_form form ++ d))
length-declared_at (Call number function args result_for) d = omega arith
length-declared_at (Check number e) d = omega arith
length-declared_at (PackedStore number array from e result_for) d = omega arith
length-declared_at (PackedLoad number array from v result_for) d = omega arith

module _ {A : Type 0} (before : StepNumber → A) where
  pub before_front : (n : ℕ) (xs ys : List A) → AreBefore before n (xs ++ ys) → AreBefore before n xs
  before_front n [] ys h = tt
  before_front n (d ∷ xs) ys h = (h.0, before_front (n + 1) xs ys h.1)

  pub before_back : (n : ℕ) (xs ys : List A) → AreBefore before n (xs ++ ys) → AreBefore before (n + length xs) ys
  before_back n [] ys h = let e : n ≡ n + 0 = omega arith in subst (λ m. AreBefore before m ys) e h
  before_back n (d ∷ xs) ys h =
      let e : n + 1 + length xs ≡ n + length (d ∷ xs) = omega arith in
      subst (λ m. AreBefore before m ys) e (before_back (n + 1) xs ys h.1)

module _ (before : StepNumber → List ℕ) where
  -- behind those of a statement
  pub before_after : (n : ℕ) (s : Stmt) (d : List ℕ) (ys : List (List ℕ)) → AreBefore before n (declared_at d s ++ ys) → AreBefore before (n + steps_of s) ys
  before_after n s d ys h = subst (λ m. AreBefore before (n + m) ys) (length-declared_at s d) (before_back before n (declared_at d s) ys h)

pub length-numbered_round : (s : Stmt) (outer : List NumberedForm) → length (numbered_round outer s) ≡ steps_of s
length-numbered_round Empty outer = refl
length-numbered_round (Then first rest) outer =
    omega (arith, length-append (numbered_round outer first) (numbered_round outer rest), length-numbered_round first outer, length-numbered_round rest outer)
length-numbered_round (Declare number v e) outer = omega arith
length-numbered_round (Assign number target e) outer = omega arith
length-numbered_round (Change number target type op in_type e) outer = omega arith
length-numbered_round (If number test first other) outer =
    omega (arith, length-append (numbered_round outer first) (numbered_round outer other), length-numbered_round first outer, length-numbered_round other outer)
length-numbered_round (Loop number test update body) outer =
    omega (arith, length-append (numbered_round outer body) (numbered_round outer update ++ outer ∷ []), length-append (numbered_round outer update) (outer ∷ []), length-numbered_round body outer, length-numbered_round update outer)
length-numbered_round (BodyFirst number test body) outer = omega (arith, length-append (numbered_round outer body) (outer ∷ []), length-numbered_round body outer)
length-numbered_round (Break number) outer = omega arith
length-numbered_round (Continue number) outer = omega arith
length-numbered_round (Return number e) outer = omega arith
length-numbered_round (Switch number e segments) outer = omega (arith, length-numbered_round segments outer)
length-numbered_round (Segment label body rest) outer =
    omega (arith, length-append (numbered_round outer body) (numbered_round outer rest), length-numbered_round body outer, length-numbered_round rest outer)
length-numbered_round (ForEach number form body) outer =
    let inner = numbered_form (round_number number body) form ∷ outer in
    omega (arith, length-append (numbered_round inner body) (inner ∷ []), length-numbered_round body inner)
length-numbered_round (Call number function args result_for) outer = omega arith
length-numbered_round (Check number e) outer = omega arith
length-numbered_round (PackedStore number array from e result_for) outer = omega arith
length-numbered_round (PackedLoad number array from v result_for) outer = omega arith

module _ (about : StepNumber → List NumberedForm) where
  -- behind the forms round each step of a statement
  pub about_after : (n : ℕ) (s : Stmt) (outer : List NumberedForm) (ys : List (List NumberedForm)) → AreBefore about n (numbered_round outer s ++ ys) → AreBefore about (n + steps_of s) ys
  about_after n s outer ys h = subst (λ m. AreBefore about (n + m) ys) (length-numbered_round s outer) (before_back about n (numbered_round outer s) ys h)

-- a list stands behind another
pub before_behind : {A : Type 0} (ds front : List A) (end : A) → AreBefore (λ k. slice_index_or (front ++ ds) k end) (length front) ds
before_behind [] front end = tt
before_behind (d ∷ ds) front end =
    let n : length (front ++ d ∷ []) ≡ length front + 1 = omega (arith, length-append front (d ∷ [])) in
    let rest = before_behind ds (front ++ d ∷ []) end in
    let rest' = subst (λ l. AreBefore (λ k. slice_index_or l k end) (length (front ++ d ∷ [])) ds) (append_assoc front (d ∷ []) ds) rest in
    (get_or-append_seam front d ds end, subst (λ m. AreBefore (λ k. slice_index_or (front ++ d ∷ ds) k end) m ds) n rest')

-- ---- functions

module _ (variables : Variables) (n : ℕ) (f : Function) where
  pub before_steps : AreBefore (declared_before variables n f) 0 (declared_for variables n f)
  before_steps = before_behind (declared_for variables n f) [] (declared_at_end variables n f)

  -- at the closing brace, and past it
  pub before_end : (number : StepNumber) → closing_number f ≤ number → declared_before variables n f number ≡ declared_at_end variables n f
  before_end number past = get_or_past (declared_for variables n f) number (declared_at_end variables n f)
      (omega (arith, past, length-declared_at f.body (scalar_parameters variables n)))

-- what is declared before a `return` is declared behind the statement
if_within : (b : Bool) (xs ys : List ℕ) → IsWithin xs ys → IsWithin (if b then [] else xs) ys
if_within true xs ys h = within_all ys
if_within false xs ys h = h

pub before_return_within : (s : Stmt) → IsWithin (declared_before_return s) (declared_by s)
before_return_within (Then first rest) = if_within (may_return first) _ _
    (within_both (declared_before_return rest) (declared_by first) (declared_by rest ++ declared_by first)
    (within_then (declared_before_return rest) (declared_by rest) (declared_by rest ++ declared_by first) (before_return_within rest) (within_front (declared_by rest) (declared_by first)))
    (within_back (declared_by rest) (declared_by first)))
before_return_within s = if_within (may_return s) (declared_by s) (declared_by s) (within_itself (declared_by s))
