-- Every value has a word for each lane of the gang; what `try_each` gives is the value of each lane, or the fault of the lowest
-- lane that has one.
use Rattle.std.proofs.Common.{◌≡◌, refl, sym, ap, ◌∙◌, subst, ℕ, zero, suc, ◌+◌, ◌<◌, true, false, List, [], ◌∷◌, length, arith}
use Rattle.std.specs.Prelude.{Bool, Result, Ok, Err, IfOk, MatchResult, if◌then◌else◌}
use Rattle.gang_types.specs.declared.faults.FaultName.{FaultName}
use Rattle.gang_types.specs.declared.types.Rate.{Rate}
use Rattle.gang_types.specs.declared.types.Rate.TheVariants.{Uniform, Varying}
use Rattle.gang_types.specs.Lanes.{Lanes, has}
use Rattle.gang_model.specs.Running.Lanes.{Fault, ◌>>=◌, words_from, each, merged, one_lane, in_lane, tried_from, try_each, at}
use Rattle.gang_model.specs.Types.Tree.{Expr, Number, ProgramIndex, ProgramCount, LaneMask, Read, Element, Unary, Binary, Convert, And, Or, Choice, Reduce, Scan, OfOne, OfTwo, Extract, Insert, Rotate, Shift, Shuffle, ShuffleTwo, Select}
use Rattle.gang_model.specs.Running.State.{State, seen}
use Rattle.gang_model.specs.Running.Value.{value}

-- what holds of the last value of a chain
pub if_ok_bind : {A B : Type 0} (P : A → Type 0) (Q : B → Type 0) (r : Result A Fault) (next : A → Result B Fault) → IfOk r P → ((x : A) → P x → IfOk (next x) Q) → IfOk (r >>= next) Q
if_ok_bind P Q (Ok x) next h go = go x h
if_ok_bind P Q (Err fault) next h go = tt

-- a list has a word for each lane
abbrev pub Fills : Lanes → List ℕ → Type 0
Fills lanes xs = length xs ≡ length lanes

pub length-words_from : (k : ℕ) (lanes : Lanes) (f : ℕ → ℕ) → length (words_from k lanes f) ≡ length lanes
length-words_from k [] f = refl
length-words_from k (b ∷ lanes) f = ap suc (length-words_from (suc k) lanes f)

pub length-each : (lanes : Lanes) (f : ℕ → ℕ) → Fills lanes (each lanes f)
length-each lanes f = length-words_from 0 lanes f

pub length-merged : (lanes : Lanes) (new old : List ℕ) → length new ≡ length lanes → length old ≡ length lanes → length (merged lanes new old) ≡ length lanes
length-merged [] new old e f = refl
length-merged (b ∷ lanes) [] old e f = absurd (omega arith)
length-merged (b ∷ lanes) (x ∷ new) [] e f = absurd (omega arith)
length-merged (b ∷ lanes) (x ∷ new) (y ∷ old) e f = ap suc (length-merged lanes new old (omega arith) (omega arith))

any_ok : {A : Type 0} (r : Result A Fault) → IfOk r (λ x. Unit {0})
any_ok (Ok x) = tt
any_ok (Err fault) = tt

pub length-tried_from : (k : ℕ) (lanes : Lanes) (f : ℕ → Result ℕ FaultName) → IfOk (tried_from k lanes f) (Fills lanes)
length-tried_from k [] f = refl
length-tried_from k (b ∷ lanes) f =
    if_ok_bind (λ x. Unit {0}) (Fills (b ∷ lanes)) (one_lane b k f) _ (any_ok (one_lane b k f)) (λ x _.
    if_ok_bind (Fills lanes) (Fills (b ∷ lanes)) (tried_from (suc k) lanes f) _ (length-tried_from (suc k) lanes f) (λ xs h. ap suc h))

pub length-try_each : (lanes : Lanes) (f : ℕ → Result ℕ FaultName) → IfOk (try_each lanes f) (Fills lanes)
length-try_each lanes f = length-tried_from 0 lanes f

pub length-seen : (rate : Rate) (lanes : Lanes) (words : List ℕ) → Fills lanes (seen rate lanes words)
length-seen Uniform lanes words = length-each lanes _
length-seen Varying lanes words = length-each lanes _

-- what holds of the last value of a chain, whatever the first one is
pub if_ok_after : {A B : Type 0} (Q : B → Type 0) (r : Result A Fault) (next : A → Result B Fault) → ((x : A) → IfOk (next x) Q) → IfOk (r >>= next) Q
if_ok_after Q (Ok x) next go = go x
if_ok_after Q (Err fault) next go = tt

-- what holds of a value, unless there is a fault
pub if_or_ok : {A : Type 0} (P : A → Type 0) (b : Bool) (fault : Fault) (x : A) → P x → IfOk (if b then Err fault else Ok x) P
if_or_ok P true fault x h = tt
if_or_ok P false fault x h = h

-- an expression's value has a word for each lane of the gang
pub length-value : (e : Expr) (lanes : Lanes) (state : State) → IfOk (value e lanes state) (Fills lanes)
length-value (Number n) lanes state = length-each lanes _
length-value ProgramIndex lanes state = length-each lanes _
length-value ProgramCount lanes state = length-each lanes _
length-value LaneMask lanes state = length-each lanes _
length-value (Read v) lanes state = length-seen v.rate lanes _
length-value (Element array index) lanes state = if_ok_after _ (value index lanes state) _ (λ i. length-try_each lanes _)
length-value (Unary op type a) lanes state = if_ok_after _ (value a lanes state) _ (λ x. length-each lanes _)
length-value (Binary op type a b) lanes state = if_ok_after _ (value a lanes state) _ (λ x. if_ok_after _ (value b lanes state) _ (λ y. length-try_each lanes _))
length-value (Convert from to a) lanes state = if_ok_after _ (value a lanes state) _ (λ x. length-each lanes _)
length-value (And a b) lanes state = if_ok_after _ (value a lanes state) _ (λ x. if_ok_after _ (value b _ state) _ (λ y. length-each lanes _))
length-value (Or a b) lanes state = if_ok_after _ (value a lanes state) _ (λ x. if_ok_after _ (value b _ state) _ (λ y. length-each lanes _))
length-value (Choice c a b) lanes state = if_ok_after _ (value c lanes state) _ (λ z. if_ok_after _ (value a _ state) _ (λ x. if_ok_after _ (value b _ state) _ (λ y. length-each lanes _)))
length-value (Select c a b) lanes state = if_ok_after _ (value c lanes state) _ (λ z. if_ok_after _ (value a lanes state) _ (λ x. if_ok_after _ (value b lanes state) _ (λ y. length-each lanes _)))
length-value (Reduce f type a) lanes state = if_ok_after _ (value a lanes state) _ (λ x. length-each lanes _)
length-value (Extract a i) lanes state = if_ok_after _ (value a lanes state) _ (λ x. if_ok_after _ (value i lanes state) _ (λ y. length-try_each lanes _))
length-value (Rotate a n) lanes state = if_ok_after _ (value a lanes state) _ (λ x. if_ok_after _ (value n lanes state) _ (λ y. length-each lanes _))
length-value (Scan f type a) lanes state = if_ok_after _ (value a lanes state) _ (λ x. length-each lanes _)
length-value (OfOne f type a) lanes state = if_ok_after _ (value a lanes state) _ (λ x. length-each lanes _)
length-value (OfTwo f type a b) lanes state = if_ok_after _ (value a lanes state) _ (λ x. if_ok_after _ (value b lanes state) _ (λ y. length-each lanes _))
length-value (Shift a n) lanes state = if_ok_after _ (value a lanes state) _ (λ x. if_ok_after _ (value n lanes state) _ (λ y. length-each lanes _))
length-value (Shuffle a n) lanes state = if_ok_after _ (value a lanes state) _ (λ x. if_ok_after _ (value n lanes state) _ (λ y. length-try_each lanes _))
length-value (ShuffleTwo a b n) lanes state = if_ok_after _ (value a lanes state) _ (λ x. if_ok_after _ (value b lanes state) _ (λ y. if_ok_after _ (value n lanes state) _ (λ z. length-try_each lanes _)))
length-value (Insert a i n) lanes state = if_ok_after _ (value a lanes state) _ (λ x. if_ok_after _ (value i lanes state) _ (λ y. if_ok_after _ (value n lanes state) _ (λ z. if_ok_after _ (try_each lanes _) _ (λ c. length-each lanes _))))

-- ---- what happens in each lane

-- f is a value in each lane of the set, and that of the list; at a fault the lane is the lowest one that has one
abbrev pub TriedFrom : ℕ → Lanes → (ℕ → Result ℕ FaultName) → List ℕ → Type 0
TriedFrom k lanes f xs = (j : ℕ) → has lanes j ≡ true → f (k + j) ≡ Ok (at xs j)

pub record FaultsFrom (k : ℕ) (lanes : Lanes) (f : ℕ → Result ℕ FaultName) (fault : Fault) : Type 0 where
  pub place : ℕ
  pub lane_is : fault.lane ≡ k + place
  pub in_set : has lanes place ≡ true
  pub faults : f (k + place) ≡ Err fault.name
  pub lowest : (j : ℕ) → j < place → has lanes j ≡ true → (x : ℕ) × (f (k + j) ≡ Ok x)

pub none_true : false ≡ true → ⊥
none_true h = cc h

pub past : (k j : ℕ) → suc k + j ≡ k + suc j
past k j = omega arith

-- a lane that is not in the set
skip : (k : ℕ) (lanes : Lanes) (f : ℕ → Result ℕ FaultName) (r : Result (List ℕ) Fault) → MatchResult r (TriedFrom (suc k) lanes f) (FaultsFrom (suc k) lanes f) → MatchResult (r >>= (λ xs. Ok (0 ∷ xs))) (TriedFrom k (false ∷ lanes) f) (FaultsFrom k (false ∷ lanes) f)
skip k lanes f (Ok xs) h = each_lane
  where
    each_lane : TriedFrom k (false ∷ lanes) f (0 ∷ xs)
    each_lane zero m = absurd (none_true m)
    each_lane (suc j) m = subst (λ n. f n ≡ Ok (at xs j)) (past k j) (h j m)
skip k lanes f (Err fault) h = record {
  place = suc h.place;
  lane_is = h.lane_is ∙ past k h.place;
  in_set = h.in_set;
  faults = subst (λ n. f n ≡ Err fault.name) (past k h.place) h.faults;
  lowest = below;
}
  where
    below : (j : ℕ) → j < suc h.place → has (false ∷ lanes) j ≡ true → (x : ℕ) × (f (k + j) ≡ Ok x)
    below zero less m = absurd (none_true m)
    below (suc j) less m = subst (λ n. (x : ℕ) × (f n ≡ Ok x)) (past k j) (h.lowest j (omega (arith, less)) m)

-- a lane that is in the set and has a value
take_one : (k : ℕ) (lanes : Lanes) (f : ℕ → Result ℕ FaultName) (x : ℕ) → f k ≡ Ok x → (r : Result (List ℕ) Fault) → MatchResult r (TriedFrom (suc k) lanes f) (FaultsFrom (suc k) lanes f) → MatchResult (r >>= (λ xs. Ok (x ∷ xs))) (TriedFrom k (true ∷ lanes) f) (FaultsFrom k (true ∷ lanes) f)
take_one k lanes f x is (Ok xs) h = each_lane
  where
    each_lane : TriedFrom k (true ∷ lanes) f (x ∷ xs)
    each_lane zero m = subst (λ n. f n ≡ Ok x) (omega arith) is
    each_lane (suc j) m = subst (λ n. f n ≡ Ok (at xs j)) (past k j) (h j m)
take_one k lanes f x is (Err fault) h = record {
  place = suc h.place;
  lane_is = h.lane_is ∙ past k h.place;
  in_set = h.in_set;
  faults = subst (λ n. f n ≡ Err fault.name) (past k h.place) h.faults;
  lowest = below;
}
  where
    below : (j : ℕ) → j < suc h.place → has (true ∷ lanes) j ≡ true → (x : ℕ) × (f (k + j) ≡ Ok x)
    below zero less m = (x, subst (λ n. f n ≡ Ok x) (omega arith) is)
    below (suc j) less m = subst (λ n. (x : ℕ) × (f n ≡ Ok x)) (past k j) (h.lowest j (omega (arith, less)) m)

nothing_below : (j : ℕ) → j < 0 → ⊥
nothing_below j less = omega (arith, less)

-- what is tried in each lane gives these values or this fault
pub tries : (k : ℕ) (lanes : Lanes) (f : ℕ → Result ℕ FaultName) → MatchResult (tried_from k lanes f) (TriedFrom k lanes f) (FaultsFrom k lanes f)
tries k [] f = λ j h. absurd (none_true h)
tries k (false ∷ lanes) f = skip k lanes f (tried_from (suc k) lanes f) (tries (suc k) lanes f)
tries k (true ∷ lanes) f = go (f k) refl (tries (suc k) lanes f)
  where
    go : (r : Result ℕ FaultName) → f k ≡ r → MatchResult (tried_from (suc k) lanes f) (TriedFrom (suc k) lanes f) (FaultsFrom (suc k) lanes f) → MatchResult (tried_from k (true ∷ lanes) f) (TriedFrom k (true ∷ lanes) f) (FaultsFrom k (true ∷ lanes) f)
    go (Ok x) is rest =
        subst (λ r. MatchResult (r >>= (λ x. tried_from (suc k) lanes f >>= (λ xs. Ok (x ∷ xs)))) (TriedFrom k (true ∷ lanes) f) (FaultsFrom k (true ∷ lanes) f))
        (sym (ap (in_lane k) is)) (take_one k lanes f x is (tried_from (suc k) lanes f) rest)
    go (Err name) is rest = subst (λ r. MatchResult (r >>= (λ x. tried_from (suc k) lanes f >>= (λ xs. Ok (x ∷ xs)))) (TriedFrom k (true ∷ lanes) f) (FaultsFrom k (true ∷ lanes) f))
        (sym (ap (in_lane k) is)) (record {
          place = 0;
          lane_is = omega arith;
          in_set = refl;
          faults = subst (λ n. f n ≡ Err name) (omega arith) is;
          lowest = λ j less. absurd (nothing_below j less);
        })
