-- A value is 0 in the lanes that do not evaluate it.
use Rattle.std.proofs.Common.{◌≡◌, refl, sym, ap, ◌∙◌, ℕ, zero, suc, Bool, true, false, cond, List, [], ◌∷◌, length}
use Rattle.std.specs.Prelude.{Result, Ok, Err, IfOk}
use Rattle.gang_types.specs.declared.faults.FaultName.{FaultName}
use Rattle.gang_types.specs.declared.types.Rate.{Rate}
use Rattle.gang_types.specs.declared.types.Rate.TheVariants.{Uniform, Varying}
use Rattle.gang_types.specs.Lanes.{Lanes, has}
use Rattle.gang_model.specs.Running.Lanes.{Fault, ◌>>=◌, each, at, one_lane, tried_from, try_each}
use Rattle.gang_model.specs.Running.State.{State, seen}
use Rattle.gang_model.specs.Running.Value.{value}
use Rattle.gang_model.specs.Types.Tree.{Expr, Number, ProgramIndex, ProgramCount, LaneMask, Read, Element, Unary, Binary, Convert, And, Or, Choice, Reduce, Scan, OfOne, OfTwo, Extract, Insert, Rotate, Shift, Shuffle, ShuffleTwo, Select}
use Rattle.gang_model.proofs.LaneWords.{if_ok_bind, if_ok_after, length-try_each}
use Rattle.cross_lane.specs.Calls.{values_in}
use Rattle.cross_lane.specs.EachLaws.{each_is, each_same, lane_kept}

-- only the lanes of the set have words
abbrev pub IsWithin : Lanes → List ℕ → Type 0
IsWithin lanes xs = values_in lanes xs ≡ xs

within-each : (lanes : Lanes) (f : ℕ → ℕ) → IsWithin lanes (each lanes f)
within-each lanes f = each_same (length lanes) lanes (at (each lanes f)) f refl (λ i h e. lane_kept lanes f i e)

-- a list is 0 outside the set
abbrev IsZeroOutside : Lanes → List ℕ → Type 0
IsZeroOutside lanes xs = (i : ℕ) → has lanes i ≡ false → at xs i ≡ 0

one_more : (b : Bool) (lanes : Lanes) (x : ℕ) (xs : List ℕ) → (b ≡ false → x ≡ 0) → IsZeroOutside lanes xs → IsZeroOutside (b ∷ lanes) (x ∷ xs)
one_more b lanes x xs here rest zero e = here e
one_more b lanes x xs here rest (suc i) e = rest i e

in_set : true ≡ false → ⊥
in_set e = cc e

any_value : {A : Type 0} (P : A → Type 0) (r : Result A Fault) → ((x : A) → P x) → IfOk r P
any_value P (Ok x) h = h x
any_value P (Err fault) h = tt

-- the word of one lane, 0 where it is not in the set
one_outside : (b : Bool) (k : ℕ) (f : ℕ → Result ℕ FaultName) → IfOk (one_lane b k f) (λ x. b ≡ false → x ≡ 0)
one_outside false k f = λ e. refl
one_outside true k f = any_value (λ x. true ≡ false → x ≡ 0) (one_lane true k f) (λ x e. absurd (in_set e))

outside : (k : ℕ) (lanes : Lanes) (f : ℕ → Result ℕ FaultName) → IfOk (tried_from k lanes f) (IsZeroOutside lanes)
outside k [] f = λ i e. refl
outside k (b ∷ lanes) f =
    if_ok_bind (λ x. b ≡ false → x ≡ 0) (IsZeroOutside (b ∷ lanes)) (one_lane b k f) _ (one_outside b k f) (λ x here.
    if_ok_bind (IsZeroOutside lanes) (IsZeroOutside (b ∷ lanes)) (tried_from (suc k) lanes f) _ (outside (suc k) lanes f) (λ xs rest. one_more b lanes x xs here rest))

cleared : (lanes : Lanes) (xs : List ℕ) → length xs ≡ length lanes → IsZeroOutside lanes xs → IsWithin lanes xs
cleared lanes xs long out = sym (each_is (length lanes) lanes (at xs) xs refl long (λ i h. lane i (has lanes i) refl))
  where
    lane : (i : ℕ) (b : Bool) → has lanes i ≡ b → at xs i ≡ cond (has lanes i) (at xs i) 0
    lane i true e = sym (ap (λ b. cond b (at xs i) 0) e)
    lane i false e = out i e ∙ sym (ap (λ b. cond b (at xs i) 0) e)

both_ok : (r : Result (List ℕ) Fault) (P Q R : List ℕ → Type 0) → ((xs : List ℕ) → P xs → Q xs → R xs) → IfOk r P → IfOk r Q → IfOk r R
both_ok (Ok xs) P Q R h p q = h xs p q
both_ok (Err fault) P Q R h p q = tt

within-try_each : (lanes : Lanes) (f : ℕ → Result ℕ FaultName) → IfOk (try_each lanes f) (IsWithin lanes)
within-try_each lanes f = both_ok (try_each lanes f) (λ xs. length xs ≡ length lanes) (IsZeroOutside lanes) (IsWithin lanes) (cleared lanes) (length-try_each lanes f) (outside 0 lanes f)

within-seen : (rate : Rate) (lanes : Lanes) (words : List ℕ) → IsWithin lanes (seen rate lanes words)
within-seen Uniform lanes words = within-each lanes _
within-seen Varying lanes words = within-each lanes _

pub within-value : (e : Expr) (lanes : Lanes) (state : State) → IfOk (value e lanes state) (IsWithin lanes)
within-value (Number n) lanes state = within-each lanes _
within-value ProgramIndex lanes state = within-each lanes _
within-value ProgramCount lanes state = within-each lanes _
within-value LaneMask lanes state = within-each lanes _
within-value (Read v) lanes state = within-seen v.rate lanes _
within-value (Element array index) lanes state = if_ok_after _ (value index lanes state) _ (λ i. within-try_each lanes _)
within-value (Unary op type a) lanes state = if_ok_after _ (value a lanes state) _ (λ x. within-each lanes _)
within-value (Binary op type a b) lanes state = if_ok_after _ (value a lanes state) _ (λ x. if_ok_after _ (value b lanes state) _ (λ y. within-try_each lanes _))
within-value (Convert from to a) lanes state = if_ok_after _ (value a lanes state) _ (λ x. within-each lanes _)
within-value (And a b) lanes state = if_ok_after _ (value a lanes state) _ (λ x. if_ok_after _ (value b _ state) _ (λ y. within-each lanes _))
within-value (Or a b) lanes state = if_ok_after _ (value a lanes state) _ (λ x. if_ok_after _ (value b _ state) _ (λ y. within-each lanes _))
within-value (Choice c a b) lanes state = if_ok_after _ (value c lanes state) _ (λ z. if_ok_after _ (value a _ state) _ (λ x. if_ok_after _ (value b _ state) _ (λ y. within-each lanes _)))
within-value (Select c a b) lanes state = if_ok_after _ (value c lanes state) _ (λ z. if_ok_after _ (value a lanes state) _ (λ x. if_ok_after _ (value b lanes state) _ (λ y. within-each lanes _)))
within-value (Reduce f type a) lanes state = if_ok_after _ (value a lanes state) _ (λ x. within-each lanes _)
within-value (Scan f type a) lanes state = if_ok_after _ (value a lanes state) _ (λ x. within-each lanes _)
within-value (OfOne f type a) lanes state = if_ok_after _ (value a lanes state) _ (λ x. within-each lanes _)
within-value (OfTwo f type a b) lanes state = if_ok_after _ (value a lanes state) _ (λ x. if_ok_after _ (value b lanes state) _ (λ y. within-each lanes _))
within-value (Extract a i) lanes state = if_ok_after _ (value a lanes state) _ (λ x. if_ok_after _ (value i lanes state) _ (λ y. within-try_each lanes _))
within-value (Insert a i n) lanes state = if_ok_after _ (value a lanes state) _ (λ x. if_ok_after _ (value i lanes state) _ (λ y. if_ok_after _ (value n lanes state) _ (λ z. if_ok_after _ (try_each lanes _) _ (λ c. within-each lanes _))))
within-value (Rotate a n) lanes state = if_ok_after _ (value a lanes state) _ (λ x. if_ok_after _ (value n lanes state) _ (λ y. within-each lanes _))
within-value (Shift a n) lanes state = if_ok_after _ (value a lanes state) _ (λ x. if_ok_after _ (value n lanes state) _ (λ y. within-each lanes _))
within-value (Shuffle a n) lanes state = if_ok_after _ (value a lanes state) _ (λ x. if_ok_after _ (value n lanes state) _ (λ y. within-try_each lanes _))
within-value (ShuffleTwo a b n) lanes state = if_ok_after _ (value a lanes state) _ (λ x. if_ok_after _ (value b lanes state) _ (λ y. if_ok_after _ (value n lanes state) _ (λ z. within-try_each lanes _)))

-- what follows a value may read its words in the set alone
pub after_within : (e : Expr) (lanes : Lanes) (state : State) (next : List ℕ → Result (List ℕ) Fault) → (value e lanes state >>= λ x. next (values_in lanes x)) ≡ (value e lanes state >>= next)
after_within e lanes state next = go (value e lanes state) (within-value e lanes state)
  where
    go : (r : Result (List ℕ) Fault) → IfOk r (IsWithin lanes) → (r >>= λ x. next (values_in lanes x)) ≡ (r >>= next)
    go (Ok x) h = ap next h
    go (Err fault) h = refl

pub bind_same : (r : Result (List ℕ) Fault) (f g : List ℕ → Result (List ℕ) Fault) → ((x : List ℕ) → f x ≡ g x) → (r >>= f) ≡ (r >>= g)
bind_same (Ok x) f g h = h x
bind_same (Err fault) f g h = refl
