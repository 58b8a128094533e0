-- A result that follows another one: it is no fault where the other is none, and the values are related.
use Rattle.std.proofs.Common.{◌≡◌, refl, sym, ap, ◌∙◌, subst, ℕ, Bool, true, false, List, arith}
use Rattle.std.specs.Prelude.{Result, Ok, Err, IfOk, MatchResult, ◌&&◌}
use Rattle.gang_types.specs.declared.faults.FaultName.{FaultName}
use Rattle.gang_types.specs.Lanes.{Lanes, has, lanes_where}
use Rattle.gang_types.specs.LaneLaws.{has-lanes_where}
use Rattle.gang_model.specs.Running.Lanes.{Fault, ◌>>=◌, each, tried_from, try_each, at}
use Rattle.gang_model.proofs.LaneWords.{if_ok_bind, TriedFrom, FaultsFrom, tries, none_true}
use Rattle.gang_model.proofs.UniformValues.{at-each, has_where}
use Rattle.lane_alone.specs.Fits.{Only}

-- where the first result is a value, so is the second, and the values are related
abbrev pub Follows : {A B : Type 0} → (A → B → Type 0) → Result A Fault → Result B Fault → Type 0
Follows {A} {B} Q r other = IfOk r (λ x. (y : B) × (other ≡ Ok y) × Q x y)

pub follows_ok : {A B : Type 0} (Q : A → B → Type 0) (x : A) (y : B) → Q x y → Follows Q (Ok x) (Ok y)
follows_ok Q x y q = (y, refl, q)

pub follows_bind : {A B C D : Type 0} (Q : A → B → Type 0) (R : C → D → Type 0) (r : Result A Fault) (other : Result B Fault) (next : A → Result C Fault) (next' : B → Result D Fault)
    → Follows Q r other → ((x : A) (y : B) → Q x y → Follows R (next x) (next' y)) → Follows R (r >>= next) (other >>= next')
follows_bind {B = B} {D = D} Q R r other next next' h go =
    if_ok_bind (λ x. (y : B) × (other ≡ Ok y) × Q x y) (λ z. (w : D) × ((other >>= next') ≡ Ok w) × R z w) r next h
    (λ x f. subst (λ q. Follows R (next x) (q >>= next')) (sym f.1) (go x f.0 f.2))

-- ---- one lane of two sets

-- the values are the same in lane k, where it is in the set
abbrev pub AtLane : ℕ → Lanes → List ℕ → List ℕ → Type 0
AtLane k alone xs ys = has alone k ≡ true → at xs k ≡ at ys k

-- lane k is in the set if it is in the other, which has no other lane
pub record Part (k : ℕ) (lanes alone : Lanes) : Type 0 where
  pub only : Only k alone
  pub among : has alone k ≡ true → has lanes k ≡ true

pub first_of : (a b : Bool) → (a && b) ≡ true → a ≡ true
first_of true b h = refl
first_of false b h = absurd (none_true h)

pub second_of : (a b : Bool) → (a && b) ≡ true → b ≡ true
second_of true b h = h
second_of false b h = absurd (none_true h)

pub where_has : (lanes : Lanes) (test : ℕ → Bool) (k : ℕ) → has (lanes_where lanes test) k ≡ true → has lanes k ≡ true
where_has lanes test k h = first_of (has lanes k) (test k) (sym (has-lanes_where lanes test k) ∙ h)

pub where_test : (lanes : Lanes) (test : ℕ → Bool) (k : ℕ) → has (lanes_where lanes test) k ≡ true → test k ≡ true
where_test lanes test k h = second_of (has lanes k) (test k) (sym (has-lanes_where lanes test k) ∙ h)

-- the lanes that pass a test, which is the same for lane k
pub part_where : (k : ℕ) (lanes alone : Lanes) (test test' : ℕ → Bool) → Part k lanes alone → (has alone k ≡ true → test k ≡ test' k) → Part k (lanes_where lanes test) (lanes_where alone test')
part_where k lanes alone test test' part same = record {
  only = λ j h. part.only j (where_has alone test' j h);
  among = λ h.
      let here : has alone k ≡ true = where_has alone test' k h in
      has_where lanes test k (part.among here) (same here ∙ where_test alone test' k h);
}

word_or_zero : Result ℕ FaultName → ℕ
word_or_zero (Ok x) = x
word_or_zero (Err name) = 0

same_ok : (x y : ℕ) (r s : Result ℕ FaultName) → r ≡ Ok x → s ≡ Ok y → r ≡ s → x ≡ y
unfolding word_or_zero
same_ok x y r s e f same = ap word_or_zero (sym e ∙ same ∙ f)

ok_err : {A B : Type 0} {x : A} {y : B} → Ok x ≡ Err y → ⊥
ok_err q = cc

pub follows_each : (k : ℕ) (lanes alone : Lanes) (f g : ℕ → ℕ) → Part k lanes alone → (has alone k ≡ true → f k ≡ g k) → Follows (AtLane k alone) (Ok (each lanes f)) (Ok (each alone g))
follows_each k lanes alone f g part same = (each alone g, refl, λ h. at-each lanes f k (part.among h) ∙ same h ∙ sym (at-each alone g k h))

pub follows_tried : (k : ℕ) (lanes alone : Lanes) (f g : ℕ → Result ℕ FaultName) → Part k lanes alone → (has alone k ≡ true → f k ≡ g k) → Follows (AtLane k alone) (try_each lanes f) (try_each alone g)
follows_tried k lanes alone f g part same = go (tried_from 0 lanes f) (tries 0 lanes f) (tried_from 0 alone g) (tries 0 alone g)
  where
    go : (r : Result (List ℕ) Fault) → MatchResult r (TriedFrom 0 lanes f) (FaultsFrom 0 lanes f) → (s : Result (List ℕ) Fault) → MatchResult s (TriedFrom 0 alone g) (FaultsFrom 0 alone g) → Follows (AtLane k alone) r s
    go (Err fault) h s t = tt
    go (Ok xs) h (Ok ys) t = (
      ys,
      refl,
      λ m.
          same_ok (at xs k) (at ys k) (f k) (g k) (subst (λ n. f n ≡ Ok (at xs k)) (omega arith) (h k (part.among m))) (subst (λ n. g n ≡ Ok (at ys k)) (omega arith) (t k m)) (same m),
    )
    go (Ok xs) h (Err fault) t =
        let is : t.place ≡ k = part.only t.place t.in_set in
        let m : has alone k ≡ true = subst (λ n. has alone n ≡ true) is t.in_set in
        let fine : f k ≡ Ok (at xs k) = subst (λ n. f n ≡ Ok (at xs k)) (omega arith) (h k (part.among m)) in
        let wrong : g k ≡ Err fault.name = subst (λ n. g n ≡ Err fault.name) (omega (arith, is)) t.faults in
        absurd (ok_err (sym fine ∙ same m ∙ wrong))
