-- Tests, runs and fronts.
use Rattle.std.proofs.Common.{◌≡◌, ◌⊎◌, inl, inr, ℕ, zero, suc, ◌-◌, ◌+◌, ◌≤◌, List, [], ◌∷◌, ◌++◌, length, take, drop, Option, Some, None, Bool, true, false, cond, ◌&&◌, refl, arith, one-add}
use Rattle.std.specs.Prelude.{nat_eq}
use Rattle.std.specs.List.{list_all, prefix_len, starts_with}
use Rattle.std.proofs.lemmas.Bool.Decides.{Decides-eqb}
use Rattle.std.proofs.lemmas.Slice.Eq.{starts_is}
use Rattle.std.proofs.lemmas.Grind.{common_steps}
use Rattle.ispc_lexer.specs.Options.{◌>>=◌, if_some}

pub bind_some : {A B : Type 0} (r : Option A) (f : A → Option B) (y : B) → (r >>= f) ≡ Some y → (x : A) × (r ≡ Some x) × (f x ≡ Some y)
bind_some None f y e = absurd cc
bind_some (Some x) f y e = (x, refl, e)

pub chosen : {A B : Type 0} (o : Option A) (f : A → B) (d z : B) → if_some o f d ≡ z → ((x : A) × (o ≡ Some x) × (f x ≡ z)) ⊎ ((o ≡ None) × (d ≡ z))
chosen None f d z e = inr (refl, e)
chosen (Some x) f d z e = inl (x, refl, e)

pub which : {A : Type 0} (c : Bool) (x y z : A) → cond c x y ≡ z → ((c ≡ true) × (x ≡ z)) ⊎ ((c ≡ false) × (y ≡ z))
which true x y z e = inl (refl, e)
which false x y z e = inr (refl, e)

pub both_true : (a b : Bool) → (a && b) ≡ true → (a ≡ true) × (b ≡ true)
both_true true b e = (refl, e)
both_true false b e = absurd cc

pub is_false : (c : Bool) → (c ≡ true → ⊥) → c ≡ false
is_false true h = absurd (h refl)
is_false false h = refl

-- ---- runs

abbrev pub Ends : (ℕ → Bool) → List ℕ → Type 0
Ends p [] = Unit {0}
Ends p (x ∷ xs) = p x ≡ false

module _ (p : ℕ → Bool) where
  pub run_all : (xs : List ℕ) → list_all p (take (prefix_len p xs) xs) ≡ true
  run_all [] = refl
  run_all (x ∷ xs) = go (p x) refl (run_all xs)
    where
      go : (v : Bool) → p x ≡ v → list_all p (take (prefix_len p xs) xs) ≡ true → list_all p (take (cond v (1 + prefix_len p xs) 0) (x ∷ xs)) ≡ true
      go true e rest = rw (one-add, e) rest
      go false e rest = refl

  pub run_ends : (xs : List ℕ) → Ends p (drop (prefix_len p xs) xs)
  run_ends [] = tt
  run_ends (x ∷ xs) = go (p x) refl (run_ends xs)
    where
      go : (v : Bool) → p x ≡ v → Ends p (drop (prefix_len p xs) xs) → Ends p (drop (cond v (1 + prefix_len p xs) 0) (x ∷ xs))
      go true e rest = rw one-add rest
      go false e rest = e

  pub run_again : (text after : List ℕ) → list_all p text ≡ true → Ends p after → prefix_len p (text ++ after) ≡ length text
  run_again [] [] all ends = refl
  run_again [] (y ∷ ys) all ends = rw ends refl
  run_again (x ∷ text) after all ends =
      let b = both_true (p x) (list_all p text) all in
      rw (b.0, run_again text after b.1 ends) (one-add (length text))

-- ---- fronts

pub starts_sound : (s p : List ℕ) → starts_with nat_eq s p ≡ true → s ≡ p ++ drop (length p) s
starts_sound s p e = (starts_is Decides-eqb s p (starts_with nat_eq s p) refl).0 e

pub starts_again : (s p rest : List ℕ) → s ≡ p ++ rest → starts_with nat_eq s p ≡ true
starts_again s p rest e = (starts_is Decides-eqb s p (starts_with nat_eq s p) refl).1 rest e

pub starts_not : (s p : List ℕ) → ((rest : List ℕ) → s ≡ p ++ rest → ⊥) → starts_with nat_eq s p ≡ false
starts_not s p h = is_false (starts_with nat_eq s p) (λ e. h (drop (length p) s) (starts_sound s p e))

-- ---- what is left behind a place

pub drop_past : (bs : List ℕ) (i : ℕ) → length bs ≤ i → drop i bs ≡ []
drop_past [] zero le = refl
drop_past [] (suc i) le = refl
drop_past (b ∷ bs) zero le = absurd (omega arith)
drop_past (b ∷ bs) (suc i) le = drop_past bs i (omega arith)

pub tail_is : (bs : List ℕ) (i : ℕ) → take (length bs - i) (drop i bs) ≡ drop i bs
tail_is bs i = grind (arith, common_steps)
