-- Chains of results, and results with their values mapped.
use Rattle.std.proofs.Common.{◌≡◌, refl, subst}
use Rattle.std.specs.Prelude.{Result, Ok, Err, IfOk}
use Rattle.gang_model.specs.Running.Lanes.{Fault, ◌>>=◌}

-- a result with its value mapped
abbrev pub map_ok : {A B : Type 0} → (A → B) → Result A Fault → Result B Fault
map_ok f (Ok x) = Ok (f x)
map_ok f (Err fault) = Err fault

-- equal steps after equal results
pub bind_each : {A B : Type 0} (r : Result A Fault) (f g : A → Result B Fault) → ((x : A) → f x ≡ g x) → (r >>= f) ≡ (r >>= g)
bind_each (Ok x) f g h = h x
bind_each (Err fault) f g h = refl

pub bind_same : {A B : Type 0} (r s : Result A Fault) (f g : A → Result B Fault) → r ≡ s → ((x : A) → f x ≡ g x) → (r >>= f) ≡ (s >>= g)
bind_same r s f g e h = subst (λ z. (r >>= f) ≡ (z >>= g)) e (bind_each r f g h)

-- a map behind a chain
pub bind_map : {A B C : Type 0} (h : B → C) (r : Result A Fault) (f : A → Result B Fault) → map_ok h (r >>= f) ≡ (r >>= (λ x. map_ok h (f x)))
bind_map h (Ok x) f = refl
bind_map h (Err fault) f = refl

pub bind_mapped : {A B C : Type 0} (h : B → C) (r s : Result A Fault) (f : A → Result C Fault) (g : A → Result B Fault) → r ≡ s → ((x : A) → f x ≡ map_ok h (g x)) → (r >>= f) ≡ map_ok h (s >>= g)
bind_mapped h r s f g e k = subst (λ z. (r >>= f) ≡ map_ok h (z >>= g)) e (go r)
  where
    go : (z : Result _ Fault) → (z >>= f) ≡ map_ok h (z >>= g)
    go (Ok x) = k x
    go (Err fault) = refl

pub bind_alike : {A B C : Type 0} (h : B → C) (r s : Result A Fault) (f g : A → Result B Fault) → r ≡ s → ((x : A) → map_ok h (f x) ≡ map_ok h (g x)) → map_ok h (r >>= f) ≡ map_ok h (s >>= g)
bind_alike h r s f g e k = subst (λ z. map_ok h (r >>= f) ≡ map_ok h (z >>= g)) e (go r)
  where
    go : (z : Result _ Fault) → map_ok h (z >>= f) ≡ map_ok h (z >>= g)
    go (Ok x) = k x
    go (Err fault) = refl

-- what holds of the value of a result
pub if_ok_at : {A : Type 0} (Q : A → Type 0) (r : Result A Fault) (x : A) → r ≡ Ok x → IfOk r Q → Q x
if_ok_at Q r x e h = subst (λ z. IfOk z Q) e h
