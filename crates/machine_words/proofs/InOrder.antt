-- Ranges that lie one behind the other have no word in common.
use Rattle.std.proofs.Common.{ℕ, zero, suc, ◌+◌, ◌<◌, ◌≤◌, ◌⊎◌, inl, inr, ◌≡◌, subst, arith, List, [], ◌∷◌, Some}
use Rattle.std.specs.Prelude.{slice_get}
use Rattle.std.proofs.lemmas.Bool.{cases_order}
use Rattle.std.proofs.lemmas.Option.{none-some, same_Some}
use Rattle.gang_memory.specs.declared.parts.Part.{Part}
use Rattle.gang_memory.specs.Ranges.{AreInOrder}

ends_behind : (from to : ℕ) (parts : List Part) → AreInOrder from parts to → from ≤ to
ends_behind from to [] order = order
ends_behind from to (x ∷ parts) order = omega (arith, order.0, ends_behind (x.first + x.len) to parts order.1)

-- each range lies between the two words
pub lies_between : (from to : ℕ) (parts : List Part) (i : ℕ) (p : Part) → AreInOrder from parts to → slice_get parts i ≡ Some p → (from ≤ p.first) × (p.first + p.len ≤ to)
lies_between from to [] i p order e = absurd (none-some p e)
lies_between from to (x ∷ parts) zero p order e = subst (λ (q : Part). (from ≤ q.first) × (q.first + q.len ≤ to)) (same_Some x p e) (order.0, ends_behind (x.first + x.len) to parts order.1)
lies_between from to (x ∷ parts) (suc i) p order e = let rest = lies_between (x.first + x.len) to parts i p order.1 e in (omega (arith, order.0, rest.0), rest.1)

-- a range of a greater number lies behind
lies_behind : (from to : ℕ) (parts : List Part) (i j : ℕ) (p q : Part) → AreInOrder from parts to → slice_get parts i ≡ Some p → slice_get parts j ≡ Some q → i < j → p.first + p.len ≤ q.first
lies_behind from to [] i j p q order e f h = absurd (none-some p e)
lies_behind from to (x ∷ parts) zero zero p q order e f h = absurd (omega arith)
lies_behind from to (x ∷ parts) zero (suc j) p q order e f h = subst (λ (r : Part). r.first + r.len ≤ q.first) (same_Some x p e) (lies_between (x.first + x.len) to parts j q order.1 f).0
lies_behind from to (x ∷ parts) (suc i) zero p q order e f h = absurd (omega arith)
lies_behind from to (x ∷ parts) (suc i) (suc j) p q order e f h = lies_behind (x.first + x.len) to parts i j p q order.1 e f (omega arith)

abbrev pub AreApart : Part → Part → Type 0
AreApart p q = (p.first + p.len ≤ q.first) ⊎ (q.first + q.len ≤ p.first)

pub ranges_apart : (from to : ℕ) (parts : List Part) (i j : ℕ) (p q : Part) → AreInOrder from parts to → slice_get parts i ≡ Some p → slice_get parts j ≡ Some q → (i ≡ j → ⊥) → AreApart p q
ranges_apart from to parts i j p q order e f d =
    elim (cases_order i j) [
      | inl same ↦ absurd (d same)
      | inr (inl below) ↦ inl (lies_behind from to parts i j p q order e f below)
      | inr (inr above) ↦ inr (lies_behind from to parts j i q p order f e above)
    ]
