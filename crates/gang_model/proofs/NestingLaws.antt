-- Where a nesting is opened, one more is left.
use Rattle.std.proofs.Common.{ℕ, zero, suc, ◌≡◌, refl}
use Rattle.gang_model.specs.Source.Spells.{Opens}

pub opened : (d : ℕ) (inside : ℕ → Type 0) → Opens d inside → (inner : ℕ) × (d ≡ suc inner) × inside inner
opened zero inside h = absurd h
opened (suc d) inside h = (d, refl, h)
