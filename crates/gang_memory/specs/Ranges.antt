-- Ranges of words, one behind the other.
use Rattle.std.specs.Prelude.{ℕ, ◌+◌, ◌≤◌, List, [], ◌∷◌, map}
use Rattle.gang_memory.specs.declared.parts.Part.{Part}

abbrev pub range : (first len : ℕ) → Part
range first len = record { first = first; len = len }

-- ranges of these sizes from a word on, each beginning where the one before it ends
abbrev pub ranges_from : (first : ℕ) → (sizes : List ℕ) → List Part
ranges_from first [] = []
ranges_from first (len ∷ sizes) = range first len ∷ ranges_from (first + len) sizes

abbrev pub sizes_of : List Part → List ℕ
sizes_of parts = map (λ p. p.len) parts

-- the ranges lie between two words, and none begins before the one before it has ended: no two of them have a word in common
abbrev pub AreInOrder : (from : ℕ) → List Part → (to : ℕ) → Type 0
AreInOrder from [] to = from ≤ to
AreInOrder from (p ∷ parts) to = (from ≤ p.first) × AreInOrder (p.first + p.len) parts to
