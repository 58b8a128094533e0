-- What is counted of the times that an access is made, each of which touches some elements.
use Rattle.std.specs.Prelude.{ℕ, Bool, ◌||◌, ◌+◌, ◌≤◌, List, [], ◌∷◌, length, if◌then◌else◌}
use Rattle.element_touches.specs.declared.counts.AccessCounts.{AccessCounts}
use Rattle.element_touches.specs.Touches.{different, is_consecutive, is_equal}

-- the sum of what each of some touches gives
abbrev pub total : (List ℕ → ℕ) → List (List ℕ) → ℕ
total gives [] = 0
total gives (touch ∷ touches) = gives touch + total gives touches

-- 1 where it holds
abbrev pub one_if : Bool → ℕ
one_if b = if b then 1 else 0

-- the elements that neither a vector load nor a broadcast reaches
abbrev pub scattered : List ℕ → ℕ
scattered touch = if is_consecutive touch || is_equal touch then 0 else different touch

-- what is counted of some touches
abbrev pub counts_of : List (List ℕ) → AccessCounts
counts_of touches = record {
  times = length touches;
  lanes = total length touches;
  elements = total different touches;
  consecutive = total (λ touch. one_if (is_consecutive touch)) touches;
  equal = total (λ touch. one_if (is_equal touch)) touches;
  scattered = total scattered touches;
}

-- nothing counted
abbrev pub none : AccessCounts
none = record { times = 0; lanes = 0; elements = 0; consecutive = 0; equal = 0; scattered = 0 }

-- counts with those of other touches
abbrev pub with_touches : AccessCounts → List (List ℕ) → AccessCounts
with_touches c touches = record {
  times = c.times + length touches;
  lanes = c.lanes + total length touches;
  elements = c.elements + total different touches;
  consecutive = c.consecutive + total (λ touch. one_if (is_consecutive touch)) touches;
  equal = c.equal + total (λ touch. one_if (is_equal touch)) touches;
  scattered = c.scattered + total scattered touches;
}

-- counts with one touch more
abbrev pub with_touch : AccessCounts → List ℕ → AccessCounts
with_touch c touch = record {
  times = c.times + 1;
  lanes = c.lanes + length touch;
  elements = c.elements + different touch;
  consecutive = c.consecutive + one_if (is_consecutive touch);
  equal = c.equal + one_if (is_equal touch);
  scattered = c.scattered + scattered touch;
}

-- each count is at most this
pub record IsFew (most : ℕ) (c : AccessCounts) : Type 0 where
  pub times : c.times ≤ most
  pub lanes : c.lanes ≤ most
  pub elements : c.elements ≤ most
  pub consecutive : c.consecutive ≤ most
  pub equal : c.equal ≤ most
  pub scattered : c.scattered ≤ most
