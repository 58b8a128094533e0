-- Counts, and what one step more makes of them.
use Rattle.std.specs.Prelude.{◌≡◌, ◌≢◌, ℕ, Bool, ◌&&◌, ◌+◌, ◌≤◌, ◌==◌, List, Option, Some, None, if◌then◌else◌, nat_lt, slice_index_or}
use Rattle.lane_counts.specs.declared.counts.Counts.{Counts}
use Rattle.lane_counts.specs.Steps.{one_if}

-- nothing counted
abbrev pub none : Counts
none = record { steps = 0; lane_steps = 0; short_steps = 0; partings = 0 }

-- counts with a step more, which so many of the lanes do
abbrev pub with_step : (lanes width : ℕ) → Counts → Counts
with_step lanes width c =
    record { steps = c.steps + 1; lane_steps = c.lane_steps + lanes; short_steps = c.short_steps + one_if (nat_lt lanes width); partings = c.partings }

-- counts with so many partings more
abbrev pub with_partings : ℕ → Counts → Counts
with_partings n c = record { steps = c.steps; lane_steps = c.lane_steps; short_steps = c.short_steps; partings = c.partings + n }

-- counts with a parting more
abbrev pub with_parting : Counts → Counts
with_parting c = with_partings 1 c

-- counts with what a step adds: where it is one that is counted, so many of the lanes that do it, and so many partings that it decides
abbrev pub noted : (is_counted : Bool) → (lanes width parted : ℕ) → Counts → Counts
noted is_counted lanes width parted c = record {
  steps = c.steps + one_if is_counted;
  lane_steps = c.lane_steps + (if is_counted then lanes else 0);
  short_steps = c.short_steps + one_if (is_counted && nat_lt lanes width);
  partings = c.partings + parted;
}

-- 1 where this is the number that is given
abbrev pub hits : Option ℕ → (number : ℕ) → ℕ
hits None number = 0
hits (Some given) number = one_if (given == number)

-- the counts of a number, none where there are no such counts
abbrev pub counts_at : List Counts → ℕ → Counts
counts_at rows number = slice_index_or rows number none

-- the counts of all numbers but one are the same
abbrev pub AreSameBut : (number : ℕ) → (old new : List Counts) → Type 0
AreSameBut number old new = (other : ℕ) → other ≢ number → counts_at new other ≡ counts_at old other

-- each count is at most this
pub record IsFew (most : ℕ) (c : Counts) : Type 0 where
  pub steps : c.steps ≤ most
  pub lane_steps : c.lane_steps ≤ most
  pub short_steps : c.short_steps ≤ most
  pub partings : c.partings ≤ most

-- so are those of each number
abbrev pub AreFew : (most : ℕ) → List Counts → Type 0
AreFew most rows = (number : ℕ) → IsFew most (counts_at rows number)
