-- Lines and columns of a text.
use Rattle.std.specs.Prelude.{◌≡◌, ◌≢◌, ◌⊎◌, ◌+◌, ◌-◌, ◌<◌, ◌≤◌, ℕ, List, nat_eq, slice_index, take}
use Rattle.std.specs.List.{count_by}

-- one more than the line ends before the place
abbrev pub line_at : List ℕ → ℕ → ℕ
line_at text at = count_by (λ byte. nat_eq byte 10) (take at text) + 1

-- the bytes of its line before the place are one fewer than its column: none of them ends a line, and before them a line ends or nothing stands
pub record IsColumn (text : List ℕ) (at column : ℕ) : Type 0 where
  pub least : 1 ≤ column
  pub within : column ≤ at + 1
  pub same_line : (k : ℕ) → at < k + column → k < at → slice_index text k ≢ 10
  pub begins : (column ≡ at + 1) ⊎ (slice_index text (at - column) ≡ 10)
