-- Where the words of the file lie.
use Rattle.std.specs.Prelude.{ℕ, ◌+◌, ◌≤◌, List, All}
use Rattle.gang_memory.specs.declared.parts.Part.{Part}

-- each range ends at this word or before it
abbrev pub LieBefore : (end : ℕ) → List Part → Type 0
LieBefore end parts = All (λ part. part.first + part.len ≤ end) parts
