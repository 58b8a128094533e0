-- Lines with the codes of colours between their bytes.
use Rattle.std.specs.Prelude.{◌≡◌, ◌==◌, ℕ, Bool, true, false, not, List, [], ◌∷◌, ◌++◌, codes, if◌then◌else◌}
use Rattle.std.specs.List.{list_any}
use Rattle.terminal_lines.specs.declared.inks.Ink.{Ink}
use Rattle.terminal_lines.specs.declared.inks.Ink.TheVariants.{Plain, Active, Waiting, Here, Changed}

abbrev pub Bytes : Type 0
Bytes = List ℕ

-- the code of an ink: an escape, `[`, a number and `m`
abbrev pub code : Ink → Bytes
code Plain = 27 ∷ codes "[0m"
code Active = 27 ∷ codes "[32m"
code Waiting = 27 ∷ codes "[90m"
code Here = 27 ∷ codes "[36m"
code Changed = 27 ∷ codes "[33m"

-- a text without its codes, outside of a code or within one: each goes from an escape to the first `m` behind it
abbrev pub visible : (is_code : Bool) → Bytes → Bytes
visible is_code [] = []
visible true (byte ∷ rest) = visible (not (byte == 109)) rest
visible false (byte ∷ rest) = if byte == 27 then visible true rest else byte ∷ visible false rest

abbrev pub without_codes : Bytes → Bytes
without_codes = visible false

abbrev pub has_escape : Bytes → Bool
has_escape = list_any (λ byte. byte == 27)

-- what was added to a text is a line with codes: a line without an escape is what is left without them
abbrev pub AddsColoured : (line before after : Bytes) → Type 0
AddsColoured line before after = (added : Bytes) × (after ≡ before ++ added) × (has_escape line ≡ false → without_codes added ≡ line)
