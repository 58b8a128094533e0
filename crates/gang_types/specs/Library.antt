-- The library's calls on the values of one lane.
use Rattle.std.specs.Prelude.{ℕ, zero, suc, ◌+◌, ◌/◌, ◌%◌, pos, int_lt, unsigned_abs, if◌then◌else◌}
use Rattle.gang_types.specs.declared.types.IntType.{IntType}
use Rattle.gang_types.specs.Values.{width, value_of, wrapped}

-- the word of the lesser value
abbrev pub lesser : IntType → ℕ → ℕ → ℕ
lesser ty x y = if int_lt (value_of ty y) (value_of ty x) then y else x

-- the word of the larger value
abbrev pub larger : IntType → ℕ → ℕ → ℕ
larger ty x y = if int_lt (value_of ty x) (value_of ty y) then y else x

-- a value brought up to the low end, and then down to the high end
abbrev pub clamped : IntType → ℕ → ℕ → ℕ → ℕ
clamped ty v low high = lesser ty (larger ty v low) high

-- a value without its sign; the least value of a signed type is itself
abbrev pub absolute : IntType → ℕ → ℕ
absolute ty x = wrapped ty (pos (unsigned_abs (value_of ty x)))

-- how many of the lowest k bits are 1
abbrev pub set_bits : ℕ → ℕ → ℕ
set_bits zero n = 0
set_bits (suc k) n = n % 2 + set_bits k (n / 2)

-- how many bits of the type's width are 1
abbrev pub bit_count : IntType → ℕ → ℕ
bit_count ty x = set_bits (width ty) x
