-- The steps of a statement, as a machine counts them.
use Rattle.std.specs.Prelude.{ℕ}

-- the greatest number of 64 bits, which stands for all that are larger
abbrev pub greatest : ℕ
greatest = 18446744073709551615
