-- Values as far as they are told apart: 2 ^ 64 and what is further from 0 are values of no type.
use Rattle.std.specs.Prelude.{suc, ◌^◌, min, ℤ, pos, negsuc, neg_ℤ}

abbrev pub limited : ℤ → ℤ
limited (pos n) = pos (min (2 ^ 64) n)
limited (negsuc n) = neg_ℤ (pos (min (2 ^ 64) (suc n)))
