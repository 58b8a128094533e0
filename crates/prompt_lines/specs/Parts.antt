-- Elements of an array in the lines that people type: `table@8` is so many from the first one on, `table[3]@8` from element 3 on.
use Rattle.std.specs.Prelude.{ℕ, ◌-◌, ◌==◌, not, List, length}
use Rattle.std.specs.List.{suffix_len}

-- where the number of elements begins: behind the last `@`, or 0 where there is none
abbrev pub count_place : (text : List ℕ) → ℕ
count_place text = length text - suffix_len (λ byte. not (byte == 64)) text
