-- The library's functions: each is a sum, a least value, a list or a map over the lanes that call it
-- (ISPC User's Guide, "The ISPC Standard Library"; the types of the results are a choice of this project).
use Rattle.std.specs.Prelude.{ℕ, suc, ◌+◌, ◌^◌, Bool, true, false, not, ◌==◌, nat_lt, List, [], ◌∷◌, length, take, ℤ, pos, negsuc, ◌+ℤ◌, int_lt, bit_and, bit_or, Result, Ok, Err, if◌then◌else◌}
use Rattle.gang_types.specs.declared.types.IntType.{IntType}
use Rattle.gang_types.specs.declared.types.IntType.TheVariants as t
use Rattle.gang_types.specs.declared.faults.FaultName.{FaultName}
use Rattle.gang_types.specs.declared.faults.FaultName.TheVariants.{LaneIndex}
use Rattle.gang_types.specs.Values.{value_of, wrapped, residue}
use Rattle.gang_types.specs.Library.{lesser, larger, absolute, bit_count}
use Rattle.gang_types.specs.Lanes.{Lanes}
use Rattle.gang_model.specs.Running.Lanes.{at, members, truth_word}
use Rattle.gang_model.specs.Types.Tree.{Reduction, AnyLane, AllLanes, NoLane, ReduceAdd, ReduceMin, ReduceMax, ReduceEqual, PopCountLanes, PackMask, ScanOf, ScanAdd, ScanAnd, ScanOr, OneCall, Absolute, PopCount, TwoCall, Lesser, Larger}

-- the type of a sum: twice as wide, up to 64 bits, with the same sign
abbrev pub sum_type : IntType → IntType
sum_type t.Bool = t.Int64
sum_type t.Int8 = t.Int16
sum_type t.Int16 = t.Int32
sum_type t.Int32 = t.Int64
sum_type t.Int64 = t.Int64
sum_type t.Uint8 = t.Uint16
sum_type t.Uint16 = t.Uint32
sum_type t.Uint32 = t.Uint64
sum_type t.Uint64 = t.Uint64

-- the values of the lanes of the set, in ascending order
abbrev pub active : Lanes → List ℕ → List ℕ
active [] xs = []
active (b ∷ lanes) [] = []
active (b ∷ lanes) (x ∷ xs) = if b then x ∷ active lanes xs else active lanes xs

-- whether each value passes the test
abbrev pub each_is : (ℕ → Bool) → List ℕ → Bool
each_is test [] = true
each_is test (x ∷ xs) = if test x then each_is test xs else false

-- the sum of the values, not yet wrapped
abbrev pub sum_of : IntType → List ℕ → ℤ
sum_of ty [] = pos 0
sum_of ty (x ∷ xs) = value_of ty x +ℤ sum_of ty xs

-- the least of x and the values after it, by an order on numbers
abbrev pub least_from : (ℤ → ℤ → Bool) → IntType → ℕ → List ℕ → ℕ
least_from below ty x [] = x
least_from below ty x (y ∷ ys) = least_from below ty (if below (value_of ty y) (value_of ty x) then y else x) ys

-- the least of the values; the greatest, where the order is turned
abbrev pub least : (ℤ → ℤ → Bool) → IntType → List ℕ → ℕ
least below ty [] = 0
least below ty (x ∷ xs) = least_from below ty x xs

-- whether all values are equal
abbrev pub all_same : List ℕ → Bool
all_same [] = true
all_same (x ∷ xs) = each_is (λ y. y == x) xs

-- the word with bit k set for each value from the k-th place on that is not zero
abbrev pub bits_from : ℕ → List ℕ → ℕ
bits_from k [] = 0
bits_from k (x ∷ xs) = (if x == 0 then 0 else 2 ^ k) + bits_from (suc k) xs

-- how many values are not zero
abbrev pub count : List ℕ → ℕ
count [] = 0
count (x ∷ xs) = (if x == 0 then 0 else 1) + count xs

-- one value from the values of the lanes of the set; values outside the set are 0
abbrev pub reduced : Reduction → IntType → Lanes → List ℕ → ℕ
reduced AnyLane ty lanes xs = truth_word (not (each_is (λ x. x == 0) (active lanes xs)))
reduced AllLanes ty lanes xs = truth_word (each_is (λ x. not (x == 0)) (active lanes xs))
reduced NoLane ty lanes xs = truth_word (each_is (λ x. x == 0) (active lanes xs))
reduced ReduceAdd ty lanes xs = wrapped (sum_type ty) (sum_of ty (active lanes xs))
reduced ReduceMin ty lanes xs = least int_lt ty (active lanes xs)
reduced ReduceMax ty lanes xs = least (λ a b. int_lt b a) ty (active lanes xs)
reduced ReduceEqual ty lanes xs = truth_word (all_same (active lanes xs))
reduced PopCountLanes ty lanes xs = count xs
reduced PackMask ty lanes xs = bits_from 0 xs

-- the fold over the values of the lanes before one: the sum, all ones and the values, or the values' bits
abbrev pub scanned : ScanOf → IntType → List ℕ → ℕ
scanned ScanAdd ty before = wrapped ty (sum_of ty before)
scanned ScanAnd ty [] = wrapped ty (negsuc 0)
scanned ScanAnd ty (x ∷ before) = bit_and x (scanned ScanAnd ty before)
scanned ScanOr ty [] = 0
scanned ScanOr ty (x ∷ before) = bit_or x (scanned ScanOr ty before)

-- the values of the lanes of the set that lie before lane k
abbrev pub before_lane : ℕ → Lanes → List ℕ → List ℕ
before_lane k lanes xs = active (take k lanes) xs

-- how many lanes of the set lie before lane k
abbrev pub rank : Lanes → ℕ → ℕ
rank lanes k = length (members (take k lanes))

-- a function of one value
abbrev pub of_one : OneCall → IntType → ℕ → ℕ
of_one Absolute ty x = absolute ty x
of_one PopCount ty x = bit_count ty x

-- a function of two values
abbrev pub of_two : TwoCall → IntType → ℕ → ℕ → ℕ
of_two Lesser ty x y = lesser ty x y
of_two Larger ty x y = larger ty x y

-- the value of a lane that an index names; a fault where there is no such lane
abbrev pub lane_value : List ℕ → ℕ → Result ℕ FaultName
lane_value xs i = if nat_lt i (length xs) then Ok (at xs i) else Err LaneIndex

-- lane k + n, modulo the gang's width
abbrev pub turned : Lanes → ℤ → ℕ → ℕ
turned lanes n k = residue (length lanes) (pos k +ℤ n)

-- the value of the lane of this number, 0 where there is no such lane
abbrev pub value_at : List ℕ → ℤ → ℕ
value_at xs (pos n) = at xs n
value_at xs (negsuc n) = 0
