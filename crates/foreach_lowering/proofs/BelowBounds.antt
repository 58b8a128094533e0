-- The numbers of one dimension below its bound.
use Rattle.std.proofs.Common.{◌≡◌, refl, sym, ap, ap₂, ◌∙◌, ℕ, suc, ◌+◌, ◌-◌, ◌*◌, ◌<◌, ◌≤◌, Bool, true, false, ℤ, pos, negsuc, ◌+ℤ◌, ◌-ℤ◌, [], ◌∷◌, Some, None, int_lt, nat_lt, arith}
use Rattle.std.specs.Prelude.{◌&&◌, if◌then◌else◌}
use Rattle.std.proofs.Math.IntN.{+ℤ_assoc, pos-+ℤ-pos}
use Rattle.std.proofs.Math.Nat.{le-div_iff_mul-le, suc-mul}
use Rattle.std.proofs.lemmas.Int.{ints}
use Rattle.gang_model.specs.Running.Rounds.{distance, tile_slot}
use Rattle.foreach_lowering.specs.Domains.{count_of, parts_of, index_of, nth_of, corner}

-- two tests that pass alike
pub same_test : (a b : Bool) → (a ≡ true → b ≡ true) → (a ≡ false → b ≡ false) → a ≡ b
same_test true b h g = sym (h refl)
same_test false b h g = sym (g refl)

below_distance : (z : ℤ) (n : ℕ) → nat_lt n (distance z) ≡ int_lt (pos n) z
below_distance (pos m) n = same_test (nat_lt n m) (int_lt (pos n) (pos m)) (λ e. grind (arith, ints, e)) (λ e. grind (arith, ints, e))
below_distance (negsuc m) n = same_test (nat_lt n 0) (int_lt (pos n) (negsuc m)) (λ e. grind (arith, ints, e)) (λ e. grind (arith, ints, e))

-- a number is one of those up to high where it is below high
pub below_bound : (bounds : ℤ × ℤ) (n : ℕ) → nat_lt n (count_of bounds) ≡ int_lt (index_of bounds n) bounds.1
below_bound bounds n =
    below_distance (bounds.1 -ℤ bounds.0) n
    ∙ same_test (int_lt (pos n) (bounds.1 -ℤ bounds.0)) (int_lt (bounds.0 +ℤ pos n) bounds.1) (λ e. grind (arith, ints, e)) (λ e. grind (arith, ints, e))

-- so many numbers further on, and more
further : (bounds : ℤ × ℤ) (m n : ℕ) → (bounds.0 +ℤ pos m) +ℤ pos n ≡ index_of bounds (m + n)
further bounds m n = +ℤ_assoc bounds.0 (pos m) (pos n) ∙ ap (λ k. bounds.0 +ℤ k) (pos-+ℤ-pos m n)

-- a place of a tile by how many numbers its row and its column are from the low bounds
pub in_tile_is : (a b : ℤ × ℤ) (row k column j : ℕ)
    → tile_slot ((a.0 +ℤ pos row) +ℤ pos k) a.1 ((b.0 +ℤ pos column) +ℤ pos j) b.1 ≡ corner (nth_of a (row + k)) (nth_of b (column + j))
in_tile_is a b row k column j =
    ap₂ (λ y x. tile_slot y a.1 x b.1) (further a row k) (further b column j)
    ∙ (both (index_of a (row + k)) (index_of b (column + j)) (int_lt (index_of a (row + k)) a.1) (int_lt (index_of b (column + j)) b.1)
    ∙ sym (ap₂ (λ p q. corner (if p then Some (index_of a (row + k) ∷ []) else None) (if q then Some (index_of b (column + j) ∷ []) else None)) (below_bound a (row + k)) (below_bound b (column + j))))
  where
    both : (y x : ℤ) (p q : Bool) → (if p && q then Some (y ∷ x ∷ []) else None) ≡ corner (if p then Some (y ∷ []) else None) (if q then Some (x ∷ []) else None)
    both y x true true = refl
    both y x true false = refl
    both y x false q = refl

-- the first number of a part is one of those that the parts cover
pub part_begins : (size count n : ℕ) → 0 < size → n < parts_of size count → n * size < count
part_begins size count n some within =
    let enough : suc n * size ≤ count + size - 1 = (le-div_iff_mul-le {k = size} {x = suc n} {y = count + size - 1} some).0 within in
    omega (arith, some, enough, suc-mul n size)
