-- The number that digits spell, as far as 64 bits hold it.
use Rattle.std.proofs.Common.{◌≡◌, ℕ, ◌+◌, ◌*◌, ◌^◌, ◌<◌, ◌≤◌, List, [], ◌∷◌, length, drop, get_or, min, sym, ap, ◌∙◌, arith, inl, inr}
use Rattle.std.proofs.Math.Nat.{min-eq_left, min_comm}
use Rattle.std.proofs.lemmas.Bool.{cases_lt}
use Rattle.std.proofs.lemmas.List.{at_drop_more, at_drop_all}
use Rattle.gang_model.specs.Texts.Spellings.{digit_value, number_after}
use Rattle.debug_words.specs.declared.numbers.Radix.{Radix}
use Rattle.debug_words.specs.declared.numbers.Radix.TheVariants.{Decimal, Hexadecimal}
use Rattle.debug_words.specs.Digits.{base}

-- the least number that 64 bits do not hold
abbrev pub past : ℕ
past = 2 ^ 64

number_grows : (radix : Radix) (n : ℕ) (ds : List ℕ) → n ≤ number_after (base radix) n ds
number_grows radix n [] = omega arith
number_grows Decimal n (d ∷ ds) = omega (arith, number_grows Decimal (n * 10 + digit_value d) ds)
number_grows Hexadecimal n (d ∷ ds) = omega (arith, number_grows Hexadecimal (n * 16 + digit_value d) ds)

small : (n : ℕ) → n < past → min n past ≡ n
small n lt = min-eq_left (omega (arith, lt))

large : (n : ℕ) → past ≤ n → min n past ≡ past
large n le = min_comm n past ∙ min-eq_left le

-- a number that 64 bits do not hold stays so with more digits
as_far : (radix : Radix) (n : ℕ) (ds : List ℕ) → min (number_after (base radix) (min n past) ds) past ≡ min (number_after (base radix) n ds) past
as_far radix n ds = elim (cases_lt n past) [
  | inl lt ↦ ap (λ m. min (number_after (base radix) m ds) past) (small n lt)
  | inr le ↦
      ap (λ m. min (number_after (base radix) m ds) past) (large n le)
      ∙ (large (number_after (base radix) past ds) (number_grows radix past ds)
      ∙ sym (large (number_after (base radix) n ds) (omega (arith, le, number_grows radix n ds))))
]

-- one more digit is read
pub one_more : (radix : Radix) (ds : List ℕ) (i v longer next total d : ℕ) → i < length ds → d ≡ get_or ds i 0 → longer ≡ v * base radix + digit_value d → next ≡ min longer past
    → min past (number_after (base radix) v (drop i ds)) ≡ total → min past (number_after (base radix) next (drop (i + 1) ds)) ≡ total
one_more radix ds i v longer next total d lt is more kept so_far =
    let rest = drop (i + 1) ds in
    let here : number_after (base radix) v (drop i ds) ≡ number_after (base radix) longer rest =
    at_drop_more (number_after (base radix) v) ds i 0 lt ∙ ap (λ e. number_after (base radix) (v * base radix + digit_value e) rest) (sym is) ∙ ap (λ n. number_after (base radix) n rest) (sym more) in
    ap (λ n. min past (number_after (base radix) n rest)) kept
    ∙ (min_comm past (number_after (base radix) (min longer past) rest)
    ∙ (as_far radix longer rest
    ∙ (min_comm (number_after (base radix) longer rest) past ∙ (ap (min past) (sym here) ∙ so_far))))

-- no digit is left
pub all_read : (radix : Radix) (ds : List ℕ) (i v total : ℕ) → length ds ≤ i → v ≤ past → min past (number_after (base radix) v (drop i ds)) ≡ total → v ≡ total
all_read radix ds i v total le kept so_far =
    sym (min_comm past v ∙ min-eq_left kept) ∙ (ap (min past) (sym (at_drop_all (number_after (base radix) v) ds i le)) ∙ so_far)
