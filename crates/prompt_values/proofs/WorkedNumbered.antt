-- Values by their numbers, when two and when many were printed.
use Rattle.std.proofs.Common.{◌≡◌, ℕ, zero, suc, Option, Some, None, refl}
use Rattle.std.specs.Prelude.{length}
use Rattle.prompt_values.specs.declared.numbered.NumberedValue.{NumberedValue}
use Rattle.prompt_values.specs.declared.numbered.Printed.{Printed}
use Rattle.prompt_values.specs.declared.numbered.ValueName.TheVariants as name
use Rattle.prompt_values.specs.Numbered.{Kept, named, none, noted}

numbered : ℕ → Printed → Option NumberedValue
numbered n value = Some (record { number = n; value = value })

first : (one two : Printed) → named (name.Number 1) (noted two (noted one none)) ≡ numbered 1 one
unfolding numbered
first one two = refl

second : (one two : Printed) → named (name.Number 2) (noted two (noted one none)) ≡ numbered 2 two
unfolding numbered
second one two = refl

newest : (one two : Printed) → named (name.Behind 0) (noted two (noted one none)) ≡ numbered 2 two
unfolding numbered
newest one two = refl

one_before : (one two : Printed) → named (name.Behind 1) (noted two (noted one none)) ≡ numbered 1 one
unfolding numbered
one_before one two = refl

not_yet : (one two : Printed) → named (name.Number 3) (noted two (noted one none)) ≡ None
not_yet one two = refl

number_0 : (one two : Printed) → named (name.Number 0) (noted two (noted one none)) ≡ None
number_0 one two = refl

-- a value is printed so many times
printed : ℕ → Printed → Kept → Kept
printed zero value k = k
printed (suc n) value k = noted value (printed n value k)

hundred_are_kept : (one : Printed) → length (printed 130 one none).values ≡ 100
unfolding printed
hundred_are_kept one = refl

kept_no_more : (one : Printed) → named (name.Number 30) (printed 130 one none) ≡ None
unfolding printed
kept_no_more one = refl

oldest : (one : Printed) → named (name.Number 31) (printed 130 one none) ≡ numbered 31 one
unfolding printed numbered
oldest one = refl
