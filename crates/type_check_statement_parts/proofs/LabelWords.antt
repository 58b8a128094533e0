-- The numbers of labels among the values of a type.
use Rattle.std.proofs.Common.{◌≡◌, ℕ, sym, ap, ◌∙◌, refl, arith}
use Rattle.std.specs.Prelude.{Bool, true, false, not, ◌&&◌, ℤ, int_lt, Some, Ok, Err}
use Rattle.std.proofs.lemmas.Int.{ints}
use Rattle.gang_types.specs.declared.types.IntType.{IntType}
use Rattle.gang_types.specs.declared.places.Place.{Place}
use Rattle.gang_types.specs.Values.{value_in, value_of, wrapped}
use Rattle.gang_types.specs.Ranges.{value_of-wrapped}
use Rattle.gang_model.specs.declared.forms.Label.{Label}
use Rattle.gang_model.specs.declared.refusals.RefusalNumber.TheVariants.{S8}
use Rattle.gang_model.specs.Source.Judged.{answer_of, unless, fault_if}
use Rattle.gang_model.specs.Types.Statements.{is_in, label_number, label_word}

neither : (b c : Bool) → (b ≡ false → c ≡ false → ⊥) → (not b && not c) ≡ false
neither true c h = refl
neither false true h = refl
neither false false h = absurd (h refl refl)

-- a number is a value of a type where wrapping keeps it
is_in_kept : (z v : ℤ) → v ≡ z → (not (int_lt z v) && not (int_lt v z)) ≡ true
is_in_kept z v e =
    let low : int_lt z v ≡ false = grind (arith, ints, e) in
    let high : int_lt v z ≡ false = grind (arith, ints, e) in
    ap (λ b. not b && not (int_lt v z)) low ∙ ap (λ b. not b) high

is_in_lost : (z v : ℤ) → (v ≡ z → ⊥) → (not (int_lt z v) && not (int_lt v z)) ≡ false
is_in_lost z v n =
    neither (int_lt z v) (int_lt v z) (λ low high. let same : v ≡ z = grind (arith, ints, low, high) in n same)

-- the word of a label that the type has
pub word-kept : (p : Place) (type : IntType) (label : Label) (z : ℤ) (word : ℕ) → z ≡ label_number label → word ≡ wrapped type z → value_of type word ≡ z
    → Ok (Some word) ≡ answer_of (label_word p type (Some label))
word-kept p type label z word e w same =
    let v : value_in type z ≡ z = sym (value_of-wrapped type z) ∙ (ap (value_of type) (sym w) ∙ same) in
    let inside : is_in (label_number label) type ≡ true = ap (λ n. is_in n type) (sym e) ∙ is_in_kept z (value_in type z) v in
    ap (λ n. Ok (Some n)) (w ∙ ap (wrapped type) e) ∙ sym (ap (λ b. answer_of (unless (fault_if (not b) S8 p) (Some (wrapped type (label_number label))))) inside)

-- S8 at a label that the type does not have
pub word-lost : (p : Place) (type : IntType) (label : Label) (z : ℤ) (word : ℕ) → z ≡ label_number label → word ≡ wrapped type z → (value_of type word ≡ z → ⊥)
    → Err (record { number = S8; place = p }) ≡ answer_of (label_word p type (Some label))
word-lost p type label z word e w other =
    let lost : value_in type z ≡ z → ⊥ = λ v. other (ap (value_of type) w ∙ (value_of-wrapped type z ∙ v)) in
    let outside : is_in (label_number label) type ≡ false = ap (λ n. is_in n type) (sym e) ∙ is_in_lost z (value_in type z) lost in
    sym (ap (λ b. answer_of (unless (fault_if (not b) S8 p) (Some (wrapped type (label_number label))))) outside)
