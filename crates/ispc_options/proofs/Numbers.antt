-- A number that passed its parser, as it is read.
use Rattle.std.proofs.Common.{◌≡◌, ◌∙◌, ◌<◌, ◌≤◌, ◌^◌, ℕ, Bool, true, false, cond, [], ◌∷◌, Option, Some, None, Ok, Result, refl, sym, ap, subst, arith}
use Rattle.std.specs.Prelude.{option_map, pos, unwrap_or}
use Rattle.std.specs.Str.Parse.{ParsesUnsigned, starts_with_minus}
use Rattle.std.proofs.lemmas.Int.{ints}
use Rattle.clap.specs.Lexer.{without_minus}
use Rattle.clap.specs.Matches.{ReadsOne, first_value, one_text}
use Rattle.clap.specs.Values.{IsSignedIn}
use Rattle.clap.specs.Walk.{Text}
use Rattle.clap.specs.declared.parser.matches.Found.{Found}
use Rattle.clap.proofs.CallerReads.{signed_reads}
use Rattle.ispc_options.specs.Asked.{number_of}
use Rattle.ispc_options.specs.Passed.{HasNumber}

-- a number of at least one has no minus
no_minus : (text : Text) (most : ℕ) → IsSignedIn (pos 1) (pos most) text → starts_with_minus text ≡ false
no_minus text most passed = go (starts_with_minus text) refl
  where
    go : (b : Bool) → starts_with_minus text ≡ b → starts_with_minus text ≡ false
    go false is = is
    go true is =
        let low = rw is at passed.2 in
        absurd (omega (arith, ints))

plain : (text : Text) → starts_with_minus text ≡ false → without_minus text ≡ text
plain [] is = refl
plain (c ∷ cs) is = ap (λ b. unwrap_or (cond b (Some cs) None) (c ∷ cs)) is

module _ (E : Type 0) (G : Text → Result ℕ E → Type 0) (only : (u : Text) (x : Result ℕ E) → G u x → ParsesUnsigned 32 10 u x) where
  read_number : (text : Text) (n : ℕ) → ReadsOne G text (Some n) → n ≡ number_of text
  read_number text n read = (only text (Ok n) read).1

  -- a number that passed is read as the number that its text spells
  pub number_got : (found : Found) (name : Text) (most : ℕ) (r : Option ℕ) → most < 2 ^ 32
      → ((t : Text) → one_text found name ≡ Some t → ReadsOne G t r) → HasNumber most found name
      → (n : ℕ) × (r ≡ Some n) × (1 ≤ n) × (n ≤ most) × (option_map number_of (first_value found name) ≡ Some n)
  number_got found name most r fits reads has =
      let text = has.0 in
      let one = reads (without_minus text) has.2 in
      let got = signed_reads E G 32 1 most text r one only fits has.3 in
      let same = plain text (no_minus text most has.3) in
      let is : got.0 ≡ number_of text =
      read_number text got.0 (subst (λ o. ReadsOne G text o) got.1 (subst (λ t. ReadsOne G t r) same one)) in
      (got.0, got.1, got.2, got.3, ap (option_map number_of) has.1 ∙ ap Some (sym is))
