-- No `<` stands in the JSON of a page.
use Rattle.std.proofs.Common.{◌≡◌, ◌==◌, ◌&&◌, ◌+◌, ◌/◌, ◌%◌, ℕ, zero, suc, ℤ, pos, negsuc, Bool, true, false, not, List, [], ◌∷◌, ◌++◌, map, Option, Some, None, refl, ap, ◌∙◌, codes, decimal, if◌then◌else◌, nat_lt, unwrap_or, arith}
use Rattle.std.proofs.lemmas.Bool.Decides.{nat_tests}
use Rattle.std.proofs.lemmas.List.Folds.{list_all-append}
use Rattle.std.specs.Prelude.{flat_map}
use Rattle.std.specs.List.{concat}
use Rattle.std.specs.Fmt.{digit_glyph, digits, digits_onto, signed_decimal}
use Rattle.std.specs.Str.{is_utf8}
use Rattle.gang_model.specs.Texts.Text.{Bytes}
use Rattle.json_texts.specs.Json.{byte_text, is_exact, is_hidden, is_plain, list_text, quoted, replaced, rest_text, string_text, whole_text}

-- ---- texts in parts

pub plain_both : (a b : Bytes) → is_plain a ≡ true → is_plain b ≡ true → is_plain (a ++ b) ≡ true
plain_both a b first second = list_all-append (λ byte. not (byte == 60)) a b ∙ ap (λ is. is && is_plain b) first ∙ second

pub plain_if : (b : Bool) (x y : Bytes) → is_plain x ≡ true → is_plain y ≡ true → is_plain (if b then x else y) ≡ true
plain_if true x y first second = first
plain_if false x y first second = second

pub plain_flat : {X : Type 0} (f : X → Bytes) → ((x : X) → is_plain (f x) ≡ true) → (xs : List X) → is_plain (flat_map f xs) ≡ true
plain_flat f each [] = refl
plain_flat f each (x ∷ xs) = plain_both (f x) (flat_map f xs) (each x) (plain_flat f each xs)

-- each of these is plain
abbrev pub ArePlain : List Bytes → Type 0
ArePlain [] = Unit {0}
ArePlain (text ∷ texts) = (is_plain text ≡ true) × ArePlain texts

pub are_plain : {X : Type 0} (f : X → Bytes) → ((x : X) → is_plain (f x) ≡ true) → (xs : List X) → ArePlain (map f xs)
are_plain f each [] = tt
are_plain f each (x ∷ xs) = (each x, are_plain f each xs)

pub plain_concat : (texts : List Bytes) → ArePlain texts → is_plain (concat texts) ≡ true
plain_concat [] are = refl
plain_concat (text ∷ texts) are = plain_both text (concat texts) are.0 (plain_concat texts are.1)

-- ---- lists

plain_rest : (items : List Bytes) → ArePlain items → is_plain (rest_text items) ≡ true
plain_rest [] are = refl
plain_rest (item ∷ items) are = plain_both item (rest_text items) are.0 (plain_rest items are.1)

pub plain_list : (items : List Bytes) → ArePlain items → is_plain (list_text items) ≡ true
plain_list [] are = refl
plain_list (item ∷ items) are = plain_both item (rest_text items) are.0 (plain_rest items are.1)

-- ---- numbers

plain_glyph : (d : ℕ) → (digit_glyph false d == 60) ≡ false
plain_glyph d = test (nat_lt d 10) refl
  where
    test : (b : Bool) → nat_lt d 10 ≡ b → ((if b then 48 + d else 87 + d) == 60) ≡ false
    test true is = grind (arith, nat_tests)
    test false is = grind (arith, nat_tests)

plain_onto : (k n : ℕ) (behind : Bytes) → is_plain behind ≡ true → is_plain (digits_onto k 10 false n behind) ≡ true
plain_onto zero n behind plain = plain
plain_onto (suc k) n behind plain =
    let more : is_plain (digit_glyph false (n % 10) ∷ behind) ≡ true = ap (λ b. not b && is_plain behind) (plain_glyph (n % 10)) ∙ plain in
    plain_if (n / 10 == 0) (digit_glyph false (n % 10) ∷ behind) (digits_onto k 10 false (n / 10) (digit_glyph false (n % 10) ∷ behind)) more (plain_onto k (n / 10) (digit_glyph false (n % 10) ∷ behind) more)

pub plain_decimal : (n : ℕ) → is_plain (decimal n) ≡ true
unfolding digits
plain_decimal n = plain_onto 64 n [] refl

plain_signed : (z : ℤ) → is_plain (signed_decimal z) ≡ true
plain_signed (pos n) = plain_decimal n
plain_signed (negsuc n) = plain_decimal (suc n)

plain_quoted : (text : Bytes) → is_plain text ≡ true → is_plain (quoted text) ≡ true
plain_quoted text plain = plain_both text (codes "\"") plain refl

pub plain_whole : (z : ℤ) → is_plain (whole_text z) ≡ true
plain_whole z = plain_if (is_exact z) (signed_decimal z) (quoted (signed_decimal z)) (plain_signed z) (plain_quoted (signed_decimal z) (plain_signed z))

-- ---- strings

-- the spellings of a byte, from one on
abbrev from_and : ℕ → Option Bytes
from_and byte = if byte == 38 then Some (codes "\\u0026") else None

abbrev from_more : ℕ → Option Bytes
from_more byte = if byte == 62 then Some (codes "\\u003e") else from_and byte

abbrev from_less : ℕ → Option Bytes
from_less byte = if byte == 60 then Some (codes "\\u003c") else from_more byte

abbrev from_tab : ℕ → Option Bytes
from_tab byte = if byte == 9 then Some (codes "\\t") else from_less byte

abbrev from_line_end : ℕ → Option Bytes
from_line_end byte = if byte == 10 then Some (codes "\\n") else from_tab byte

abbrev from_backslash : ℕ → Option Bytes
from_backslash byte = if byte == 92 then Some (codes "\\\\") else from_line_end byte

-- what a byte is where it has no spelling
abbrev shown : Bool → ℕ → Bytes
shown is_text byte = if is_hidden is_text byte then replaced else byte ∷ []

plain_either : (b : Bool) (x y : Option Bytes) (other : Bytes) → is_plain (unwrap_or x other) ≡ true → is_plain (unwrap_or y other) ≡ true → is_plain (unwrap_or (if b then x else y) other) ≡ true
plain_either true x y other first second = first
plain_either false x y other first second = second

plain_byte : (is_text : Bool) (byte : ℕ) → is_plain (byte_text is_text byte) ≡ true
plain_byte is_text byte =
    plain_either (byte == 34) (Some (codes "\\\"")) (from_backslash byte) (shown is_text byte) refl
    (plain_either (byte == 92) (Some (codes "\\\\")) (from_line_end byte) (shown is_text byte) refl
    (plain_either (byte == 10) (Some (codes "\\n")) (from_tab byte) (shown is_text byte) refl
    (plain_either (byte == 9) (Some (codes "\\t")) (from_less byte) (shown is_text byte) refl
    (less (byte == 60) refl))))
  where
    less : (b : Bool) → (byte == 60) ≡ b → is_plain (unwrap_or (if b then Some (codes "\\u003c") else from_more byte) (shown is_text byte)) ≡ true
    less true is = refl
    less false is =
        plain_either (byte == 62) (Some (codes "\\u003e")) (from_and byte) (shown is_text byte) refl
        (plain_either (byte == 38) (Some (codes "\\u0026")) None (shown is_text byte) refl
        (plain_if (is_hidden is_text byte) replaced (byte ∷ []) refl (ap (λ b. not b && true) is)))

pub plain_string : (bytes : Bytes) → is_plain (string_text bytes) ≡ true
plain_string bytes = plain_quoted (flat_map (byte_text (is_utf8 bytes)) bytes) (plain_flat (byte_text (is_utf8 bytes)) (plain_byte (is_utf8 bytes)) bytes)
