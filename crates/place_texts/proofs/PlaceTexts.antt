-- The parts of the text of a place.
use Rattle.std.proofs.Common.{◌≡◌, ◌≢◌, refl, sym, subst, ◌∙◌, ℕ, zero, suc, ◌+◌, ◌/◌, ◌%◌, Bool, true, false, [], ◌∷◌, ◌++◌, codes, append_assoc, arith}
use Rattle.std.specs.Prelude.{nat_lt, ◌==◌, if◌then◌else◌}
use Rattle.std.proofs.lemmas.List.{append_cancel_left, append_cancel_right}
use Rattle.std.specs.Fmt.{decimal, digits, digits_onto, digit_glyph}
use Rattle.gang_types.specs.Lanes.{Lanes}
use Rattle.gang_types.specs.declared.places.Place.{Place}
use Rattle.gang_model.specs.Texts.Text.{Bytes, bits, line_and_column}

-- no byte of a text is a blank
abbrev pub HasNoBlank : Bytes → Type 0
HasNoBlank [] = Unit {0}
HasNoBlank (b ∷ bytes) = (b ≢ 32) × HasNoBlank bytes

-- two texts up to the first blank, and behind it
pub first_blank : (a b c d : Bytes) → HasNoBlank a → HasNoBlank c → a ++ 32 ∷ b ≡ c ++ 32 ∷ d → (a ≡ c) × (b ≡ d)
first_blank [] b [] d p q e = (refl, cc)
first_blank [] b (y ∷ c) d p q e = let f : y ≡ 32 = cc in absurd (q.0 f)
first_blank (x ∷ a) b [] d p q e = let f : x ≡ 32 = cc in absurd (p.0 f)
first_blank (x ∷ a) b (y ∷ c) d p q e =
    let head : x ≡ y = cc in
    let rest = first_blank a b c d p.1 q.1 (cc) in
    (cc, rest.1)

-- a blank in a text with none
blank_in : (a b : Bytes) → HasNoBlank (a ++ 32 ∷ b) → ⊥
blank_in [] b p = p.0 refl
blank_in (x ∷ a) b p = blank_in a b p.1

-- two texts up to the last blank, and behind it
pub last_blank : (a b c d : Bytes) → HasNoBlank b → HasNoBlank d → a ++ 32 ∷ b ≡ c ++ 32 ∷ d → (a ≡ c) × (b ≡ d)
last_blank [] b [] d p q e = (refl, cc)
last_blank [] b (y ∷ c) d p q e = let f : b ≡ c ++ 32 ∷ d = cc in absurd (blank_in c d (subst HasNoBlank f p))
last_blank (x ∷ a) b [] d p q e = let f : d ≡ a ++ 32 ∷ b = cc in absurd (blank_in a b (subst HasNoBlank f q))
last_blank (x ∷ a) b (y ∷ c) d p q e =
    let head : x ≡ y = cc in
    let rest = last_blank a b c d p q (cc) in
    (cc, rest.1)

-- a digit is no blank
glyph_no_blank : (b : Bool) (n : ℕ) → (if b then 48 + n else 87 + n) ≢ 32
glyph_no_blank true n e = omega (arith, e)
glyph_no_blank false n e = omega (arith, e)

digits_no_blank : (k n : ℕ) (after : Bytes) → HasNoBlank after → HasNoBlank (digits_onto k 10 false n after)
digits_no_blank zero n after p = p
digits_no_blank (suc k) n after p =
    let more : HasNoBlank (digit_glyph false (n % 10) ∷ after) = (glyph_no_blank (nat_lt (n % 10) 10) (n % 10), p) in
    elim (n / 10 == 0) as (λ b. HasNoBlank (if b then digit_glyph false (n % 10) ∷ after else digits_onto k 10 false (n / 10) (digit_glyph false (n % 10) ∷ after))) [
      | true ↦ more
      | false ↦ digits_no_blank k (n / 10) (digit_glyph false (n % 10) ∷ after) more
    ]

pub decimal_no_blank : (n : ℕ) → HasNoBlank (decimal n)
unfolding digits
decimal_no_blank n = digits_no_blank 64 n [] tt

both_no_blank : (a b : Bytes) → HasNoBlank a → HasNoBlank b → HasNoBlank (a ++ b)
both_no_blank [] b p q = q
both_no_blank (x ∷ a) b p q = (p.0, both_no_blank a b p.1 q)

pub column_no_blank : (place : Place) → HasNoBlank (line_and_column place)
column_no_blank place =
    both_no_blank (decimal place.line ++ codes ":") (decimal place.col)
    (both_no_blank (decimal place.line) (codes ":") (decimal_no_blank place.line) ((λ e. omega (arith, e)), tt)) (decimal_no_blank place.col)

pub bits_no_blank : (lanes : Lanes) → HasNoBlank (bits lanes)
bits_no_blank [] = tt
bits_no_blank (true ∷ lanes) = ((λ e. omega (arith, e)), bits_no_blank lanes)
bits_no_blank (false ∷ lanes) = ((λ e. omega (arith, e)), bits_no_blank lanes)

-- at PLACE FUNCTION depth DEPTH lanes BITS
abbrev pub frame_words : (place function depth bits : Bytes) → Bytes
frame_words place function deep bits = codes "at " ++ place ++ codes " " ++ function ++ codes " depth " ++ deep ++ codes " lanes " ++ bits

-- a text up to a blank, and behind it
blank_behind : (a z b : Bytes) → (a ++ (z ++ 32 ∷ [])) ++ b ≡ (a ++ z) ++ 32 ∷ b
blank_behind a z b = simp append_assoc

-- the words of a frame tell its place, its function and its lanes
pub words_same : (place function deep bits place₂ function₂ deep₂ bits₂ : Bytes) → HasNoBlank place → HasNoBlank deep → HasNoBlank bits → HasNoBlank place₂ → HasNoBlank deep₂ → HasNoBlank bits₂
    → frame_words place function deep bits ≡ frame_words place₂ function₂ deep₂ bits₂ → (place ≡ place₂) × (function ≡ function₂) × (bits ≡ bits₂)
words_same p f d b p₂ f₂ d₂ b₂ hp hd hb hp₂ hd₂ hb₂ e =
    let start = codes "at " ++ p ++ codes " " ++ f in
    let start₂ = codes "at " ++ p₂ ++ codes " " ++ f₂ in
    let deep = start ++ codes " depth " ++ d in
    let deep₂ = start₂ ++ codes " depth " ++ d₂ in
    let lanes = last_blank (deep ++ codes " lanes") b (deep₂ ++ codes " lanes") b₂ hb hb₂ (sym (blank_behind deep (codes " lanes") b) ∙ e ∙ blank_behind deep₂ (codes " lanes") b₂) in
    let same : deep ≡ deep₂ = append_cancel_right deep deep₂ (codes " lanes") lanes.0 in
    let depths = last_blank (start ++ codes " depth") d (start₂ ++ codes " depth") d₂ hd hd₂ (sym (blank_behind start (codes " depth") d) ∙ same ∙ blank_behind start₂ (codes " depth") d₂) in
    let begin : start ≡ start₂ = append_cancel_right start start₂ (codes " depth") depths.0 in
    let behind : p ++ 32 ∷ f ≡ p₂ ++ 32 ∷ f₂ =
    append_cancel_left (codes "at ") (p ++ 32 ∷ f) (p₂ ++ 32 ∷ f₂) (sym (place_then p f) ∙ begin ∙ place_then p₂ f₂) in
    let places = first_blank p f p₂ f₂ hp hp₂ behind in
    (places.0, places.1, lanes.1)
  where
    place_then : (p f : Bytes) → codes "at " ++ p ++ codes " " ++ f ≡ codes "at " ++ (p ++ 32 ∷ f)
    place_then p f = simp append_assoc

-- the digits of sets of lanes tell the sets
