-- The number that a text is, and no other.
use Rattle.std.proofs.Common.{◌≡◌, ◌≢◌, inl, inr, ℕ, ◌^◌, ◌<◌, List, [], ◌∷◌, ◌++◌, length, take, drop, Some, Bool, true, false, cond, not, ◌&&◌, ◌||◌, refl, sym, ap, subst, ◌∙◌, arith, append_assoc}
use Rattle.std.specs.Prelude.{nat_eq, nat_lt, nat_le, ◌==◌, codes}
use Rattle.std.specs.List.{list_all, list_any, count_by, prefix_len, starts_with}
use Rattle.std.proofs.lemmas.Bool.{ltb-true, lt-ltb, leb-true, le-leb, eqb-true}
use Rattle.std.proofs.lemmas.Bool.Decides.{nat_tests}
use Rattle.std.proofs.lemmas.List.{take-append-drop}
use Rattle.std.proofs.Math.Seq.{take-append_seam, drop-append_seam}
use Rattle.gang_model.specs.Source.Tokens.{Sort, numbered}
use Rattle.gang_model.specs.Source.Spelling.{Radix, decimal, hexadecimal, binary, IsPrefix, is_digit, is_digit_in, value_in, NoLeadingZero, is_u, is_l, IsSuffix, IsNumber}
use Rattle.ispc_lexer.specs.Numbers.{radix_of, prefix_size, begins_with_zero, has_leading_zero, fitting, is_suffix, is_nil, number_in, digits_of, suffix_of, number_from, number_of}
use Rattle.ispc_lexer.proofs.Runs.{bind_some, which, both_true, is_false, Ends, run_all, run_again, starts_sound, starts_not}
use Rattle.gang_model.proofs.JudgedLaws.{or_false, not_false}
use Rattle.std.proofs.lemmas.Option.{same_Some}

-- ---- what is tested

some_digits : (digits : List ℕ) → is_nil digits ≡ false → digits ≢ []
some_digits digits e is = let nothing : is_nil [] ≡ false = ap is_nil (sym is) ∙ e in absurd cc

not_nil : (digits : List ℕ) → digits ≢ [] → is_nil digits ≡ false
not_nil [] h = absurd (h refl)
not_nil (d ∷ ds) h = refl

zero_first : (digits : List ℕ) → begins_with_zero digits ≡ false → (d : ℕ) (more : List ℕ) → digits ≡ 48 ∷ d ∷ more → ⊥
zero_first digits e d more is = let no_zero : begins_with_zero (48 ∷ d ∷ more) ≡ false = ap begins_with_zero (sym is) ∙ e in absurd cc

no_zero_first : (digits : List ℕ) → ((d : ℕ) (more : List ℕ) → digits ≡ 48 ∷ d ∷ more → ⊥) → begins_with_zero digits ≡ false
no_zero_first [] h = refl
no_zero_first (a ∷ []) h = refl
no_zero_first (a ∷ c ∷ bs) h = is_false (a == 48) (λ e. h c bs (ap (λ (x : ℕ). x ∷ c ∷ bs) (eqb-true a 48 e)))

leading_sound : (radix : Radix) (digits : List ℕ) → has_leading_zero radix digits ≡ false → NoLeadingZero radix digits
leading_sound decimal digits e = zero_first digits e
leading_sound hexadecimal digits e = tt
leading_sound binary digits e = tt

leading_complete : (radix : Radix) (digits : List ℕ) → NoLeadingZero radix digits → has_leading_zero radix digits ≡ false
leading_complete decimal digits h = no_zero_first digits h
leading_complete hexadecimal digits h = refl
leading_complete binary digits h = refl

suffix_sound : (text : List ℕ) → is_suffix text ≡ true → IsSuffix text
suffix_sound text e =
    let a = both_true (list_all (λ b. is_u b || is_l b) text) (nat_le (count_by is_u text) 1 && nat_le (count_by is_l text) 2) e in
    let b = both_true (nat_le (count_by is_u text) 1) (nat_le (count_by is_l text) 2) a.1 in
    record { letters = a.0; one_u = leb-true (count_by is_u text) 1 b.0; two_l = leb-true (count_by is_l text) 2 b.1 }

suffix_complete : (text : List ℕ) → IsSuffix text → is_suffix text ≡ true
suffix_complete text h = rw (h.letters, le-leb (count_by is_u text) 1 h.one_u, le-leb (count_by is_l text) 2 h.two_l) refl

-- ---- prefixes

prefix_sound : (text : List ℕ) → IsPrefix (radix_of text) (take (prefix_size (radix_of text)) text)
prefix_sound text = go (starts_with nat_eq text (codes "0x")) (starts_with nat_eq text (codes "0X")) (starts_with nat_eq text (codes "0b")) (starts_with nat_eq text (codes "0B")) refl refl refl refl
  where
    front : (p : List ℕ) → length p ≡ 2 → starts_with nat_eq text p ≡ true → take 2 text ≡ p
    front p size e = ap (take 2) (starts_sound text p e) ∙ ap (λ (n : ℕ). take n (p ++ drop (length p) text)) (sym size) ∙ take-append_seam p (drop (length p) text)

    go : (x y a b : Bool) → starts_with nat_eq text (codes "0x") ≡ x → starts_with nat_eq text (codes "0X") ≡ y → starts_with nat_eq text (codes "0b") ≡ a → starts_with nat_eq text (codes "0B") ≡ b
        → IsPrefix (cond (x || y) hexadecimal (cond (a || b) binary decimal)) (take (prefix_size (cond (x || y) hexadecimal (cond (a || b) binary decimal))) text)
    go true y a b e f g h = inl (front (codes "0x") refl e)
    go false true a b e f g h = inr (front (codes "0X") refl f)
    go false false true b e f g h = inl (front (codes "0b") refl g)
    go false false false true e f g h = inr (front (codes "0B") refl h)
    go false false false false e f g h = refl

-- the byte behind a digit 0 that is the whole number is no letter of a prefix
not_prefixed : (digits suffix : List ℕ) → digits ≢ [] → list_all is_digit digits ≡ true → NoLeadingZero decimal digits → IsSuffix suffix
    → (letter : ℕ) (more : List ℕ) → is_digit letter ≡ false → (is_u letter || is_l letter) ≡ false → digits ++ suffix ≡ 48 ∷ letter ∷ more → ⊥
not_prefixed [] suffix some only no_zero s letter more d l e = some refl
not_prefixed (a ∷ []) [] some only no_zero s letter more d l e = absurd cc
not_prefixed (a ∷ []) (c ∷ cs) some only no_zero s letter more d l e =
    let is : c ≡ letter = cc in
    let first = both_true (is_u c || is_l c) (list_all (λ b. is_u b || is_l b) cs) s.letters in
    let yes : (is_u letter || is_l letter) ≡ true = ap (λ (x : ℕ). is_u x || is_l x) (sym is) ∙ first.0 in
    absurd cc
not_prefixed (a ∷ c ∷ ds) suffix some only no_zero s letter more d l e =
    let is : a ≡ 48 = cc in
    no_zero c ds (ap (λ (x : ℕ). x ∷ c ∷ ds) is)

radix_decimal : (digits suffix : List ℕ) → digits ≢ [] → list_all is_digit digits ≡ true → NoLeadingZero decimal digits → IsSuffix suffix → radix_of (digits ++ suffix) ≡ decimal
radix_decimal digits suffix some only no_zero s =
    let clear = λ (letter : ℕ) (d : is_digit letter ≡ false) (l : (is_u letter || is_l letter) ≡ false). starts_not (digits ++ suffix) (48 ∷ letter ∷ []) (λ more e. not_prefixed digits suffix some only no_zero s letter more d l e) in
    rw (clear 120 refl refl, clear 88 refl refl, clear 98 refl refl, clear 66 refl refl) refl

-- ---- a number from its parts

suffix_ends : (radix : Radix) (suffix : List ℕ) → IsSuffix suffix → Ends (is_digit_in radix) suffix
suffix_ends radix [] h = tt
suffix_ends radix (b ∷ bs) h =
    let first = both_true (is_u b || is_l b) (list_all (λ c. is_u c || is_l c) bs) h.letters in
    no_digit radix b first.0
  where
    no_digit : (radix : Radix) (b : ℕ) → (is_u b || is_l b) ≡ true → is_digit_in radix b ≡ false
    no_digit decimal b e = grind (arith, nat_tests)
    no_digit hexadecimal b e = grind (arith, nat_tests)
    no_digit binary b e = grind (arith, nat_tests)

from_parts : (radix : Radix) (digits suffix : List ℕ) → list_all (is_digit_in radix) digits ≡ true → IsSuffix suffix → number_from radix (digits ++ suffix) ≡ number_in radix digits suffix
from_parts radix digits suffix only s =
    let n : prefix_len (is_digit_in radix) (digits ++ suffix) ≡ length digits = run_again (is_digit_in radix) digits suffix only (suffix_ends radix suffix s) in
    rw (n, take-append_seam digits suffix, drop-append_seam digits suffix) refl

in_parts : (radix : Radix) (digits suffix : List ℕ) (n : ℕ) (u l : Bool) → digits ≢ [] → NoLeadingZero radix digits → n ≡ value_in radix digits → n < 2 ^ 64 → IsSuffix suffix → u ≡ list_any is_u suffix → l ≡ list_any is_l suffix
    → number_in radix digits suffix ≡ Some (numbered n u l)
unfolding number_in
in_parts radix digits suffix n u l some no_zero value fits s us ls =
    let small : value_in radix digits < 2 ^ 64 = subst (λ (k : ℕ). k < 2 ^ 64) value fits in
    rw (not_nil digits some, leading_complete radix digits no_zero, suffix_complete suffix s, lt-ltb (value_in radix digits) (2 ^ 64) small, us, ls, value) refl

of_parts : (radix : Radix) (prefix digits suffix : List ℕ) → IsPrefix radix prefix → digits ≢ [] → list_all (is_digit_in radix) digits ≡ true → NoLeadingZero radix digits → IsSuffix suffix
    → number_of (prefix ++ digits ++ suffix) ≡ number_from radix (digits ++ suffix)
unfolding number_of
of_parts decimal prefix digits suffix p some only no_zero s = rw (p, radix_decimal digits suffix some only no_zero s) refl
of_parts hexadecimal prefix digits suffix (inl p) some only no_zero s = rw p refl
of_parts hexadecimal prefix digits suffix (inr p) some only no_zero s = rw p refl
of_parts binary prefix digits suffix (inl p) some only no_zero s = rw p refl
of_parts binary prefix digits suffix (inr p) some only no_zero s = rw p refl

-- ---- both ways

pub number_complete : (text : List ℕ) (n : ℕ) (u l : Bool) → IsNumber text n u l → number_of text ≡ Some (numbered n u l)
number_complete text n u l h =
    ap number_of h.parts
    ∙ of_parts h.radix h.prefix h.digits h.suffix h.prefixed h.some_digit h.only_digits h.no_zero h.suffixed
    ∙ from_parts h.radix h.digits h.suffix h.only_digits h.suffixed
    ∙ in_parts h.radix h.digits h.suffix n u l h.some_digit h.no_zero h.value_is h.fits h.suffixed h.unsigned_is h.long_is

-- what is known of a text's parts, where they make a number
record Parts (radix : Radix) (digits suffix : List ℕ) (s : Sort) : Type 0 where
  pub some_digit : digits ≢ []
  pub no_zero : NoLeadingZero radix digits
  pub fits : value_in radix digits < 2 ^ 64
  pub suffixed : IsSuffix suffix
  pub is : s ≡ numbered (value_in radix digits) (list_any is_u suffix) (list_any is_l suffix)

number_parts : (radix : Radix) (digits suffix : List ℕ) (s : Sort) → number_in radix digits suffix ≡ Some s → Parts radix digits suffix s
unfolding number_in
number_parts radix digits suffix s e =
    elim (which (is_nil digits || (has_leading_zero radix digits || not (is_suffix suffix))) _ _ (Some s) e) [
      | inl p ↦ let none_left = p.1 in absurd cc
      | inr p ↦
          let a = or_false (is_nil digits) (has_leading_zero radix digits || not (is_suffix suffix)) p.0 in
          let b = or_false (has_leading_zero radix digits) (not (is_suffix suffix)) a.1 in
          let q = bind_some (fitting (value_in radix digits)) (λ n. Some (numbered n (list_any is_u suffix) (list_any is_l suffix))) s p.1 in
          elim (which (nat_lt (value_in radix digits) (2 ^ 64)) _ _ (Some q.0) q.1) [
            | inr r ↦ let none_left = r.1 in absurd cc
            | inl r ↦ record {
              some_digit = some_digits digits a.0;
              no_zero = leading_sound radix digits b.0;
              fits = ltb-true (value_in radix digits) (2 ^ 64) r.0;
              suffixed = suffix_sound suffix (not_false (is_suffix suffix) b.1);
              is = sym (same_Some _ s q.2) ∙ ap (λ (k : ℕ). numbered k (list_any is_u suffix) (list_any is_l suffix)) (sym (same_Some (value_in radix digits) q.0 r.1));
            }
          ]
    ]

pub number_sound : (text : List ℕ) (s : Sort) → number_of text ≡ Some s → (n : ℕ) × (u : Bool) × (l : Bool) × (s ≡ numbered n u l) × IsNumber text n u l
unfolding number_of
number_sound text s e =
    let radix = radix_of text in
    let body = drop (prefix_size (radix_of text)) text in
    let p = number_parts (radix_of text) (digits_of (radix_of text) (drop (prefix_size (radix_of text)) text)) (suffix_of (radix_of text) (drop (prefix_size (radix_of text)) text)) s e in (
      value_in radix (digits_of radix body),
      list_any is_u (suffix_of radix body),
      list_any is_l (suffix_of radix body),
      p.is,
      record {
        radix = radix;
        prefix = take (prefix_size radix) text;
        digits = digits_of radix body;
        suffix = suffix_of radix body;
        parts = sym (take-append-drop (prefix_size (radix_of text)) text) ∙ ap (λ (r : List ℕ). take (prefix_size (radix_of text)) text ++ r) (sym (take-append-drop (prefix_len (is_digit_in (radix_of text)) (drop (prefix_size (radix_of text)) text)) (drop (prefix_size (radix_of text)) text)))
            ∙ sym (append_assoc (take (prefix_size (radix_of text)) text) (digits_of (radix_of text) (drop (prefix_size (radix_of text)) text)) (suffix_of (radix_of text) (drop (prefix_size (radix_of text)) text)));
        prefixed = prefix_sound text;
        some_digit = p.some_digit;
        only_digits = run_all (is_digit_in (radix_of text)) (drop (prefix_size (radix_of text)) text);
        no_zero = p.no_zero;
        value_is = refl;
        fits = p.fits;
        suffixed = p.suffixed;
        unsigned_is = refl;
        long_is = refl;
      },
    )
