-- What is written as a frame is one by the reader's definition.
use Rattle.std.proofs.Common.{◌≡◌, ℕ, ◌+◌, ◌-◌, ◌^◌, ◌<◌, ◌≤◌, true, false, not, ◌||◌, [], ◌∷◌, ◌++◌, Some, None, Ok, IsOk, cond, codes, decimal, if◌then◌else◌, nat_eq, position, length, take, drop, get_or, refl, sym, ap, ap₂, ◌∙◌, subst, arith, rules, append_assoc, append-nil, length-append, take_all, ne_eqb, lt-ltb}
use Rattle.std.specs.Prelude.{◌==◌}
use Rattle.std.specs.Char.{is_ascii_digit, is_ascii_whitespace}
use Rattle.std.specs.Int.{IsInRange}
use Rattle.std.specs.Cmp.Lexicographic.{pointwise}
use Rattle.std.specs.List.{list_all, prefix_len, starts_with, suffix_len}
use Rattle.std.proofs.lemmas.Bool.{and_left, and_parts, cond-false, or_from}
use Rattle.std.proofs.lemmas.Bool.Decides.{nat_tests}
use Rattle.std.proofs.lemmas.Fmt.{decimal_nonempty, digits_decimal, digits_value-decimal, length-decimal-le}
use Rattle.std.proofs.lemmas.List.Elements.{All-cons, All-nil}
use Rattle.std.proofs.lemmas.List.Sums.{suffix_len_is}
use Rattle.std.proofs.lemmas.Str.Parse.{IsNumeralModel, digit_at, numerals_by_fold}
use Rattle.adapter_frames.specs.Frames.{FrameOf, frame}
use Rattle.adapter_frames.specs.Heads.{Bytes, IsLine, Say, has_line_end, length_behind, length_said, line_end, line_says, number_of, said, trimmed, value_of}

-- the header of a length
abbrev header : ℕ → Bytes
header n = codes "Content-Length: " ++ decimal n

abbrev AreDigits : Bytes → Type 0
AreDigits ds = list_all is_ascii_digit ds ≡ true

own : IsNumeralModel AreDigits (value_of 0)
own = numerals_by_fold AreDigits (search rules) value_of (search rules)

digit_range : (ds : Bytes) (i : ℕ) → AreDigits ds → i < length ds → IsInRange 48 57 (get_or ds i 0)
digit_range ds i h lt = digit_at ds i (own.to ds h) lt

-- digits have no CR LF, and no white space at their ends
digits_one : (ds : Bytes) → AreDigits ds → has_line_end ds ≡ false
digits_one [] h = refl
digits_one (d ∷ ds) h =
    let low = (digit_range (d ∷ ds) 0 h (omega arith)).0 in
    or_from (starts_with nat_eq (d ∷ ds) line_end) (has_line_end ds) (and_left (nat_eq 13 d) (pointwise nat_eq (10 ∷ []) (take 1 ds)) (ne_eqb 13 d (λ e. omega arith)))
    (digits_one ds (and_parts (is_ascii_digit d) (list_all is_ascii_digit ds) h).1)

not_space : (d : ℕ) → IsInRange 48 57 d → is_ascii_whitespace d ≡ false
not_space d range = let low = range.0 in grind (arith, nat_tests)

no_space_first : (ds : Bytes) → AreDigits ds → prefix_len is_ascii_whitespace ds ≡ 0
no_space_first [] h = refl
no_space_first (d ∷ ds) h = cond-false (is_ascii_whitespace d) (1 + prefix_len is_ascii_whitespace ds) 0 (not_space d (digit_range (d ∷ ds) 0 h (omega arith)))

no_space_last : (ds : Bytes) → AreDigits ds → suffix_len is_ascii_whitespace ds ≡ 0
no_space_last ds h =
    let none = suffix_len_is is_ascii_whitespace ds (length ds) 0 (omega arith) (λ k from below. absurd (omega arith)) (λ some. not_space (get_or ds (length ds - 1) 0) (digit_range ds (length ds - 1) h (omega arith))) in
    omega (arith, none)

value_trimmed : (ds : Bytes) → AreDigits ds → trimmed (32 ∷ ds) ≡ ds
value_trimmed ds h =
    let front : prefix_len is_ascii_whitespace (32 ∷ ds) ≡ 1 = ap (λ k. 1 + k) (no_space_first ds h) in
    let last = no_space_last ds h in
    ap (λ k. let text = drop k (32 ∷ ds) in take (length text - suffix_len is_ascii_whitespace text) text) front ∙ take_all (length ds - suffix_len is_ascii_whitespace ds) ds (omega (arith, last))

number_said : (ds : Bytes) (n : ℕ) → 0 < length ds → AreDigits ds → value_of 0 ds ≡ n → number_of ds ≡ Some n
number_said ds n some digits value =
    ap₂ (λ a b. if a || not b then None else Some (value_of 0 ds)) (ne_eqb (length ds) 0 (λ e. omega (arith, e))) digits ∙ ap (λ x. Some x) value

colon_at : (n : ℕ) → position (λ byte. byte == 58) (header n) ≡ Some 14
colon_at n = ap (λ b. cond b (Some 14) None) (lt-ltb 14 (length (header n)) (omega (arith, length-append (codes "Content-Length: ") (decimal n))))

header_says : (n : ℕ) → n < 2 ^ 64 → line_says (header n) ≡ Ok (Some n)
header_says n fits =
    let digits : AreDigits (decimal n) = digits_decimal own n fits in
    ap (length_behind (header n)) (colon_at n)
    ∙ ap (λ text. length_said (number_of text)) (value_trimmed (decimal n) digits)
    ∙ ap length_said (number_said (decimal n) n (decimal_nonempty n fits) digits (digits_value-decimal own n fits))

header_line : (n : ℕ) → n < 2 ^ 64 → IsLine (header n)
header_line n fits = record { some = omega (arith, length-append (codes "Content-Length: ") (decimal n)); one = digits_one (decimal n) (digits_decimal own n fits) }

header_alone : (n : ℕ) → n < 2 ^ 64 → Say (header n ∷ []) (n ∷ [])
header_alone n fits =
    let says = header_says n fits in
    record {
      sound = All-cons (λ line. IsOk (line_says line)) (header n) [] (subst IsOk (sym says) refl) (All-nil (λ line. IsOk (line_says line)));
      lengths_are = ap (λ r. said r ++ []) says;
    }

-- a frame is what the reader takes for one
pub frame_of : (written : Bytes) → length written ≤ 1048576 → FrameOf (frame written) written []
frame_of written fits =
    let n = length written in
    let h = header n in
    let in_words : n < 2 ^ 64 = omega arith in
    let digits = length-decimal-le 7 n (omega arith) (omega arith) in_words in
    record {
      headed = record {
        lines = h ∷ [];
        rest = written;
        head = record {
          are_lines = All-cons IsLine h [] (header_line n in_words) (All-nil IsLine);
          bytes_are = append_assoc h (codes "\r\n\r\n") written ∙ sym (append_assoc (h ++ line_end) [] (line_end ++ written) ∙ append_assoc h line_end (line_end ++ written));
        };
        short = omega (arith, digits, length-append (h ++ line_end) [], length-append h line_end, length-append (codes "Content-Length: ") (decimal n));
      };
      message_is = sym (append-nil written);
      says = header_alone n in_words;
      fits = fits;
    }
