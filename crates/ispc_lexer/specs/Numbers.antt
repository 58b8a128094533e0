-- The number that a text is, from the left to the right.
use Rattle.std.specs.Prelude.{ℕ, ◌^◌, Bool, true, false, not, ◌&&◌, ◌||◌, ◌==◌, nat_lt, nat_le, nat_eq, List, [], ◌∷◌, take, drop, Option, Some, None, if◌then◌else◌, codes}
use Rattle.std.specs.List.{list_all, list_any, count_by, prefix_len, starts_with}
use Rattle.gang_model.specs.Source.Tokens.{Sort, numbered}
use Rattle.gang_model.specs.Source.Spelling.{Radix, decimal, hexadecimal, binary, is_digit_in, value_in, is_u, is_l}
use Rattle.ispc_lexer.specs.Options.{◌>>=◌}
use Rattle.ispc_lexer.specs.declared.numbers.Radix.{Radix as CodeRadix}
use Rattle.ispc_lexer.specs.declared.numbers.Radix.TheVariants as radix
use Rattle.ispc_lexer.specs.declared.token.Number.{Number}

abbrev pub radix_view : CodeRadix → Radix
radix_view radix.Decimal = decimal
radix_view radix.Hexadecimal = hexadecimal
radix_view radix.Binary = binary

abbrev pub number_view : Number → Sort
number_view n = numbered n.value n.is_unsigned n.is_long

abbrev pub radix_of : List ℕ → Radix
radix_of text = if starts_with nat_eq text (codes "0x") || starts_with nat_eq text (codes "0X") then hexadecimal
    else (if starts_with nat_eq text (codes "0b") || starts_with nat_eq text (codes "0B") then binary else decimal)

abbrev pub prefix_size : Radix → ℕ
prefix_size decimal = 0
prefix_size hexadecimal = 2
prefix_size binary = 2

-- several digits, of which the first is 0
abbrev pub begins_with_zero : List ℕ → Bool
begins_with_zero [] = false
begins_with_zero (d ∷ []) = false
begins_with_zero (d ∷ e ∷ ds) = d == 48

abbrev pub has_leading_zero : Radix → List ℕ → Bool
has_leading_zero decimal digits = begins_with_zero digits
has_leading_zero hexadecimal digits = false
has_leading_zero binary digits = false

abbrev pub fitting : ℕ → Option ℕ
fitting n = if nat_lt n (2 ^ 64) then Some n else None

abbrev pub is_suffix : List ℕ → Bool
is_suffix text = list_all (λ b. is_u b || is_l b) text && (nat_le (count_by is_u text) 1 && nat_le (count_by is_l text) 2)

abbrev pub is_nil : List ℕ → Bool
is_nil [] = true
is_nil (b ∷ bs) = false

unfoldable pub number_in : Radix → (digits suffix : List ℕ) → Option Sort
number_in radix digits suffix = if is_nil digits || (has_leading_zero radix digits || not (is_suffix suffix)) then None
    else (fitting (value_in radix digits) >>= λ n. Some (numbered n (list_any is_u suffix) (list_any is_l suffix)))

abbrev pub digits_of : Radix → List ℕ → List ℕ
digits_of radix body = take (prefix_len (is_digit_in radix) body) body

abbrev pub suffix_of : Radix → List ℕ → List ℕ
suffix_of radix body = drop (prefix_len (is_digit_in radix) body) body

abbrev pub number_from : Radix → List ℕ → Option Sort
number_from radix body = number_in radix (digits_of radix body) (suffix_of radix body)

unfoldable pub number_of : List ℕ → Option Sort
number_of text = number_from (radix_of text) (drop (prefix_size (radix_of text)) text)
