-- How many of its stops a breakpoint or a watch passes, by the text of its count.
use Rattle.std.specs.Prelude.{ℕ, ◌-◌, ◌+◌, ◌==◌, Option, Some, None, Result, Ok, Err, codes, drop, if◌then◌else◌, length, option_map, take}
use Rattle.std.specs.Char.{is_ascii_whitespace}
use Rattle.std.specs.List.{prefix_len, suffix_len}
use Rattle.gang_model.specs.Texts.Spellings.{behind, decimal_number, in_range}
use Rattle.gang_model.specs.Texts.Text.{Bytes}
use Rattle.adapter_requests.specs.declared.reply.BreakpointFault.{BreakpointFault}
use Rattle.adapter_requests.specs.declared.reply.BreakpointFault.TheVariants as fault

-- a text without the blanks around it
abbrev pub stripped : Bytes → Bytes
stripped text = let rest = drop (prefix_len is_ascii_whitespace text) text in take (length rest - suffix_len is_ascii_whitespace rest) rest

-- the stop that a number says, with or without blanks around it
abbrev pub stop_said : Bytes → Option ℕ
stop_said text = decimal_number (stripped text)

-- the first stop that counts: by `> N` the one behind the N-th, by `N` the N-th
abbrev pub behind_or_from : (behind_sign : Option Bytes) → Bytes → Option ℕ
behind_or_from (Some digits) text = option_map (λ stop. stop + 1) (stop_said digits)
behind_or_from None text = stop_said text

-- the same by `>= N` too, which says what `N` does
abbrev pub first_said : (behind_signs : Option Bytes) → Bytes → Option ℕ
first_said (Some digits) text = stop_said digits
first_said None text = behind_or_from (behind (codes ">") text) text

-- the first stop that counts is one of 1 to 10,000,000
abbrev pub first_counted : Bytes → Option ℕ
first_counted text = in_range 1 10000000 (first_said (behind (codes ">=") (stripped text)) (stripped text))

-- all stops before it are passed
abbrev pub passes_before : Option ℕ → Result ℕ BreakpointFault
passes_before None = Err fault.NoCount
passes_before (Some k) = Ok (k - 1)

-- an empty count is none: no stop is passed
abbrev pub passes_said : Bytes → Result ℕ BreakpointFault
passes_said text = if length text == 0 then Ok 0 else passes_before (first_counted text)
