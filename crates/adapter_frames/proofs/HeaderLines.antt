-- What a header says, by where its colon stands.
use Rattle.std.proofs.Common.{◌≡◌, ℕ, ◌+◌, Bool, true, Option, Some, None, Ok, Err, bytes_eq, codes, map, option_map, position, if◌then◌else◌, take, drop, refl, sym, ap, ◌∙◌}
use Rattle.std.specs.Prelude.{◌==◌}
use Rattle.std.specs.Char.{is_ascii_whitespace, to_ascii_lowercase}
use Rattle.std.specs.List.{prefix_len}
use Rattle.std.specs.Str.{IsTrimAscii}
use Rattle.std.proofs.lemmas.Str.Ascii.{trim_ascii_is}
use Rattle.adapter_frames.specs.declared.heads.HeadFault.TheVariants.{BadLength}
use Rattle.adapter_frames.specs.Heads.{Bytes, length_behind, length_said, line_says, number_of, trimmed}
use Rattle.adapter_frames.specs.Places.{clipped, clipped_says}

-- whether the name of a header is that of the length
abbrev is_length : Bytes → Bool
is_length name = bytes_eq (map to_ascii_lowercase name) (codes "content-length")

-- the header of the length says what its trimmed value does
pub says_number : (line name value text : Bytes) (colon : ℕ) → Some colon ≡ position (λ byte. byte == 58) line → name ≡ take colon line → value ≡ drop (colon + 1) line
    → is_length name ≡ true → IsTrimAscii value text → line_says line ≡ length_said (number_of text)
says_number line name value text colon at front behind named trim =
    ap (length_behind line) (sym at)
    ∙ ap (λ t. if t then length_said (number_of (trimmed (drop (colon + 1) line))) else Ok None) (ap is_length (sym front) ∙ named)
    ∙ ap (λ xs. length_said (number_of (trimmed xs))) (sym behind)
    ∙ ap (λ xs. length_said (number_of xs)) (sym (trim_ascii_is value text (drop (prefix_len is_ascii_whitespace value) value) refl trim))

pub clipped_number : (number : Option ℕ) (size : ℕ) → Some size ≡ option_map clipped number → Ok (Some size) ≡ clipped_says (length_said number)
clipped_number None size e = absurd cc
clipped_number (Some number) size e = ap (λ o. Ok o) e

pub clipped_none : (number : Option ℕ) → None ≡ option_map clipped number → Err BadLength ≡ clipped_says (length_said number)
clipped_none None e = refl
clipped_none (Some number) e = absurd cc
