-- Where the lines of a head stand among bytes, and the lengths of lines as 64 bits hold them.
use Rattle.std.specs.Prelude.{◌≡◌, ℕ, ◌+◌, ◌-◌, ◌^◌, ◌<◌, ◌≤◌, false, List, [], ◌∷◌, ◌++◌, All, Option, Some, None, Result, Ok, Err, MatchResult, drop, length, min, option_map, take}
use Rattle.adapter_frames.specs.declared.heads.HeadFault.{HeadFault}
use Rattle.adapter_frames.specs.declared.heads.HeadFault.TheVariants.{NoLength, TwoLengths}
use Rattle.adapter_frames.specs.Heads.{Bytes, FirstFault, HeadOf, Headed, IsLine, Say, ended, has_line_end, line_end}

-- bytes begin with a line of so many bytes and its CR LF
pub record LineAt (bytes : Bytes) (line : ℕ) : Type 0 where
  pub within : line + 2 ≤ length bytes
  pub bytes_are : bytes ≡ take line bytes ++ (line_end ++ drop (line + 2) bytes)
  pub one : has_line_end (take line bytes) ≡ false

-- bytes begin with no head
abbrev pub HaveNoHead : Bytes → Type 0
HaveNoHead bytes = (lines : List Bytes) (rest : Bytes) → HeadOf lines bytes rest → ⊥

-- the empty line of a head stands there
pub record EndsAt (bytes : Bytes) (end : ℕ) : Type 0 where
  pub lines : List Bytes
  pub within : end + 2 ≤ length bytes
  pub end_is : end ≡ length (ended lines)
  pub head : HeadOf lines bytes (drop (end + 2) bytes)

-- a number as far as 64 bits hold it
abbrev pub clipped : ℕ → ℕ
clipped n = min n (2 ^ 64 - 1)

-- what a line says, as far as 64 bits hold it
abbrev pub clipped_says : Result (Option ℕ) HeadFault → Result (Option ℕ) HeadFault
clipped_says (Err fault) = Err fault
clipped_says (Ok found) = Ok (option_map clipped found)

-- the length found so far, with what a further line says
abbrev pub found_with : Option ℕ → Result (Option ℕ) HeadFault → Result (Option ℕ) HeadFault
found_with found (Err fault) = Err fault
found_with found (Ok None) = Ok found
found_with None (Ok (Some number)) = Ok (Some number)
found_with (Some before) (Ok (Some number)) = Err TwoLengths

-- lines say one length, as far as 64 bits hold it
pub record SayOne (lines : List Bytes) (size : ℕ) : Type 0 where
  pub number : ℕ
  pub say : Say lines (number ∷ [])
  pub size_is : size ≡ clipped number

-- what is wrong with the lines of a head
abbrev pub HaveFault : List Bytes → HeadFault → Type 0
HaveFault lines NoLength = Say lines []
HaveFault lines fault = FirstFault lines fault

-- the length that the lines of a head say, or their fault
abbrev pub SaysLength : Bytes → Result ℕ HeadFault → Type 0
SaysLength head found = (lines : List Bytes) → All IsLine lines → head ≡ ended lines → MatchResult found (SayOne lines) (HaveFault lines)

-- bytes begin with a head that says a length, and the message begins there
pub record HeadAt (bytes : Bytes) (start size : ℕ) : Type 0 where
  pub headed : Headed bytes
  pub within : start ≤ length bytes
  pub rest_is : headed.rest ≡ drop start bytes
  pub says : Say headed.lines (size ∷ [])
  pub fits : size ≤ 1048576

-- bytes whose head is not whole
abbrev pub IsPending : Bytes → Type 0
IsPending bytes = (length bytes < 4096 + 2) × (Headed bytes → ⊥)
