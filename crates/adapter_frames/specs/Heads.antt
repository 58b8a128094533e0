-- The heads of frames: lines NAME: VALUE, each ended by CR LF, and an empty line.
use Rattle.std.specs.Prelude.{◌≡◌, ℕ, ◌+◌, ◌-◌, ◌*◌, ◌<◌, ◌≤◌, ◌==◌, Bool, false, not, ◌||◌, if◌then◌else◌, List, [], ◌∷◌, ◌++◌, All, Option, Some, None, Result, Ok, Err, IsOk, bytes_eq, codes, drop, flat_map, length, map, nat_eq, position, take}
use Rattle.std.specs.Char.{is_ascii_digit, is_ascii_whitespace, to_ascii_lowercase}
use Rattle.std.specs.List.{list_all, prefix_len, starts_with, suffix_len}
use Rattle.adapter_frames.specs.declared.heads.HeadFault.{HeadFault}
use Rattle.adapter_frames.specs.declared.heads.HeadFault.TheVariants.{HeadTooLong, BadHeader, NoLength, TwoLengths, BadLength, TooLong}

abbrev pub Bytes : Type 0
Bytes = List ℕ

-- CR LF
abbrev pub line_end : Bytes
line_end = codes "\r\n"

-- whether CR LF stands in bytes
abbrev pub has_line_end : Bytes → Bool
has_line_end [] = false
has_line_end (byte ∷ bytes) = starts_with nat_eq (byte ∷ bytes) line_end || has_line_end bytes

-- a line of a head: not empty, and without CR LF
pub record IsLine (line : Bytes) : Type 0 where
  pub some : 0 < length line
  pub one : has_line_end line ≡ false

-- lines, each ended by CR LF
abbrev pub ended : List Bytes → Bytes
ended lines = flat_map (λ line. line ++ line_end) lines

-- bytes are a head of these lines, and a rest
pub record HeadOf (lines : List Bytes) (bytes rest : Bytes) : Type 0 where
  pub are_lines : All IsLine lines
  pub bytes_are : bytes ≡ ended lines ++ (line_end ++ rest)

-- bytes without the white space at their start and their end
abbrev pub trimmed : Bytes → Bytes
trimmed bytes = let text = drop (prefix_len is_ascii_whitespace bytes) bytes in take (length text - suffix_len is_ascii_whitespace text) text

-- the number that digits spell behind those that spell this one
abbrev pub value_of : ℕ → Bytes → ℕ
value_of number [] = number
value_of number (digit ∷ digits) = value_of (number * 10 + (digit - 48)) digits

-- the number that decimal digits spell, of which there is at least one
abbrev pub number_of : Bytes → Option ℕ
number_of digits = if (length digits == 0) || not (list_all is_ascii_digit digits) then None else Some (value_of 0 digits)

-- the length that a value says
abbrev pub length_said : Option ℕ → Result (Option ℕ) HeadFault
length_said None = Err BadLength
length_said (Some number) = Ok (Some number)

-- the length that a header with a name and a value says: none, unless its name is Content-Length, in small or large letters
abbrev pub named_length : (name value : Bytes) → Result (Option ℕ) HeadFault
named_length name value = if bytes_eq (map to_ascii_lowercase name) (codes "content-length") then length_said (number_of (trimmed value)) else Ok None

-- the length that a line says whose first colon stands there
abbrev pub length_behind : Bytes → Option ℕ → Result (Option ℕ) HeadFault
length_behind line None = Err BadHeader
length_behind line (Some colon) = named_length (take colon line) (drop (colon + 1) line)

-- the length that a line says, or its fault
abbrev pub line_says : Bytes → Result (Option ℕ) HeadFault
line_says line = length_behind line (position (λ byte. byte == 58) line)

-- the length that is said, as a list
abbrev pub said : Result (Option ℕ) HeadFault → List ℕ
said (Ok (Some number)) = number ∷ []
said (Ok None) = []
said (Err fault) = []

-- the lengths that lines say, in their order
abbrev pub lengths_of : List Bytes → List ℕ
lengths_of lines = flat_map (λ line. said (line_says line)) lines

-- no line is at fault, and these are the lengths that they say
pub record Say (lines : List Bytes) (lengths : List ℕ) : Type 0 where
  pub sound : All (λ line. IsOk (line_says line)) lines
  pub lengths_are : lengths_of lines ≡ lengths

-- what is wrong with a line behind lines that say these lengths: its own fault, or that it says a second one
abbrev pub fault_behind : List ℕ → Result (Option ℕ) HeadFault → Option HeadFault
fault_behind lengths (Err fault) = Some fault
fault_behind lengths (Ok None) = None
fault_behind [] (Ok (Some number)) = None
fault_behind (length ∷ lengths) (Ok (Some number)) = Some TwoLengths

-- the first line at fault: those before it say at most one length
pub record FirstFault (lines : List Bytes) (fault : HeadFault) : Type 0 where
  pub before : List Bytes
  pub line : Bytes
  pub after : List Bytes
  pub are : lines ≡ before ++ line ∷ after
  pub lengths : List ℕ
  pub say : Say before lengths
  pub once : length lengths ≤ 1
  pub fault_is : fault_behind lengths (line_says line) ≡ Some fault

-- bytes that begin with a head of at most 4,096 bytes without its empty line
pub record Headed (bytes : Bytes) : Type 0 where
  pub lines : List Bytes
  pub rest : Bytes
  pub head : HeadOf lines bytes rest
  pub short : length (ended lines) ≤ 4096

-- what is wrong with the head of bytes
abbrev pub IsAtFault : HeadFault → Bytes → Type 0
IsAtFault HeadTooLong bytes = (4096 + 2 ≤ length bytes) × (Headed bytes → ⊥)
IsAtFault NoLength bytes = (h : Headed bytes) × Say h.lines []
IsAtFault TooLong bytes = (h : Headed bytes) × (n : ℕ) × Say h.lines (n ∷ []) × (1048576 < n)
IsAtFault fault bytes = (h : Headed bytes) × FirstFault h.lines fault
