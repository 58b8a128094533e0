-- What is put on a page, and what is shown of a word.
use Rattle.std.specs.Prelude.{◌≡◌, ◌==◌, ◌&&◌, ◌||◌, ℕ, Bool, false, List, [], ◌∷◌, ◌++◌, Option, codes, flat_map, if◌then◌else◌, map, zip}
use Rattle.std.specs.Io.KnownBytes.{Appends}
use Rattle.gang_types.specs.Lanes.{Lanes}
use Rattle.gang_model.specs.Texts.Spellings.{is_between}
use Rattle.gang_model.specs.Texts.Text.{Bytes}

-- unless the writer has failed by then, it had not failed before, and this text and no other was written behind what was there
abbrev pub Puts : Bytes → (failed_before failed_then : Bool) → (before then_written : Option Bytes) → Type 0
Puts text failed_before failed_then before then_written = failed_then ≡ false → (failed_before ≡ false) × Appends before then_written text

-- the mark of a lane: `#` where it is active, and `.` where it waits
abbrev pub mark : Bool → Bytes
mark is_active = (if is_active then 35 else 46) ∷ []

-- a mark for each lane, lane 0 first
abbrev pub marks : Lanes → Bytes
marks lanes = flat_map mark lanes

-- a control character of one byte: those of ASCII but the tab
abbrev pub is_small_control : ℕ → Bool
is_small_control byte = is_between 0 8 byte || is_between 10 31 byte || (byte == 127)

-- the second byte of a control character that Unicode spells by two, of which the first is 194
abbrev pub ends_large_control : (before byte : ℕ) → Bool
ends_large_control before byte = (before == 194) && is_between 128 159 byte

-- a byte behind another one, by which a terminal would do something in place of showing it
abbrev pub is_control : (before byte : ℕ) → Bool
is_control before byte = is_small_control byte || ends_large_control before byte

-- a byte behind another one as it is shown: `?` stands for a control
abbrev pub shown_byte : (before byte : ℕ) → ℕ
shown_byte before byte = if is_control before byte then 63 else byte

-- a text as a terminal may have it: each byte as it is shown behind the one before it, the first behind none
abbrev pub masked : Bytes → Bytes
masked text = map (λ p. shown_byte p.0 p.1) (zip (0 ∷ text) text)
