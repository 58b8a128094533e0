-- Which lines of the source are listed, where so many are listed at once (GDB manual: list, set listsize).
use Rattle.std.specs.Prelude.{◌≡◌, ℕ, zero, suc, ◌+◌, ◌-◌, ◌/◌, ◌==◌, Bool, true, false, not, ⊤, bytes_eq, max, min, nat_lt, List, [], ◌∷◌, ◌++◌, codes, drop, length, take, Option, Some, None, option_and_then, option_map, pos, if◌then◌else◌}
use Rattle.std.specs.Fmt.{signed_decimal}
use Rattle.std.specs.List.{prefix_len}
use Rattle.std.specs.Option.{option_or, unwrap_or}
use Rattle.gang_model.specs.Debugger.Debugger.{Debugger, Setting, depth, now}
use Rattle.gang_model.specs.Debugger.Positions.{line_now}
use Rattle.gang_model.specs.Texts.CommandText.{index}
use Rattle.gang_model.specs.Texts.Spellings.{Word, all_are, in_range, is_blank}
use Rattle.gang_model.specs.Texts.Text.{Bytes}
use Rattle.gang_model.specs.Types.Tree.{Program}
use Rattle.debug_traits.specs.declared.machine.Position.{Position}
use Rattle.debug_traits.specs.Machines.{call_text, line_of_position, position_line}
use Rattle.prompt_lines.specs.declared.line.Look.{Look}
use Rattle.prompt_lines.specs.declared.line.Look.TheVariants as look
use Rattle.prompt_lines.specs.Heads.{stripped}
use Rattle.prompt_lines.specs.Sources.{Sheet, line_named}
use Rattle.prompt_lines.specs.Words.{argument_of, breaking_text, is_alone}
use Rattle.prompt_texts.specs.SourceLines.{listed_text}
use Rattle.prompt_values.specs.Functions.{functions_text}
use Rattle.debug_prompt.specs.declared.listing.Listed.{Listed}
use Rattle.debug_prompt.specs.declared.listing.Lines.{Lines}
use Rattle.debug_prompt.specs.declared.listing.Lines.TheVariants as lines

-- ---- how many

abbrev pub is_unlimited : Word → Bool
is_unlimited word = bytes_eq word (codes "unlimited")

-- a number of lines that can be listed at once
abbrev pub within : Option ℕ → Option ℕ
within number = in_range 1 1000 number

-- so many lines, or all: more than any source has
abbrev pub size_by : Word → Option ℕ
size_by word = if is_unlimited word then Some 4294967295 else within (index word)

-- how many lines a command line of two words sets
abbrev pub size_of : (text : List ℕ) → Option ℕ
size_of text = option_and_then size_by (argument_of text)

-- a number of lines, or that it is unlimited
abbrev pub size_text : (size : ℕ) → Bytes
size_text size = if size == 4294967295 then codes "unlimited" else signed_decimal (pos size)

abbrev pub lines_text : (size : ℕ) → Bytes
lines_text size = codes "Number of source lines that `list` shows is " ++ size_text size ++ codes ".\n"

-- ---- which

-- so many lines from one on, as far as 32 bits number them
abbrev pub lines_from : (size first : ℕ) → Listed
lines_from size first = record { first = first; next = min (first + size) 4294967295 }

-- so many lines before one
abbrev pub lines_before : (size next : ℕ) → Listed
lines_before size next = record { first = max (next - size) 1; next = next }

-- the first of the lines that are listed around one
abbrev pub around : (size line : ℕ) → ℕ
around size line = max (line - size / 2) 1

-- the lines that a line names, where these were listed last and the frame stands on this line
abbrev pub listed : (size : ℕ) → Lines → Option Listed → (place : ℕ) → Listed
listed size lines.Next (Some last) place = lines_from size last.next
listed size lines.Next None place = lines_from size (around size place)
listed size lines.Before (Some last) place = lines_before size last.first
listed size lines.Before None place = lines_before size (around size place)
listed size (lines.Around line) last place = lines_from size (around size line)
listed size (lines.From given) last place = given

-- ---- which ones a line names

-- the line behind one, as far as 32 bits number it
abbrev pub behind_line : (line : ℕ) → ℕ
behind_line line = min (line + 1) 4294967295

-- so many lines up to one
abbrev pub up_to : (size : ℕ) → Option ℕ → Option Listed
up_to size last = option_map (λ line. lines_before size (behind_line line)) last

-- so many lines from one on
abbrev pub from_on : (size : ℕ) → Option ℕ → Option Listed
from_on size first = option_map (lines_from size) first

-- the lines from one up to another that does not stand before it
abbrev pub both : (first last : Option ℕ) → Option Listed
both (Some first) (Some last) = if nat_lt first (behind_line last) then Some (record { first = first; next = behind_line last }) else None
both first last = None

-- the line that a part of a text names
abbrev pub end_of : Sheet → (part : List ℕ) → Option ℕ
end_of sheet part = line_named sheet (breaking_text part)

-- the lines from one to another, of which one may be missing
abbrev pub from_to : (size : ℕ) → Sheet → (front back : List ℕ) → Option Listed
from_to size sheet front back =
    if all_are is_blank front then up_to size (end_of sheet back) else if all_are is_blank back then from_on size (end_of sheet front)
    else both (end_of sheet front) (end_of sheet back)

-- where the first comma stands
abbrev pub comma_place : List ℕ → ℕ
comma_place text = prefix_len (λ byte. not (byte == 44)) text

-- the lines that stand before and behind a comma
abbrev pub between : (size : ℕ) → Sheet → (text : List ℕ) → Option Listed
between size sheet text =
    if nat_lt (comma_place text) (length text) then from_to size sheet (take (comma_place text) text) (drop (comma_place text + 1) text) else None

abbrev pub lines_between : (size : ℕ) → Sheet → (text : List ℕ) → Option Lines
lines_between size sheet text = option_map lines.From (between size sheet text)

-- the lines that `-` and `+` stand for
abbrev pub signed : Option (List ℕ) → Option Lines
signed (Some (byte ∷ [])) = if byte == 45 then Some lines.Before else if byte == 43 then Some lines.Next else None
signed word = None

abbrev pub lines_by_sign : (size : ℕ) → Sheet → (text : List ℕ) → Option Lines
lines_by_sign size sheet text = option_or (signed (argument_of text)) (lines_between size sheet (drop 5 text))

-- the lines that a command line names which begins with `break`: the next ones by this alone, those around a line, else by a sign or a comma
abbrev pub lines_of : (size : ℕ) → Sheet → (text : List ℕ) → Option Lines
lines_of size sheet text =
    if is_alone text then Some lines.Next else option_or (option_map lines.Around (line_named sheet text)) (lines_by_sign size sheet text)

-- the same of a line that repeats: the next ones
abbrev pub lines_meant : (is_again : Bool) → (size : ℕ) → Sheet → (text : List ℕ) → Option Lines
lines_meant is_again size sheet text = if is_again then Some lines.Next else lines_of size sheet text

-- ---- where the frame stands that is selected

-- the line of the call that the frame at a depth made, by its place as it is told; where it made none, another line
abbrev pub IsCallLine : Setting → Debugger → (depth other line : ℕ) → Type 0
IsCallLine s d deep other line =
    (place : Option Position) × (call_text s.program deep (now s d).frames ≡ position_line place) × (line ≡ unwrap_or (line_of_position place) other)

-- the line of the frame of a number, where the top one stands on a line
abbrev pub IsPlaceBelow : Setting → Debugger → (frame top line : ℕ) → Type 0
IsPlaceBelow s d zero top line = line ≡ top
IsPlaceBelow s d (suc frame) top line = IsCallLine s d (depth (now s d) - suc frame) top line

abbrev pub IsPlaceBy : Setting → Debugger → (frame : ℕ) → (top : Option ℕ) → (line : ℕ) → Type 0
IsPlaceBy s d frame None line = line ≡ 1
IsPlaceBy s d frame (Some top) line = IsPlaceBelow s d frame top line

-- the line of the frame of a number; the first one where the program has ended
abbrev pub IsPlace : Setting → Debugger → (frame line : ℕ) → Type 0
IsPlace s d frame line = IsPlaceBy s d frame (line_now s.program (now s d)) line

-- ---- what a line lists

-- lines are written, where the program stands on a line, if it has not ended
abbrev pub WritesLines : (puts : Bytes → Type 0) → Setting → Debugger → Sheet → Listed → Type 0
WritesLines puts s d sheet given = puts (listed_text sheet.text (unwrap_or (line_now s.program (now s d)) 0) given.first given.next)

-- the lines that are named are written, and were listed last then; where none are named, the same as before
abbrev pub ListsNamed : (puts : Bytes → Type 0) → Setting → Debugger → Sheet → (frame size : ℕ) → Option Lines → (old new : Option Listed) → Type 0
ListsNamed puts s d sheet frame size None old new = new ≡ old
ListsNamed puts s d sheet frame size (Some named) old new =
    (line : ℕ) × IsPlace s d frame line × (new ≡ Some (listed size named old line)) × WritesLines puts s d sheet (listed size named old line)

-- how many lines are listed at once behind a line that sets it; as many as before where it does not
abbrev pub size_after : (size : ℕ) → (text : List ℕ) → ℕ
size_after size text = unwrap_or (size_of text) size

-- the same by what is looked at: no other look changes it
abbrev pub size_behind : Look → (size : ℕ) → (text : List ℕ) → ℕ
size_behind look.ListSize size text = size_after size text
size_behind other size text = size

-- how many lines are listed at once is written, where a text asks for that
abbrev pub WritesSize : (puts : Bytes → Type 0) → (asks : Bool) → (size : ℕ) → Type 0
WritesSize puts true size = puts (lines_text size)
WritesSize puts false size = ⊤

abbrev pub asks_size : (text : List ℕ) → Bool
asks_size text = bytes_eq (stripped text) (codes "listsize")

-- ---- functions

-- the part that the names of functions are to have: nothing behind one word alone, else the second of two words
abbrev pub part_of : (text : List ℕ) → Option (List ℕ)
part_of text = if is_alone text then Some [] else argument_of text

-- the functions are listed whose names have a part, if one is named
abbrev pub ListsBy : (puts : Bytes → Type 0) → Option (List ℕ) → (source : List ℕ) → Program → Type 0
ListsBy puts None source p = ⊤
ListsBy puts (Some part) source p = puts (functions_text part source p)

abbrev pub ListsFunctions : (puts : Bytes → Type 0) → (text source : List ℕ) → Program → Type 0
ListsFunctions puts text source p = ListsBy puts (part_of text) source p

-- ---- by what is looked at

-- what is written of lines and of functions; of another look nothing is said
abbrev pub WritesLook : (puts : Bytes → Type 0) → Setting → Debugger → Look → Sheet → (is_again : Bool) → (frame size : ℕ) → (text : List ℕ) → (old new : Option Listed) → Type 0
WritesLook puts s d look.List sheet is_again frame size text old new = ListsNamed puts s d sheet frame size (lines_meant is_again size sheet text) old new
WritesLook puts s d look.Functions sheet is_again frame size text old new = ListsFunctions puts text sheet.text s.program
WritesLook puts s d look.Layout sheet is_again frame size text old new = WritesSize puts (asks_size text) size
WritesLook puts s d other sheet is_again frame size text old new = ⊤
