-- Texts that have a place, each where the frame at a depth stands.
use Rattle.std.specs.Prelude.{ℕ, ◌==◌, ◌&&◌, Bool, List, [], ◌∷◌, ◌++◌, bytes_eq, length, map, nat_le, nat_lt, position, Option, Some, None, if◌then◌else◌}
use Rattle.opened_texts.specs.declared.texts.KeptText.{KeptText}
use Rattle.opened_texts.specs.declared.texts.OpenedText.{OpenedText}
use Rattle.opened_texts.specs.declared.texts.OpenedTexts.{OpenedTexts}

-- the depth of the frame, and the text
abbrev pub opened_view : OpenedText → ℕ × List ℕ
opened_view opened = (opened.depth, opened.text.now)

abbrev pub kept_view : KeptText → ℕ × List ℕ
kept_view kept = (kept.depth, kept.text.items)

-- the texts of a table, by their places
abbrev pub texts_of : OpenedTexts → List (ℕ × List ℕ)
texts_of table = map kept_view table.texts.items

-- it is this text where the frame at this depth stands
abbrev pub is_text : (depth : ℕ) → (text : List ℕ) → ℕ × List ℕ → Bool
is_text depth text one = one.0 == depth && bytes_eq one.1 text

-- there is room for a text behind others
abbrev pub has_room : (text : List ℕ) → List (ℕ × List ℕ) → Bool
has_room text texts = nat_lt (length texts) 64 && nat_le (length text) 256

-- the place of a text that is put behind others, where there is room
abbrev pub place_behind : (text : List ℕ) → List (ℕ × List ℕ) → Option ℕ
place_behind text texts = if has_room text texts then Some (length texts) else None

abbrev pub put_behind : (depth : ℕ) → (text : List ℕ) → List (ℕ × List ℕ) → List (ℕ × List ℕ)
put_behind depth text texts = if has_room text texts then texts ++ (depth, text) ∷ [] else texts

-- by the place that a text has already
abbrev pub place_by : (has : Option ℕ) → (text : List ℕ) → List (ℕ × List ℕ) → Option ℕ
place_by (Some place) text texts = Some place
place_by None text texts = place_behind text texts

abbrev pub noted_by : (has : Option ℕ) → (depth : ℕ) → (text : List ℕ) → List (ℕ × List ℕ) → List (ℕ × List ℕ)
noted_by (Some place) depth text texts = texts
noted_by None depth text texts = put_behind depth text texts

-- the place of a text that is noted: the first one where it stands, or else the one behind all others
abbrev pub place_noted : (depth : ℕ) → (text : List ℕ) → List (ℕ × List ℕ) → Option ℕ
place_noted depth text texts = place_by (position (is_text depth text) texts) text texts

-- the texts then
abbrev pub noted : (depth : ℕ) → (text : List ℕ) → List (ℕ × List ℕ) → List (ℕ × List ℕ)
noted depth text texts = noted_by (position (is_text depth text) texts) depth text texts
