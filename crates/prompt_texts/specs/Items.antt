-- The items that are written of a value: one for each lane or element, where long runs of equal elements are one item, and what comes
-- behind so many is left out (GDB manual: print elements, print repeats).
use Rattle.std.specs.Prelude.{◌≡◌, ℕ, suc, ◌+◌, ◌-◌, ◌==◌, ◌%◌, nat_lt, Bool, true, false, List, [], ◌∷◌, ◌++◌, codes, decimal, flat_map, length, replicate, if◌then◌else◌}
use Rattle.std.specs.List.{list_all}
use Rattle.gang_types.specs.declared.types.IntType.{IntType}
use Rattle.gang_types.specs.declared.types.Rate.{Rate}
use Rattle.gang_types.specs.declared.types.Rate.TheVariants.{Uniform, Varying}
use Rattle.gang_types.specs.Lanes.{Lanes, has}
use Rattle.gang_model.specs.Texts.Text.{Bytes, word_text}
use Rattle.value_digits.specs.declared.digits.Digits.{Digits}
use Rattle.value_digits.specs.declared.digits.Digits.TheVariants as in_digits
use Rattle.prompt_texts.specs.declared.items.Item.{Item}
use Rattle.prompt_texts.specs.declared.items.Layout.{Layout}
use Rattle.prompt_texts.specs.declared.items.Standing.{Standing}
use Rattle.prompt_texts.specs.declared.items.Standing.TheVariants.{Counts, Waits}
use Rattle.prompt_texts.specs.declared.told.Told.{Told}
use Rattle.value_digits.specs.Words.{form_text}

-- ---- elements

-- a word before runs: it is one more of the first run, or a run by itself
abbrev pub joined : (word : ℕ) → List (ℕ × ℕ) → List (ℕ × ℕ)
joined word [] = (word, 1) ∷ []
joined word (run ∷ runs) = if run.0 == word then (word, suc run.1) ∷ runs else (word, 1) ∷ run ∷ runs

-- the runs of equal words in a list: the word of each, and how many there are
abbrev pub runs : List ℕ → List (ℕ × ℕ)
runs [] = []
runs (word ∷ words) = joined word (runs words)

-- a run of more than so many words is told once, and a shorter one word by word
abbrev pub told : (repeats : ℕ) → ℕ × ℕ → List (ℕ × ℕ)
told repeats run = if nat_lt repeats run.1 then run ∷ [] else replicate run.1 (run.0, 1)

-- what is told of words
abbrev pub groups : (repeats : ℕ) → List ℕ → List (ℕ × ℕ)
groups repeats words = flat_map (told repeats) (runs words)

-- how many elements a group counts for: a run for as many as the threshold
abbrev pub weight : (repeats : ℕ) → ℕ × ℕ → ℕ
weight repeats group = if nat_lt 1 group.1 then repeats else 1

-- the groups that begin before so many elements are counted
abbrev pub kept : (repeats left : ℕ) → List (ℕ × ℕ) → List (ℕ × ℕ)
kept repeats left [] = []
kept repeats left (group ∷ rest) = if left == 0 then [] else group ∷ kept repeats (left - weight repeats group) rest

-- whether others follow these
abbrev pub are_cut : (repeats left : ℕ) → List (ℕ × ℕ) → Bool
are_cut repeats left [] = false
are_cut repeats left (group ∷ rest) = if left == 0 then true else are_cut repeats (left - weight repeats group) rest

-- an item of so many elements from one on
abbrev pub element_item : (index : ℕ) → ℕ × ℕ → Item
element_item index group = record { index = index; word = group.0; count = group.1; standing = Counts }

-- each group with the index of its first element
abbrev pub placed : (index : ℕ) → List (ℕ × ℕ) → List Item
placed index [] = []
placed index (group ∷ rest) = element_item index group ∷ placed (index + group.1) rest

-- the items of elements from one on
abbrev pub element_items : Layout → (from : ℕ) → List ℕ → List Item
element_items layout from words = placed from (kept layout.repeats layout.elements (groups layout.repeats words))

-- ---- lanes

-- the item of a lane
abbrev pub lane_item : Lanes → (lane word : ℕ) → Item
lane_item lanes lane word = record { index = lane; word = word; count = 1; standing = if has lanes lane then Counts else Waits }

-- the items of lanes from one on
abbrev pub lane_items : Lanes → (from : ℕ) → List ℕ → List Item
lane_items lanes from [] = []
lane_items lanes from (word ∷ words) = lane_item lanes from word ∷ lane_items lanes (suc from) words

-- whether a variable has a word for each lane
abbrev pub is_of_lanes : (is_array : Bool) → Rate → Bool
is_of_lanes true rate = false
is_of_lanes false Uniform = false
is_of_lanes false Varying = true

-- the items of a variable's words from a lane or an element on
abbrev pub variable_items : Layout → (of_lanes : Bool) → Lanes → (from : ℕ) → List ℕ → List Item
variable_items layout true lanes from words = lane_items lanes from words
variable_items layout false lanes from words = element_items layout from words

-- whether elements are left out
abbrev pub is_cut : Layout → (of_lanes : Bool) → List ℕ → Bool
is_cut layout true words = false
is_cut layout false words = are_cut layout.repeats layout.elements (groups layout.repeats words)

-- ---- texts

-- an item's word: as it is, or in brackets where its lane waits
abbrev pub standing_text : Standing → (form : Bytes) → Bytes
standing_text Counts form = form
standing_text Waits form = codes "(" ++ form ++ codes ")"

-- how often it comes, if more than once
abbrev pub repeats_text : (count : ℕ) → Bytes
repeats_text count = if nat_lt 1 count then codes " <repeats " ++ decimal count ++ codes " times>" else []

-- a blank and an item
abbrev pub item_text : Digits → IntType → Item → Bytes
item_text given type item = codes " " ++ standing_text item.standing (form_text given type item.word) ++ repeats_text item.count

-- whether a word takes few columns: at most three in decimal digits
abbrev pub is_narrow : Digits → IntType → (word : ℕ) → Bool
is_narrow in_digits.Decimal type word = nat_lt (length (word_text type word)) 4
is_narrow other type word = false

-- how many items stand in a row
abbrev pub row_size : Digits → IntType → List Item → ℕ
row_size given type items = if list_all (λ item. is_narrow given type item.word) items then 16 else 8

-- the index before the first item of a row, on a line of its own
abbrev pub head_text : (size place index : ℕ) → Bytes
head_text size place index = if (place % size) == 0 then codes "\n[" ++ decimal index ++ codes "]" else []

-- the rows of items, from a place on
abbrev pub rows_text : Digits → IntType → (size place : ℕ) → List Item → Bytes
rows_text given type size place [] = []
rows_text given type size place (item ∷ items) = (head_text size place item.index ++ item_text given type item) ++ rows_text given type size (suc place) items

-- items on a line, or, if there are more than a row has, in rows
abbrev pub items_text : Digits → IntType → List Item → Bytes
items_text given type items =
    if nat_lt (row_size given type items) (length items) then rows_text given type (row_size given type items) 0 items
    else flat_map (item_text given type) items

-- what follows them where others are left out
abbrev pub rest_text : (others : Bool) → Bytes
rest_text others = if others then codes " ..." else []

-- ---- what is told of a value

-- what is told of the words of a variable from a lane or an element on
pub record Tells (told : Told) (type : IntType) (layout : Layout) (of_lanes : Bool) (lanes : Lanes) (from : ℕ) (words : List ℕ) : Type 0 where
  pub type_is : told.value_type ≡ type
  pub items_are : told.items.items ≡ variable_items layout of_lanes lanes from words
  pub cut : told.is_cut ≡ is_cut layout of_lanes words

-- a line's end: what is told of a value
abbrev pub told_text : Digits → Told → Bytes
told_text given told = items_text given told.value_type told.items.items ++ rest_text told.is_cut ++ codes "\n"
