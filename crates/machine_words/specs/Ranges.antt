-- Which of a layout's ranges has the words of a region, where the machine asks for one word itself and, in a head, for parts of the frame
-- and of its levels (a choice of this project).
use Rattle.std.specs.Prelude.{◌≡◌, ℕ, zero, suc, ◌+◌, ◌-◌, ◌*◌, ◌/◌, ◌^◌, ◌<◌, Bool, true, false, ◌&&◌, List, [], ◌∷◌, Option, Some, None, drop, length, nat_lt, slice_get, take, if◌then◌else◌}
use Rattle.machine_states.specs.Regions.{LevelPart, NumbersOf, EndOf, CountersOf, ValuesOf, Head, FunctionOf, LanesOf, ReturnedOf, ResultOf, OpenOf, LevelOf, Region, OfFile, OfEntry, Depth, OfHead, OfLocal, Regions, with_region}
use Rattle.gang_memory.specs.declared.parts.Part.{Part}
use Rattle.gang_memory.specs.declared.layout.Layout.{Layout}
use Rattle.gang_memory.specs.Layouts.{end_of_frames, frame_parts, ranges}
use Rattle.gang_memory.specs.Ranges.{AreInOrder, sizes_of}

-- the number of a part of a head: those of the frame, the numbers of level 0, and four parts of each further level
abbrev pub level_part : LevelPart → ℕ
level_part EndOf = 2
level_part CountersOf = 3
level_part ValuesOf = 4
level_part NumbersOf = 5

abbrev pub head_part : Head → ℕ
head_part FunctionOf = 0
head_part LanesOf = 1
head_part ReturnedOf = 2
head_part ResultOf = 3
head_part OpenOf = 4
head_part (LevelOf level part) = 4 * level + level_part part

-- the machine's own words: how many frames there are
abbrev pub machine_sizes : List ℕ
machine_sizes = 1 ∷ []

-- the words of the parts of so many levels of foreach forms
abbrev pub level_sizes : (width levels : ℕ) → List ℕ
level_sizes width zero = []
level_sizes width (suc levels) = 1 ∷ 9 ∷ width ∷ width ∷ level_sizes width levels

-- the words of the parts of a head, in a program in which so many forms stand in one another
abbrev pub head_sizes : (width levels : ℕ) → List ℕ
head_sizes width levels = 1 ∷ 1 ∷ 1 ∷ width ∷ 1 ∷ width ∷ level_sizes width levels

-- how many levels of forms a layout has
abbrev pub levels_of : Layout → ℕ
levels_of layout = (length layout.frames.head.items - 6) / 4

-- whether there is such a part in a head; level 0 has numbers alone
abbrev pub has_part : (levels : ℕ) → Head → Bool
has_part levels (LevelOf zero NumbersOf) = true
has_part levels (LevelOf zero part) = false
has_part levels (LevelOf (suc level) part) = nat_lt level levels
has_part levels part = true

-- how many words it has
abbrev pub level_size : (width : ℕ) → LevelPart → ℕ
level_size width EndOf = 1
level_size width CountersOf = 9
level_size width ValuesOf = width
level_size width NumbersOf = width

abbrev pub head_size : (width levels : ℕ) → Head → ℕ
head_size width levels FunctionOf = 1
head_size width levels LanesOf = 1
head_size width levels ReturnedOf = 1
head_size width levels ResultOf = width
head_size width levels OpenOf = 1
head_size width levels (LevelOf zero NumbersOf) = width
head_size width levels (LevelOf zero part) = 0
head_size width levels (LevelOf (suc level) part) = if nat_lt level levels then level_size width part else 0

-- whether there is such a region
abbrev pub is_there : Layout → Region → Bool
is_there layout (OfFile k) = nat_lt k (length layout.file.items)
is_there layout (OfEntry k) = nat_lt k (length layout.entry.items)
is_there layout Depth = true
is_there layout (OfHead i part) = has_part (levels_of layout) part && nat_lt i layout.frames.count
is_there layout (OfLocal i k) = nat_lt i layout.frames.count && nat_lt k layout.frames.variables

-- the number, among all ranges, of a frame's range that has this number in it
abbrev pub frame_number : Layout → (frame number : ℕ) → ℕ
frame_number layout i number =
    length layout.file.items + (length layout.entry.items + (length layout.machine.items + (i * frame_parts layout.frames + number)))

-- the number of a region's range
abbrev pub number_of : Layout → Region → ℕ
number_of layout (OfFile k) = k
number_of layout (OfEntry k) = length layout.file.items + k
number_of layout Depth = length layout.file.items + length layout.entry.items
number_of layout (OfHead i part) = frame_number layout i (head_part part)
number_of layout (OfLocal i k) = frame_number layout i (length layout.frames.head.items + k)

-- the range of a region, none where there is no such region
abbrev pub range_of : (width : ℕ) → Layout → Region → Option Part
range_of width layout region = if is_there layout region then slice_get (ranges width layout) (number_of layout region) else None

abbrev pub words_at : Option Part → (words : List ℕ) → List ℕ
words_at None words = []
words_at (Some part) words = take part.len (drop part.first words)

-- the words of each region
abbrev pub regions_of : (width : ℕ) → Layout → (words : List ℕ) → Regions
regions_of width layout words region = words_at (range_of width layout region) words

-- the layout has the parts that the machine asks for, in 64 frames, and all its ranges lie one behind the other
pub record IsPlanned (width : ℕ) (layout : Layout) : Type 0 where
  pub own : sizes_of layout.machine.items ≡ machine_sizes
  pub head : sizes_of layout.frames.head.items ≡ head_sizes width (levels_of layout)
  pub count : layout.frames.count ≡ 64
  pub order : AreInOrder 0 (ranges width layout) layout.words
  pub end : layout.words ≡ end_of_frames width layout.frames

-- words that lie as the layout says
pub record IsLaid (width : ℕ) (layout : Layout) (words : List ℕ) : Type 0 where
  pub planned : IsPlanned width layout
  pub long : length words ≡ layout.words
  pub small : layout.words < 2 ^ 64

-- the words of one region are these now, and those of each other are the same
abbrev pub Changes : (width : ℕ) → Layout → Region → (after old new : List ℕ) → Type 0
Changes width layout region after old new =
    (r : Region) → regions_of width layout new r ≡ with_region region after (regions_of width layout old) r
