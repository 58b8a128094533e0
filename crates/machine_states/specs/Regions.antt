-- The words of a machine, by what they are (a choice of this project).
use Rattle.std.specs.Prelude.{ℕ, Bool, true, false, ◌==◌, ◌&&◌, List, if◌then◌else◌}
use Rattle.gang_types.specs.Lanes.{Lanes}
use Rattle.gang_types.specs.Masks.{lanes_of_word}
use Rattle.gang_model.specs.Running.Lanes.{at}

-- the parts of a level of a frame: what each lane of the gang waits for; and of a foreach form the number of its rounds, what it counts, and
-- the values of `foreach_unique`
pub data LevelPart : Type 0 where
  NumbersOf EndOf CountersOf ValuesOf : LevelPart

-- the parts of a frame's head: the number of its function, the lanes of its call, those of them that have returned, the result so far, how
-- many foreach forms have begun that may not be over, and the parts of its levels. Level 0 is the function's body, and has numbers alone.
pub data Head : Type 0 where
  FunctionOf LanesOf ReturnedOf ResultOf OpenOf : Head
  LevelOf : (level : ℕ) → LevelPart → Head

-- what words there are: of a file-scope variable, of an array that the entry is given, by the number of its parameter, how many frames
-- there are, of a part of a frame's head, and of a variable of a frame, by its number in its function. The entry's frame is frame 0.
pub data Region : Type 0 where
  OfFile : (number : ℕ) → Region
  OfEntry : (number : ℕ) → Region
  Depth : Region
  OfHead : (frame : ℕ) → Head → Region
  OfLocal : (frame number : ℕ) → Region

-- the words of each region, none of one that there is not
abbrev pub Regions : Type 0
Regions = Region → List ℕ

-- a part of a level of a frame
abbrev pub OfLevel : (frame level : ℕ) → LevelPart → Region
OfLevel frame level part = OfHead frame (LevelOf level part)

abbrev pub same_level_part : LevelPart → LevelPart → Bool
same_level_part NumbersOf NumbersOf = true
same_level_part EndOf EndOf = true
same_level_part CountersOf CountersOf = true
same_level_part ValuesOf ValuesOf = true
same_level_part NumbersOf other = false
same_level_part EndOf other = false
same_level_part CountersOf other = false
same_level_part ValuesOf other = false

abbrev pub same_head : Head → Head → Bool
same_head FunctionOf FunctionOf = true
same_head LanesOf LanesOf = true
same_head ReturnedOf ReturnedOf = true
same_head ResultOf ResultOf = true
same_head OpenOf OpenOf = true
same_head (LevelOf k a) (LevelOf l b) = (k == l) && same_level_part a b
same_head FunctionOf other = false
same_head LanesOf other = false
same_head ReturnedOf other = false
same_head ResultOf other = false
same_head OpenOf other = false
same_head (LevelOf k a) other = false

abbrev pub same_region : Region → Region → Bool
same_region (OfFile m) (OfFile n) = m == n
same_region (OfEntry m) (OfEntry n) = m == n
same_region Depth Depth = true
same_region (OfHead i a) (OfHead j b) = (i == j) && same_head a b
same_region (OfLocal i m) (OfLocal j n) = (i == j) && (m == n)
same_region (OfFile m) other = false
same_region (OfEntry m) other = false
same_region Depth other = false
same_region (OfHead i a) other = false
same_region (OfLocal i m) other = false

-- the regions with the words of one changed
abbrev pub with_region : Region → List ℕ → Regions → Regions
with_region region words regions other = if same_region region other then words else regions other

-- the lanes that the first word of a region keeps
abbrev pub lanes_in : (width : ℕ) → Regions → Region → Lanes
lanes_in width regions region = lanes_of_word width (at (regions region) 0)
