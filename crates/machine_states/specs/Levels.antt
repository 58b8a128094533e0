-- The levels of a frame, as its words have them: one for each foreach form that has begun and is not over, and one for the function's body.
use Rattle.std.specs.Prelude.{◌≡◌, ℕ, suc, true, List, [], ◌∷◌, ◌++◌, length, drop, ℤ}
use Rattle.gang_types.specs.declared.types.IntType.TheVariants.{Int32}
use Rattle.gang_types.specs.Masks.{lanes_of_word}
use Rattle.gang_types.specs.Values.{value_of}
use Rattle.gang_model.specs.Running.Lanes.{at}
use Rattle.gang_model.specs.Types.Tree.{StepNumber, Dimension, RoundsOf, Rows, Tiles, EachLane, EachValue}
use Rattle.mask_states.specs.Points.{Point, Begin, Turn}
use Rattle.mask_states.specs.Placed.{HasPoint}
use Rattle.mask_states.specs.Masked.{Level, closed, is_over}
use Rattle.foreach_lowering.specs.Grids.{Grid, grid}
use Rattle.foreach_lowering.specs.Kept.{Kept, kept_lanes, turns_left}
use Rattle.foreach_lowering.specs.Law.{IsKept}

-- the words of a level: what each lane of the gang waits for; and of a form the number of its rounds, what it counts, and the values of
-- `foreach_unique`
pub record LevelWords : Type 0 where
  pub end : List ℕ
  pub numbers : List ℕ
  pub counters : List ℕ
  pub values : List ℕ

-- those of the levels of a frame, by how many levels are below: the function's body, which has numbers alone, has level 0
abbrev pub LevelsWords : Type 0
LevelsWords = (level : ℕ) → LevelWords

-- ---- what a form keeps

-- the bounds of so many dimensions: low and high of each, one behind the other
abbrev pub bounds_in : List Dimension → (counters : List ℕ) → List (ℤ × ℤ)
bounds_in [] counters = []
bounds_in (dimension ∷ dimensions) counters = (value_of Int32 (at counters 0), value_of Int32 (at counters 1)) ∷ bounds_in dimensions (drop 2 counters)

-- what is left of a domain stands behind the bounds of three dimensions
abbrev pub left_in : (counters : List ℕ) → Grid
left_in counters = grid (at counters 6) (at counters 7) (at counters 8)

abbrev pub kept_domain : List Dimension → (counters : List ℕ) → Kept
kept_domain dimensions counters = record { bounds = bounds_in dimensions counters; left = left_in counters; lanes = []; values = [] }

-- of the other two forms the first counter keeps the lanes still to come
abbrev pub kept_in : (width : ℕ) → RoundsOf → LevelWords → Kept
kept_in width (Rows dimensions) words = kept_domain dimensions words.counters
kept_in width (Tiles dimensions) words = kept_domain dimensions words.counters
kept_in width (EachLane x) words = kept_lanes (lanes_of_word width (at words.counters 0)) []
kept_in width (EachValue x e) words = kept_lanes (lanes_of_word width (at words.counters 0)) words.values

-- ---- levels

-- forms that have begun, the innermost first
abbrev pub Forms : Type 0
Forms = List RoundsOf

-- a function's body that lanes wait in
abbrev pub body_level : (end : StepNumber) → List StepNumber → Level
body_level end numbers = record { end = end; turns = []; numbers = numbers }

-- a form that lanes wait in
abbrev pub form_level : (width : ℕ) → RoundsOf → LevelWords → Level
form_level width form words = record { end = at words.end 0; turns = turns_left form width (kept_in width form words); numbers = words.numbers }

-- the levels of these forms and of the body
abbrev pub levels_in : (width : ℕ) → LevelsWords → (end : StepNumber) → Forms → List Level
levels_in width words end [] = body_level end (words 0).numbers ∷ []
levels_in width words end (form ∷ forms) = form_level width form (words (suc (length forms))) ∷ levels_in width words end forms

-- a level is that of a form of these points: its end is the number of the form's rounds, it has a number and a value for each lane, and
-- what it keeps is kept by the form
pub record IsForm (points : List Point) (width : ℕ) (words : LevelWords) (form : RoundsOf) : Type 0 where
  pub head : StepNumber
  pub next : StepNumber
  pub body : StepNumber
  pub begins : HasPoint points head (Begin form (at words.end 0) next)
  pub turns : HasPoint points (at words.end 0) (Turn body)
  pub sized : length words.numbers ≡ width
  pub counted : length words.counters ≡ 9
  pub valued : length words.values ≡ width
  pub kept : IsKept form width (kept_in width form words)

abbrev pub AreForms : List Point → (width : ℕ) → LevelsWords → Forms → Type 0
AreForms points width words [] = Unit {0}
AreForms points width words (form ∷ forms) = IsForm points width (words (suc (length forms))) form × AreForms points width words forms

-- The levels are those of the forms that have begun, how many of which one word says, without those that are over. Words of forms that are
-- over are left in place, so a step of a body writes no other words than those of its level.
pub record ShowsLevels (points : List Point) (width : ℕ) (words : LevelsWords) (begun : List ℕ) (end : StepNumber) (levels : List Level) : Type 0 where
  pub forms : Forms
  pub are : AreForms points width words forms
  pub counted : begun ≡ length forms ∷ []
  pub body_sized : length (words 0).numbers ≡ width
  pub levels_are : levels ≡ closed (levels_in width words end forms)

-- ---- the innermost one

-- the innermost of forms, those before these, are over
abbrev pub AreOver : (width : ℕ) → LevelsWords → (over live : Forms) → Type 0
AreOver width words [] live = Unit {0}
AreOver width words (form ∷ over) live = (is_over (form_level width form (words (suc (length (over ++ live))))) ≡ true) × AreOver width words over live

-- forms, by those that are over and the others; the innermost of these is not over
pub record Innermost (width : ℕ) (words : LevelsWords) (end : StepNumber) (forms : Forms) : Type 0 where
  pub over : Forms
  pub live : Forms
  pub parts : forms ≡ over ++ live
  pub are_over : AreOver width words over live
  pub closed_is : closed (levels_in width words end live) ≡ levels_in width words end live
