-- What a frame's regions hold once a foreach form has begun in the level above one of it.
use Rattle.std.proofs.Common.{◌≡◌, ◌≢◌, refl, ◌∙◌, ℕ, suc, ◌<◌, false, List, [], ◌∷◌, arith}
use Rattle.std.specs.Prelude.{◌==◌}
use Rattle.std.proofs.lemmas.Bool.{and_left, and_right, ne_eqb}
use Rattle.gang_types.specs.Lanes.{Lanes}
use Rattle.gang_model.specs.Types.Tree.{StepNumber}
use Rattle.mask_states.specs.Masked.{sent}
use Rattle.machine_states.specs.Regions.{LevelPart, NumbersOf, EndOf, CountersOf, ValuesOf, Head, OpenOf, LevelOf, OfHead, OfLevel, Regions, same_level_part, same_head, same_region, with_region}
use Rattle.machine_states.specs.Shows.{level_words}
use Rattle.machine_states.specs.Effects.{begun_in, sent_on}
use Rattle.machine_states.proofs.BeginLevels.{words_with}
use Rattle.machine_states.proofs.ChangedRegions.{region_here, region_away, part_away}
use Rattle.machine_states.proofs.FramesBelow.{same_level_words}
use Rattle.machine_states.proofs.LevelFrames.{OnlyLevels, only_level, only_open, only_then}

module _ (i level : ℕ) (rounds : StepNumber) (numbers counters values : List ℕ) (regions : Regions) where
  abbrev ended : Regions
  ended = with_region (OfLevel i (suc level) EndOf) (rounds ∷ []) regions

  abbrev numbered : Regions
  numbered = with_region (OfLevel i (suc level) NumbersOf) numbers ended

  abbrev counting : Regions
  counting = with_region (OfLevel i (suc level) CountersOf) counters numbered

  abbrev valued : Regions
  valued = with_region (OfLevel i (suc level) ValuesOf) values counting

  abbrev new : Regions
  new = begun_in i level rounds numbers counters values regions

  -- the heads that have no part in it
  pub head_away : (j : ℕ) (part : Head) → ((a : LevelPart) → same_region (OfLevel i (suc level) a) (OfHead j part) ≡ false) → same_region (OfHead i OpenOf) (OfHead j part) ≡ false
      → begun_in i level rounds numbers counters values regions (OfHead j part) ≡ regions (OfHead j part)
  head_away j part levels begins =
      region_away (suc level ∷ []) valued (OfHead i OpenOf) (OfHead j part) begins
      ∙ region_away values counting (OfLevel i (suc level) ValuesOf) (OfHead j part) (levels ValuesOf)
      ∙ region_away counters numbered (OfLevel i (suc level) CountersOf) (OfHead j part) (levels CountersOf)
      ∙ region_away numbers ended (OfLevel i (suc level) NumbersOf) (OfHead j part) (levels NumbersOf)
      ∙ region_away (rounds ∷ []) regions (OfLevel i (suc level) EndOf) (OfHead j part) (levels EndOf)

  -- other frames
  pub frame_away : (j : ℕ) (part : Head) → i ≢ j → begun_in i level rounds numbers counters values regions (OfHead j part) ≡ regions (OfHead j part)
  frame_away j part other =
      head_away j part (λ a. and_left (i == j) (same_head (LevelOf (suc level) a) part) (ne_eqb i j other)) (and_left (i == j) (same_head OpenOf part) (ne_eqb i j other))

  -- other levels of the frame
  pub level_away : (other : ℕ) (part : LevelPart) → suc level ≢ other → begun_in i level rounds numbers counters values regions (OfLevel i other part) ≡ regions (OfLevel i other part)
  level_away other part h =
      head_away i (LevelOf other part)
      (λ a. and_right (i == i) (same_head (LevelOf (suc level) a) (LevelOf other part)) (and_left (suc level == other) (same_level_part a part) (ne_eqb (suc level) other h)))
      (and_right (i == i) false refl)

  -- its own level
  past : (words : List ℕ) (before : Regions) (part other : LevelPart) → same_level_part part other ≡ false
      → with_region (OfLevel i (suc level) part) words before (OfLevel i (suc level) other) ≡ before (OfLevel i (suc level) other)
  past words before part other h =
      part_away words before i (LevelOf (suc level) part) (LevelOf (suc level) other) (and_right (suc level == suc level) (same_level_part part other) h)

  past_open : (part : LevelPart) → new (OfLevel i (suc level) part) ≡ valued (OfLevel i (suc level) part)
  past_open part = part_away (suc level ∷ []) valued i OpenOf (LevelOf (suc level) part) refl

  pub level_begun : level_words (begun_in i level rounds numbers counters values regions) i (suc level) ≡ record { end = rounds ∷ []; numbers = numbers; counters = counters; values = values }
  level_begun =
      same_level_words (level_words new i (suc level)) (record { end = rounds ∷ []; numbers = numbers; counters = counters; values = values })
      (past_open EndOf ∙ past values counting ValuesOf EndOf refl ∙ past counters numbered CountersOf EndOf refl ∙ past numbers ended NumbersOf EndOf refl
      ∙ region_here (rounds ∷ []) regions (OfLevel i (suc level) EndOf))
      (past_open NumbersOf ∙ past values counting ValuesOf NumbersOf refl ∙ past counters numbered CountersOf NumbersOf refl
      ∙ region_here numbers ended (OfLevel i (suc level) NumbersOf))
      (past_open CountersOf ∙ past values counting ValuesOf CountersOf refl ∙ region_here counters numbered (OfLevel i (suc level) CountersOf))
      (past_open ValuesOf ∙ region_here values counting (OfLevel i (suc level) ValuesOf))

  pub open_begun : begun_in i level rounds numbers counters values regions (OfHead i OpenOf) ≡ suc level ∷ []
  open_begun = region_here (suc level ∷ []) valued (OfHead i OpenOf)

module _ (i level : ℕ) (lanes : Lanes) (target : ℕ → StepNumber) (rounds : StepNumber) (numbers counters values : List ℕ) (regions : Regions) where
  abbrev sent_away : Regions
  sent_away = sent_on i level lanes target regions

  abbrev after : Regions
  after = begun_in i level rounds numbers counters values sent_away

  abbrev numbers_now : List StepNumber
  numbers_now = sent lanes target (regions (OfLevel i level NumbersOf))

  -- nothing else is changed
  pub begun_only : OnlyLevels i regions (begun_in i level rounds numbers counters values (sent_on i level lanes target regions))
  begun_only =
      let first = sent_away in
      let ends = ended i level rounds numbers counters values first in
      let numbering = numbered i level rounds numbers counters values first in
      let counts = counting i level rounds numbers counters values first in
      let values_now = valued i level rounds numbers counters values first in
      only_then i regions first after (only_level i level NumbersOf numbers_now regions)
      (only_then i first ends after (only_level i (suc level) EndOf (rounds ∷ []) first)
      (only_then i ends numbering after (only_level i (suc level) NumbersOf numbers ends)
      (only_then i numbering counts after (only_level i (suc level) CountersOf counters numbering)
      (only_then i counts values_now after (only_level i (suc level) ValuesOf values counts) (only_open i (suc level ∷ []) values_now)))))

  -- the levels below are as before, and the level that the form stands in has other numbers
  pub below_begun : (other : ℕ) → other < level → level_words after i other ≡ level_words regions i other
  below_begun other below = same_level_words (level_words after i other) (level_words regions i other) (same EndOf) (same NumbersOf) (same CountersOf) (same ValuesOf)
    where
      same : (part : LevelPart) → after (OfLevel i other part) ≡ regions (OfLevel i other part)
      same part =
          level_away i level rounds numbers counters values sent_away other part (λ e. omega (arith, e, below))
          ∙ part_away numbers_now regions i (LevelOf level NumbersOf) (LevelOf other part) (and_left (level == other) (same_level_part NumbersOf part) (ne_eqb level other (λ e. omega (arith, e, below))))

  pub outer_begun : level_words after i level ≡ words_with numbers_now (level_words regions i level)
  outer_begun = same_level_words (level_words after i level) (words_with numbers_now (level_words regions i level))
      (kept EndOf ∙ past EndOf refl)
      (kept NumbersOf ∙ region_here numbers_now regions (OfLevel i level NumbersOf))
      (kept CountersOf ∙ past CountersOf refl)
      (kept ValuesOf ∙ past ValuesOf refl)
    where
      kept : (part : LevelPart) → after (OfLevel i level part) ≡ sent_away (OfLevel i level part)
      kept part = level_away i level rounds numbers counters values sent_away level part (λ e. omega (arith, e))

      past : (part : LevelPart) → same_level_part NumbersOf part ≡ false → sent_away (OfLevel i level part) ≡ regions (OfLevel i level part)
      past part h = part_away numbers_now regions i (LevelOf level NumbersOf) (LevelOf level part) (and_right (level == level) (same_level_part NumbersOf part) h)
