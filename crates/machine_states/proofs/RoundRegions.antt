-- What a frame's regions hold once the next round of a foreach form is taken: what is left is counted, and lanes go on.
use Rattle.std.proofs.Common.{◌≡◌, ◌≢◌, refl, ap, ◌∙◌, ℕ, false, List}
use Rattle.std.specs.Prelude.{◌==◌}
use Rattle.std.proofs.lemmas.Bool.{and_left, and_right, ne_eqb}
use Rattle.gang_types.specs.Lanes.{Lanes}
use Rattle.gang_model.specs.Types.Tree.{StepNumber}
use Rattle.mask_states.specs.Masked.{sent}
use Rattle.machine_states.specs.Regions.{OpenOf, NumbersOf, EndOf, CountersOf, ValuesOf, LevelOf, LevelPart, OfHead, OfLevel, Regions, same_level_part, with_region}
use Rattle.machine_states.specs.Shows.{level_words}
use Rattle.machine_states.specs.Effects.{sent_on}
use Rattle.machine_states.proofs.ChangedRegions.{region_here, part_away}
use Rattle.machine_states.proofs.FramesBelow.{same_level_words}
use Rattle.machine_states.proofs.LevelFrames.{OnlyLevels, only_level, only_then}

module _ (i level : ℕ) (lanes : Lanes) (body : StepNumber) (counters : List ℕ) (regions : Regions) where
  abbrev counting : Regions
  counting = with_region (OfLevel i level CountersOf) counters regions

  abbrev numbers_now : List StepNumber
  numbers_now = sent lanes (λ k. body) (regions (OfLevel i level NumbersOf))

  abbrev new : Regions
  new = sent_on i level lanes (λ k. body) counting

  -- another part of a level
  past : (words : List ℕ) (before : Regions) (part other : LevelPart) → same_level_part part other ≡ false → with_region (OfLevel i level part) words before (OfLevel i level other) ≡ before (OfLevel i level other)
  past words before part other h = part_away words before i (LevelOf level part) (LevelOf level other) (and_right (level == level) (same_level_part part other) h)

  past_sent : (part : LevelPart) → same_level_part NumbersOf part ≡ false → new (OfLevel i level part) ≡ counting (OfLevel i level part)
  past_sent part h = past (sent lanes (λ k. body) (counting (OfLevel i level NumbersOf))) counting NumbersOf part h

  pub round_here : level_words (sent_on i level lanes (λ k. body) (with_region (OfLevel i level CountersOf) counters regions)) i level
      ≡ record (level_words regions i level) { numbers = sent lanes (λ k. body) (regions (OfLevel i level NumbersOf)); counters = counters }
  round_here =
      same_level_words (level_words new i level) (record (level_words regions i level) { numbers = numbers_now; counters = counters })
      (past_sent EndOf refl ∙ past counters regions CountersOf EndOf refl)
      (region_here (sent lanes (λ k. body) (counting (OfLevel i level NumbersOf))) counting (OfLevel i level NumbersOf) ∙ ap (sent lanes (λ k. body)) (past counters regions CountersOf NumbersOf refl))
      (past_sent CountersOf refl ∙ region_here counters regions (OfLevel i level CountersOf))
      (past_sent ValuesOf refl ∙ past counters regions CountersOf ValuesOf refl)

  -- the words of another level
  pub round_away : (other : ℕ) → level ≢ other
      → level_words (sent_on i level lanes (λ k. body) (with_region (OfLevel i level CountersOf) counters regions)) i other ≡ level_words regions i other
  round_away other apart = same_level_words (level_words new i other) (level_words regions i other) (away EndOf) (away NumbersOf) (away CountersOf) (away ValuesOf)
    where
      away : (part : LevelPart) → new (OfLevel i other part) ≡ regions (OfLevel i other part)
      away part =
          part_away (sent lanes (λ k. body) (counting (OfLevel i level NumbersOf))) counting i (LevelOf level NumbersOf) (LevelOf other part)
          (and_left (level == other) (same_level_part NumbersOf part) (ne_eqb level other apart))
          ∙ part_away counters regions i (LevelOf level CountersOf) (LevelOf other part) (and_left (level == other) (same_level_part CountersOf part) (ne_eqb level other apart))

  pub round_open : sent_on i level lanes (λ k. body) (with_region (OfLevel i level CountersOf) counters regions) (OfHead i OpenOf) ≡ regions (OfHead i OpenOf)
  round_open =
      part_away (sent lanes (λ k. body) (counting (OfLevel i level NumbersOf))) counting i (LevelOf level NumbersOf) OpenOf refl
      ∙ part_away counters regions i (LevelOf level CountersOf) OpenOf refl

  pub round_only : OnlyLevels i regions (sent_on i level lanes (λ k. body) (with_region (OfLevel i level CountersOf) counters regions))
  round_only =
      only_then i regions counting new (only_level i level CountersOf counters regions) (only_level i level NumbersOf (sent lanes (λ k. body) (counting (OfLevel i level NumbersOf))) counting)
