-- Lanes of the top frame's innermost level are sent on: the regions show the state after it.
use Rattle.std.proofs.Common.{◌≡◌, ◌≢◌, refl, sym, ap, ◌∙◌, subst, ℕ, suc, List, [], ◌∷◌, length, arith}
use Rattle.std.specs.Prelude.{false, ◌==◌}
use Rattle.std.proofs.lemmas.Bool.{and_left, and_right, ne_eqb}
use Rattle.gang_types.specs.Lanes.{Lanes}
use Rattle.gang_model.specs.Types.Tree.{StepNumber, Function, Program}
use Rattle.gang_model.specs.Running.State.{State}
use Rattle.mask_states.specs.Points.{closing_number, points_in}
use Rattle.mask_states.specs.Masked.{Level, sent, sent_in, closed}
use Rattle.mask_states.proofs.LaneNumbers.{length-sent}
use Rattle.machine_states.proofs.BeginLevels.{IsOutside, forms_kept, words_with, top_changed}
use Rattle.machine_states.proofs.InnermostLevels.{innermost, live_levels, live_long, live_sized}
use Rattle.machine_states.specs.Levels.{AreForms, Forms, LevelsWords, ShowsLevels, levels_in}
use Rattle.machine_states.specs.Variables.{Variables}
use Rattle.machine_states.specs.Regions.{same_level_part, NumbersOf, Depth, OfHead, Regions, LevelOf, OfLevel, OpenOf, EndOf, CountersOf, ValuesOf, LevelPart}
use Rattle.machine_states.specs.Shows.{level_words, Shows}
use Rattle.machine_states.specs.Effects.{sent_on}
use Rattle.machine_states.proofs.ChangedRegions.{region_here, part_away}
use Rattle.machine_states.proofs.FramesBelow.{same_level_words}
use Rattle.machine_states.proofs.LevelFrames.{levels_go, only_level}

abbrev first_numbers : List Level → List StepNumber
first_numbers [] = []
first_numbers (level ∷ below) = level.numbers

-- the innermost level has the numbers of its words
top_numbers : (w : ℕ) (words : LevelsWords) (end : StepNumber) (live : Forms) (top : Level) (below : List Level) → top ∷ below ≡ levels_in w words end live → top.numbers ≡ (words (length live)).numbers
top_numbers w words end [] top below e = ap first_numbers e
top_numbers w words end (form ∷ forms) top below e = ap first_numbers e

module _ (p : Program) (variables : Variables) (w i level : ℕ) (lanes : Lanes) (target : ℕ → StepNumber) (old : Regions) (long : length lanes ≡ w) where
  abbrev new : Regions
  new = sent_on i level lanes target old

  abbrev numbers_now : List StepNumber
  numbers_now = sent lanes target (old (OfLevel i level NumbersOf))

  numbers_are : new (OfLevel i level NumbersOf) ≡ numbers_now
  numbers_are = region_here numbers_now old (OfLevel i level NumbersOf)

  -- the other words of the level
  level_sent : level_words new i level ≡ words_with numbers_now (level_words old i level)
  level_sent = same_level_words (level_words new i level) (words_with numbers_now (level_words old i level)) (away EndOf refl) numbers_are (away CountersOf refl) (away ValuesOf refl)
    where
      away : (part : LevelPart) → same_level_part NumbersOf part ≡ false → new (OfLevel i level part) ≡ old (OfLevel i level part)
      away part h = part_away numbers_now old i (LevelOf level NumbersOf) (LevelOf level part) (and_right (level == level) (same_level_part NumbersOf part) h)

  -- the words of another level
  level_kept : (other : ℕ) → level ≢ other → level_words new i other ≡ level_words old i other
  level_kept other apart = same_level_words (level_words new i other) (level_words old i other) (away EndOf) (away NumbersOf) (away CountersOf) (away ValuesOf)
    where
      away : (part : LevelPart) → new (OfLevel i other part) ≡ old (OfLevel i other part)
      away part = part_away numbers_now old i (LevelOf level NumbersOf) (LevelOf other part) (and_left (level == other) (same_level_part NumbersOf part) (ne_eqb level other apart))

  waits_sent : (f : Function) (top : Level) (below : List Level) → length below ≡ level
      → ShowsLevels (points_in f) w (level_words old i) (old (OfHead i OpenOf)) (closing_number f) (top ∷ below)
      → ShowsLevels (points_in f) w (level_words new i) (new (OfHead i OpenOf)) (closing_number f) (closed (sent_in lanes target top ∷ below))
  waits_sent f top below under shown =
      let inner = innermost w (level_words old i) (closing_number f) shown.forms in
      let height : length inner.live ≡ level = omega (arith, under, live_long w (level_words old i) (closing_number f) (top ∷ below) shown.forms shown.levels_are inner) in
      let numbers_of_top : top.numbers ≡ old (OfLevel i level NumbersOf) =
      top_numbers w (level_words old i) (closing_number f) inner.live top below (shown.levels_are ∙ live_levels w (level_words old i) (closing_number f) shown.forms inner)
      ∙ ap (λ l. old (OfLevel i l NumbersOf)) height in
      let old_sized : length (old (OfLevel i level NumbersOf)) ≡ w =
      subst (λ l. length (old (OfLevel i l NumbersOf)) ≡ w) height
      (live_sized (points_in f) w (level_words old i) inner.live
      (forms_kept (points_in f) w (level_words old i) inner.over inner.live (subst (AreForms (points_in f) w (level_words old i)) inner.parts shown.are)) shown.body_sized) in
      let sized : length numbers_now ≡ w = length-sent lanes target (old (OfLevel i level NumbersOf)) (old_sized ∙ sym long) ∙ old_sized in
      let outside : IsOutside (points_in f) w (level_words old i) (level_words new i) (closing_number f) numbers_now sized inner.live = (
        subst (λ l. level_words new i l ≡ words_with numbers_now (level_words old i l)) (sym height) level_sent,
        λ other less. level_kept other (λ e. omega (arith, e, less, height)),
      ) in
      subst (λ numbers. ShowsLevels (points_in f) w (level_words new i) (new (OfHead i OpenOf)) (closing_number f) (closed (record top { numbers = sent lanes target numbers } ∷ below))) (sym numbers_of_top)
      (top_changed (points_in f) w (level_words old i) (level_words new i) (closing_number f) numbers_now sized (old (OfHead i OpenOf)) (new (OfHead i OpenOf)) (top ∷ below) shown inner outside
      (λ other more. level_kept other (λ e. omega (arith, e, more, height)))
      (part_away numbers_now old i (LevelOf level NumbersOf) OpenOf refl))

  -- the lanes wait for their new steps; the level may be over by that
  pub sent_shows : (state : State) (top : Level) (below : List Level) (rest : List (List Level)) → length below ≡ level
      → Shows p variables w old (record { state = state; levels = (top ∷ below) ∷ rest })
      → old Depth ≡ suc i ∷ [] → Shows p variables w (sent_on i level lanes target old) (record { state = state; levels = closed (sent_in lanes target top ∷ below) ∷ rest })
  sent_shows state top below rest under shows depth =
      levels_go p variables w i old new (only_level i level NumbersOf numbers_now old) (top ∷ below) (closed (sent_in lanes target top ∷ below))
      (λ frame shown. waits_sent shown.function top below under shown.waits) state rest shows depth
