-- Breakpoints and watches that a line names by their numbers: they are deleted, disabled or enabled, one after another.
use Rattle.std.specs.Prelude.{ℕ, List, [], ◌∷◌, ◌++◌, filter, map, take, Some}
use Rattle.gang_model.specs.Debugger.Debugger.{Debugger}
use Rattle.conditional_stops.specs.Watches.{watch_number}
use Rattle.prompt_lines.specs.Numbers.{names_number}
use Rattle.prompt_scenes.specs.Conditions.{forgotten_by, disabled, enabled}
use Rattle.prompt_scenes.specs.FrameWatches.{without_frames}
use Rattle.prompt_scenes.specs.Holding.{Held}

-- the numbers of all breakpoints and watches, those of frames behind the others
abbrev pub all_numbers : Debugger → Held → List ℕ
all_numbers d h = map (λ entry. entry.0) d.stops ++ map watch_number h.frames

-- those that a line names: 80 at most, as many as can be there
abbrev pub numbers_named : Debugger → Held → (text : List ℕ) → List ℕ
numbers_named d h text = take 80 (filter (λ number. names_number number text) (all_numbers d h))

-- what was said of one that is deleted is forgotten
abbrev pub after_deleted : ℕ → Held → Held
after_deleted number h = forgotten_by (Some (Some number)) (without_frames (Some (Some number)) h)

-- the same of some
abbrev pub deleted_each : List ℕ → Held → Held
deleted_each [] h = h
deleted_each (number ∷ numbers) h = deleted_each numbers (after_deleted number h)

-- some are
abbrev pub disabled_each : List ℕ → Held → Held
disabled_each [] h = h
disabled_each (number ∷ numbers) h = disabled_each numbers (disabled number h)

-- some are
abbrev pub enabled_each : List ℕ → Held → Held
enabled_each [] h = h
enabled_each (number ∷ numbers) h = enabled_each numbers (enabled number h)
