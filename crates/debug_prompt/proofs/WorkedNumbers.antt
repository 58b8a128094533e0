-- Lines that name breakpoints and watches by their numbers, and what is done for them, computed.
use Rattle.std.proofs.Common.{◌≡◌, refl, ℕ, [], ◌∷◌}
use Rattle.std.specs.Prelude.{◌^◌, None, Some, codes}
use Rattle.gang_types.specs.declared.places.VarId.TheVariants as id
use Rattle.gang_model.specs.Debugger.Debugger.{Debugger, DoContinue, DoDelete, Line, Setting}
use Rattle.conditional_stops.specs.declared.going.Direction.TheVariants as direction
use Rattle.conditional_stops.specs.declared.watches.Watch.{Watch}
use Rattle.conditional_stops.specs.declared.watches.Watch.TheVariants as watch
use Rattle.conditional_stops.specs.Tables.{nothing}
use Rattle.prompt_lines.specs.Sources.{Sheet}
use Rattle.prompt_scenes.specs.Holding.{Held, held_at_start, nothing_kept}
use Rattle.prompt_going.specs.GoingOn.{way_by}
use Rattle.debug_prompt.specs.Doing.{commands_of, held_after}

source : Sheet
source = record { name = codes "go.ispc"; text = codes "export void go() {}" }

of_frame : ℕ → Watch
of_frame number = watch.Variable (record { number = number; depth = 1; id = id.Local 4; at = None; name = record { items = codes "v" } })

-- breakpoints 1, 2 and 4 are there, of which 2 has a condition, and the watch 5 of a frame
there : Debugger
there = record { events = []; kept = 0; history = 2 ^ 62; stops = (1, Line 5) ∷ (2, Line 6) ∷ (4, Line 5) ∷ []; next = 6 }

here : Held
here = record held_at_start { frames = of_frame 5 ∷ []; table = record nothing { conditions = (2, codes "i == 3") ∷ [] } }

delete_some_row : (s : Setting) → commands_of source nothing_kept here s there (codes "delete 4-7 1") ≡ DoDelete (Some 1) ∷ DoDelete (Some 4) ∷ []
unfolding there here of_frame
delete_some_row s = refl

deleted_some_row : (s : Setting) → held_after source nothing_kept here s there (codes "d 2-7 9") ≡ held_at_start
unfolding there here of_frame
deleted_some_row s = refl

-- one that is upside down spoils the line
delete_none_row : (s : Setting) → commands_of source nothing_kept here s there (codes "delete 1 7-4") ≡ []
unfolding there here of_frame
delete_none_row s = refl

deleted_none_row : (s : Setting) → held_after source nothing_kept here s there (codes "delete 5 7-4") ≡ here
unfolding there here of_frame
deleted_none_row s = refl

disable_row : (s : Setting) → held_after source nothing_kept here s there (codes "disable 1 4-9") ≡ record here { table = record here.table { disabled = 1 ∷ 4 ∷ 5 ∷ [] } }
unfolding there here of_frame
disable_row s = refl

-- without a number all are disabled, and those that are conditions stay
disable_all_row : (s : Setting) → held_after source nothing_kept here s there (codes "disable") ≡ record here { table = record here.table { disabled = 1 ∷ 2 ∷ 4 ∷ 5 ∷ [] } }
unfolding there here of_frame
disable_all_row s = refl

off : Held
off = record here { table = record here.table { disabled = 1 ∷ 2 ∷ 5 ∷ [] } }

enable_row : (s : Setting) → held_after source nothing_kept off s there (codes "enable 1 3 5") ≡ record here { table = record here.table { disabled = 2 ∷ [] } }
unfolding there here off of_frame
enable_row s = refl

enable_all_row : (s : Setting) → held_after source nothing_kept off s there (codes "enable breakpoints") ≡ here
unfolding there here off of_frame
enable_all_row s = refl

once_row : (s : Setting) → held_after source nothing_kept off s there (codes "enable once 1") ≡ off
unfolding there here off of_frame
once_row s = refl

-- one that is disabled makes `continue` go on to a stop that counts
disabled_way_row : way_by (record held_at_start { table = record nothing { disabled = 3 ∷ [] } }) (Some DoContinue) ≡ Some direction.Forward
disabled_way_row = refl
